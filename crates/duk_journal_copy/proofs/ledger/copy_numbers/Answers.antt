use Rattle.std.proofs.Common.{◌≡◌, ◌∙◌, ◌+◌, ◌*◌, ◌-◌, ℕ, arith, length, sym}
use Rattle.duk_store.specs.DiskRecords.{records_meaning}
use Rattle.duk_store.specs.Listed.{IsItemRead}
use Rattle.duk_store.specs.LogFormat.{SaysNumber, log_format}
use Rattle.duk_store.specs.Records.{after_gate}
use Rattle.duk_store.specs.declared.log_format.LogFormat.{LogFormat}
use Rattle.duk_journal_copy.proofs.LedgerRecords.{counted_number, log_stays_none, log_stays_then, number_on, numbers_none}
use Rattle.duk_journal_copy.proofs.Results.{where_ok}
use Rattle.duk_journal_copy.proofs.WrittenDisks.{bytes_none, bytes_then, outside_none, outside_then, outside_wider}
use Rattle.duk_journal_copy.proofs.ledger.copy_numbers.Goals as goal

pub loop-place-init : goal.loop-place-init
loop-place-init g c =
    let log = records_meaning g.D.Disk.meaning (λ (format : LogFormat). log_format) in
    let new = g.E.Disk.meaning.state_of c.args.new.now in
    record {
      inside = omega arith;
      running = c.requires.running;
      counted = sym c.requires.count;
      stays = log_stays_none (log.state_of c.args.old.now);
      bytes = bytes_none (g.D.Disk.meaning.state_of c.args.old.now.disk);
      so_far = numbers_none c.args.identity (log.state_of c.args.old.now) new (λ k.
          let long : length new.reads ≡ new.size = g.E.Disk.leaves_its_size c.args.new.now k new.reads (g.E.Disk.reads_may_stay c.args.new.now k) in
          omega (arith, long, c.requires.room));
      outside = outside_none 32 (32 * (1 + c.args.count)) new;
    }

pub loop-place-preserved : goal.loop-place-preserved
loop-place-preserved g c =
    let i = c.loop-place.invariant in
    let log = records_meaning g.D.Disk.meaning (λ (format : LogFormat). log_format) in
    let old = log.state_of c.args.old.now in
    let old' = log.state_of c.loop-place.old in
    let old'' = log.state_of c.read_record.new.self in
    let new = g.E.Disk.meaning.state_of c.args.new.now in
    let new' = g.E.Disk.meaning.state_of c.loop-place.new in
    let new'' = g.E.Disk.meaning.state_of c.write_issue.new.new in
    let place = c.loop-place.place in
    let count = c.args.count in
    let read : IsItemRead log (λ number. (followers : ℕ) × SaysNumber 0 (0 + place) followers number (after_gate c.read_record.new.bytes)) c.loop-place.old c.read_record.new.self place =
    where_ok _ c.read_record.result (sym c.if-is_err.ensures.value) c.read_record.ensures.read in
    let wrote = where_ok _ c.write_issue.result (sym c.if-is_err-2.ensures.value) c.write_issue.ensures.written in
    record {
      inside = omega (arith, c.loop-place-test.true);
      running = read.stays.running ∙ i.running;
      counted = where_ok _ c.read_record.result (sym c.if-is_err.ensures.value) c.read_record.ensures.counted ∙ i.counted;
      stays = log_stays_then old old' old'' i.stays read.stays;
      bytes = bytes_then (g.D.Disk.meaning.state_of c.args.old.now.disk) (g.D.Disk.meaning.state_of c.loop-place.old.disk) (g.D.Disk.meaning.state_of c.read_record.new.self.disk)
          i.bytes c.read_record.ensures.bytes;
      so_far = number_on old old' i.stays 0 (0 + place) place c.read_record.new.bytes read.says_it c.in-Some.issued c.in-Some.ensures.issue new new' new'' c.args.identity count
          (λ k. g.E.Disk.leaves_its_size c.args.new.now k new.reads (g.E.Disk.reads_may_stay c.args.new.now k))
          c.requires.room c.loop-place-test.true i.so_far wrote;
      outside = outside_then 32 (32 * (1 + count)) new new' new'' i.so_far.nature i.outside
          (outside_wider 32 (32 * (1 + count)) (32 * (1 + place)) (32 * (1 + (1 + place)) - 32 * (1 + place)) new' new''
          (omega arith) (omega (arith, c.loop-place-test.true)) c.write_issue.ensures.outside);
    }

pub returns-in_default-clause-failed : goal.returns-in_default-clause-failed
returns-in_default-clause-failed g c =
    let i = c.loop-place.invariant in
    let log = records_meaning g.D.Disk.meaning (λ (format : LogFormat). log_format) in
    let place = c.loop-place.place in
    let read : IsItemRead log (λ number. (followers : ℕ) × SaysNumber 0 (0 + place) followers number (after_gate c.read_record.new.bytes)) c.loop-place.old c.read_record.new.self place =
    where_ok _ c.read_record.result (sym c.if-is_err.ensures.value) c.read_record.ensures.read in
    counted_number (log.state_of c.args.old.now) (log.state_of c.loop-place.old) i.stays 0 (0 + place) place c.read_record.new.bytes read.says_it
    c.in_default.ensures.none
