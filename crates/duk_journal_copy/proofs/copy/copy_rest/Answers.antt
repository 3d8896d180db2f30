use Rattle.std.proofs.Common.{◌≡◌, ◌∙◌, ◌+◌, ◌*◌, ◌-◌, ℕ, ap, arith, length, replicate, sym}
use Rattle.std.proofs.lemmas.Result.{err_from_is_err_and}
use Rattle.duk_journal.specs.Header.{journal_kind}
use Rattle.duk_store.specs.Disk.{written}
use Rattle.duk_journal_copy.proofs.CopiedRecords.{front_not, later_not}
use Rattle.duk_journal_copy.proofs.Results.{where_ok}
use Rattle.duk_journal_copy.proofs.WholeBytes.{rest_of_file}
use Rattle.duk_journal_copy.proofs.WrittenDisks.{keeps_on, outside_then, outside_wider}
use Rattle.duk_journal_copy.proofs.copy.copy_rest.Goals as goal

pub returns-in_err-copy_records-clause-failed : goal.returns-in_err-copy_records-clause-failed
returns-in_err-copy_records-clause-failed g c =
    let front = where_ok _ c.write_front.result (sym c.if-is_err.ensures.value) c.write_front.ensures.written in
    let p = err_from_is_err_and c.from_residual.result c.from_residual.ensures.1 in
    rw (p.1, p.2) (front_not c.args.kept c.args.own (g.D.Disk.meaning.state_of c.args.old.now) (g.D.Disk.meaning.state_of c.copy_records.new.old)
    (g.E.Disk.meaning.state_of c.args.new.now) (g.E.Disk.meaning.state_of c.write_front.new.disk) (g.E.Disk.meaning.state_of c.copy_records.new.new)
    c.in_err-copy_records.field-0.0 front.nature front.no_failure c.in_err-copy_records.ensures.failed)

pub returns-in_err-copy_records-clause-outside : goal.returns-in_err-copy_records-clause-outside
returns-in_err-copy_records-clause-outside g c =
    let new = g.E.Disk.meaning.state_of c.args.new.now in
    let front = g.E.Disk.meaning.state_of c.write_front.new.disk in
    let mid = g.E.Disk.meaning.state_of c.copy_records.new.new in
    outside_then 2 new.size new front mid c.write_front.ensures.nature
    (outside_wider 2 new.size 2 30 new front (omega arith) (omega (arith, c.requires.room)) c.write_front.ensures.outside)
    (outside_wider 2 new.size 32 (32 * (1 + c.args.kept.count) - 32) front mid (omega arith) (omega (arith, c.requires.room)) c.copy_records.ensures.outside)

pub returns-in-Ok-clause-copied : goal.returns-in-Ok-clause-copied
returns-in-Ok-clause-copied g c =
    let new = g.E.Disk.meaning.state_of c.args.new.now in
    let front = g.E.Disk.meaning.state_of c.write_front.new.disk in
    let mid = g.E.Disk.meaning.state_of c.copy_records.new.new in
    let last = g.E.Disk.meaning.state_of c.write_synced.new.disk in
    let count = c.args.kept.count in
    let first = where_ok _ c.write_front.result (sym c.if-is_err.ensures.value) c.write_front.ensures.written in
    let copied = c.in_ok-copy_records.ensures.copied in
    let behind = c.in-Ok.ensures.written in
    let size_is : c.size-end.result ≡ new.size = c.size-end.ensures ∙ copied.nature.size ∙ first.nature.size in
    record {
      stays = copied.stays;
      nature = keeps_on new mid last (keeps_on new front mid first.nature copied.nature) behind.written.nature;
      no_failure = behind.written.no_failure ∙ copied.no_failure ∙ first.no_failure;
      rest = λ k.
          let front_honest = first.nature.honest.0 k in
          let mid_honest = copied.nature.honest.0 front_honest in
          let got = copied.copied front_honest in
          let many : length got.0 ≡ 32 * count = got.1 ∙ omega arith in
          let long : length new.reads ≡ new.size = g.E.Disk.leaves_its_size c.args.new.now k new.reads (g.E.Disk.reads_may_stay c.args.new.now k) in (
            got.0,
            many,
            λ h place less. got.2 h place (omega (arith, less)),
            rest_of_file journal_kind c.args.identity (c.headers.ensures.length journal_kind c.args.identity) got.0 count new.size many c.requires.room new.reads front.reads mid.reads last.reads long (first.front k) got.3
                (behind.written.zeros mid_honest ∙ ap (λ (n : ℕ). written mid.reads (32 * (1 + count)) (replicate (n - 32 * (1 + count)) 0)) size_is),
          );
      leaves = λ k. behind.leaves (copied.nature.honest.0 (first.nature.honest.0 k));
    }

pub returns-in-Ok-clause-outside : goal.returns-in-Ok-clause-outside
returns-in-Ok-clause-outside g c =
    let new = g.E.Disk.meaning.state_of c.args.new.now in
    let front = g.E.Disk.meaning.state_of c.write_front.new.disk in
    let mid = g.E.Disk.meaning.state_of c.copy_records.new.new in
    let last = g.E.Disk.meaning.state_of c.write_synced.new.disk in
    let count = c.args.kept.count in
    let copied = c.in_ok-copy_records.ensures.copied in
    let size_is : c.size-end.result ≡ new.size = c.size-end.ensures ∙ copied.nature.size ∙ c.write_front.ensures.nature.size in
    outside_then 2 new.size new mid last (keeps_on new front mid c.write_front.ensures.nature copied.nature)
    (outside_then 2 new.size new front mid c.write_front.ensures.nature
    (outside_wider 2 new.size 2 30 new front (omega arith) (omega (arith, c.requires.room)) c.write_front.ensures.outside)
    (outside_wider 2 new.size 32 (32 * (1 + count) - 32) front mid (omega arith) (omega (arith, c.requires.room)) c.copy_records.ensures.outside))
    (outside_wider 2 new.size (32 * (1 + count)) (c.size-end.result - 32 * (1 + count)) mid last (omega arith) (omega (arith, size_is, c.requires.room)) c.write_synced.ensures.outside)

pub returns-in-Err-clause-failed : goal.returns-in-Err-clause-failed
returns-in-Err-clause-failed g c =
    let new = g.E.Disk.meaning.state_of c.args.new.now in
    let front = g.E.Disk.meaning.state_of c.write_front.new.disk in
    let mid = g.E.Disk.meaning.state_of c.copy_records.new.new in
    let last = g.E.Disk.meaning.state_of c.write_synced.new.disk in
    let first = where_ok _ c.write_front.result (sym c.if-is_err.ensures.value) c.write_front.ensures.written in
    let copied = c.in_ok-copy_records.ensures.copied in
    later_not c.args.kept c.args.own (g.D.Disk.meaning.state_of c.args.old.now) (g.D.Disk.meaning.state_of c.copy_records.new.old) new mid last c.in-Err.field-0
    copied.stays (keeps_on new front mid first.nature copied.nature) (copied.no_failure ∙ first.no_failure) c.write_synced.ensures.nature c.in-Err.ensures.failed

pub returns-in-Err-clause-outside : goal.returns-in-Err-clause-outside
returns-in-Err-clause-outside g c =
    let new = g.E.Disk.meaning.state_of c.args.new.now in
    let front = g.E.Disk.meaning.state_of c.write_front.new.disk in
    let mid = g.E.Disk.meaning.state_of c.copy_records.new.new in
    let last = g.E.Disk.meaning.state_of c.write_synced.new.disk in
    let count = c.args.kept.count in
    let copied = c.in_ok-copy_records.ensures.copied in
    let size_is : c.size-end.result ≡ new.size = c.size-end.ensures ∙ copied.nature.size ∙ c.write_front.ensures.nature.size in
    outside_then 2 new.size new mid last (keeps_on new front mid c.write_front.ensures.nature copied.nature)
    (outside_then 2 new.size new front mid c.write_front.ensures.nature
    (outside_wider 2 new.size 2 30 new front (omega arith) (omega (arith, c.requires.room)) c.write_front.ensures.outside)
    (outside_wider 2 new.size 32 (32 * (1 + count) - 32) front mid (omega arith) (omega (arith, c.requires.room)) c.copy_records.ensures.outside))
    (outside_wider 2 new.size (32 * (1 + count)) (c.size-end.result - 32 * (1 + count)) mid last (omega arith) (omega (arith, size_is, c.requires.room)) c.write_synced.ensures.outside)
