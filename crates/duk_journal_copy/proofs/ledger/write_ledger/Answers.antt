use Rattle.std.proofs.Common.{◌≡◌, ◌∙◌, ◌+◌, ◌*◌, ◌≤◌, ℕ, Bool, ap, arith, subst, sym}
use Rattle.std.specs.Prelude.{if◌then◌else◌}
use Rattle.duk_journal_copy.specs.Ledger.{IsLedgerCopied}
use Rattle.duk_ledger.specs.IssuedFormat.{ledger_kind}
use Rattle.duk_store.specs.DiskRecords.{count_in, records_meaning}
use Rattle.duk_store.specs.LogFormat.{log_format}
use Rattle.duk_store.specs.declared.log_format.LogFormat.{LogFormat}
use Rattle.duk_journal_copy.proofs.LedgerCopied.{counts_these, ledger_copied, ledger_in_part}
use Rattle.duk_journal_copy.proofs.Results.{where_ok}
use Rattle.duk_journal_copy.proofs.ledger.write_ledger.Goals as goal

pub returns-in-Ok-clause-copied : goal.returns-in-Ok-clause-copied
returns-in-Ok-clause-copied g c =
    let log = records_meaning g.D.Disk.meaning (λ (format : LogFormat). log_format) in
    let before = g.E.Disk.meaning.state_of c.args.new.now in
    let front = g.E.Disk.meaning.state_of c.write_front.new.disk in
    let mid = g.E.Disk.meaning.state_of c.copy_numbers.new.new in
    let last = g.E.Disk.meaning.state_of c.write_synced.new.disk in
    let after = g.E.Disk.meaning.state_of c.settle_head.new.disk in
    let count = c.len-count.result in
    let count_is : count ≡ count_in c.args.old.now.kept =
    c.len-count.ensures.counted ∙ ap (λ (running : Bool). if running then count_in c.args.old.now.kept else 0) c.requires.running in
    let room : 32 * (1 + count) ≤ before.size = omega (arith, count_is, c.requires.room) in
    let first = where_ok _ c.write_front.result (sym c.if-is_err.ensures.value) c.write_front.ensures.written in
    let behind = where_ok _ c.write_synced.result (sym c.if-is_err-2.ensures.value) c.write_synced.ensures.written in
    subst (λ (n : ℕ). IsLedgerCopied c.args.identity n (log.state_of c.args.old.now) before after) count_is
    (ledger_copied c.args.identity count c.size-end.result c.write_front.ensures.fits
    (c.headers.ensures.length ledger_kind c.args.identity) (c.headers.ensures.identity ledger_kind c.args.identity c.write_front.ensures.fits) (log.state_of c.args.old.now) before front mid last after room c.size-end.ensures
    (λ k. g.E.Disk.leaves_its_size c.args.new.now k before.reads (g.E.Disk.reads_may_stay c.args.new.now k))
    first c.in_ok-copy_numbers.ensures.copied behind
    c.one_list.ensures (counts_these log c.args.old.now count c.len-count.ensures.found c.requires.running count_is) c.in-Ok.ensures.settled)

pub returns-in-Ok-clause-in_part : goal.returns-in-Ok-clause-in_part
returns-in-Ok-clause-in_part g c =
    let log = records_meaning g.D.Disk.meaning (λ (format : LogFormat). log_format) in
    let before = g.E.Disk.meaning.state_of c.args.new.now in
    let front = g.E.Disk.meaning.state_of c.write_front.new.disk in
    let mid = g.E.Disk.meaning.state_of c.copy_numbers.new.new in
    let last = g.E.Disk.meaning.state_of c.write_synced.new.disk in
    let after = g.E.Disk.meaning.state_of c.settle_head.new.disk in
    let count = c.len-count.result in
    let count_is : count ≡ count_in c.args.old.now.kept =
    c.len-count.ensures.counted ∙ ap (λ (running : Bool). if running then count_in c.args.old.now.kept else 0) c.requires.running in
    let room : 32 * (1 + count) ≤ before.size = omega (arith, count_is, c.requires.room) in
    let first = where_ok _ c.write_front.result (sym c.if-is_err.ensures.value) c.write_front.ensures.written in
    let behind = where_ok _ c.write_synced.result (sym c.if-is_err-2.ensures.value) c.write_synced.ensures.written in
    λ numbers finds h. ledger_in_part c.args.identity count c.size-end.result c.write_front.ensures.fits
    (c.headers.ensures.length ledger_kind c.args.identity) (c.headers.ensures.identity ledger_kind c.args.identity c.write_front.ensures.fits) (log.state_of c.args.old.now) before front mid last after room c.size-end.ensures
    (λ k. g.E.Disk.leaves_its_size c.args.new.now k before.reads (g.E.Disk.reads_may_stay c.args.new.now k))
    first c.in_ok-copy_numbers.ensures.copied behind c.write_front.ensures.outside c.copy_numbers.ensures.outside c.write_synced.ensures.outside
    c.settle_head.ensures.in_turn numbers finds (counts_these log c.args.old.now count c.len-count.ensures.found c.requires.running count_is h numbers finds) h

pub returns-in-Err-clause-in_part : goal.returns-in-Err-clause-in_part
returns-in-Err-clause-in_part g c =
    let log = records_meaning g.D.Disk.meaning (λ (format : LogFormat). log_format) in
    let before = g.E.Disk.meaning.state_of c.args.new.now in
    let front = g.E.Disk.meaning.state_of c.write_front.new.disk in
    let mid = g.E.Disk.meaning.state_of c.copy_numbers.new.new in
    let last = g.E.Disk.meaning.state_of c.write_synced.new.disk in
    let after = g.E.Disk.meaning.state_of c.settle_head.new.disk in
    let count = c.len-count.result in
    let count_is : count ≡ count_in c.args.old.now.kept =
    c.len-count.ensures.counted ∙ ap (λ (running : Bool). if running then count_in c.args.old.now.kept else 0) c.requires.running in
    let room : 32 * (1 + count) ≤ before.size = omega (arith, count_is, c.requires.room) in
    let first = where_ok _ c.write_front.result (sym c.if-is_err.ensures.value) c.write_front.ensures.written in
    let behind = where_ok _ c.write_synced.result (sym c.if-is_err-2.ensures.value) c.write_synced.ensures.written in
    λ numbers finds h. ledger_in_part c.args.identity count c.size-end.result c.write_front.ensures.fits
    (c.headers.ensures.length ledger_kind c.args.identity) (c.headers.ensures.identity ledger_kind c.args.identity c.write_front.ensures.fits) (log.state_of c.args.old.now) before front mid last after room c.size-end.ensures
    (λ k. g.E.Disk.leaves_its_size c.args.new.now k before.reads (g.E.Disk.reads_may_stay c.args.new.now k))
    first c.in_ok-copy_numbers.ensures.copied behind c.write_front.ensures.outside c.copy_numbers.ensures.outside c.write_synced.ensures.outside
    c.settle_head.ensures.in_turn numbers finds (counts_these log c.args.old.now count c.len-count.ensures.found c.requires.running count_is h numbers finds) h
