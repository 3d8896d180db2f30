use Rattle.std.proofs.Common.{◌∙◌, ℕ, subst}
use Rattle.std.proofs.lemmas.Result.{err_from_is_err_and}
use Rattle.duk_service.specs.CopyLedger.{HasCopiedLedger, IsCopyLedgerRefused, old_ledger_state}
use Rattle.duk_store.specs.DiskRecords.{count_in}
use Rattle.duk_service.specs.inner.CopyLedger.{IsLedgerMade, IsNotUp, IsUp, LedgerNotMade}
use Rattle.duk_service.proofs.CopiedLedger.{has_copied_ledger, ledger_not_copied, ledger_not_opened, ledger_not_up, ledger_room, no_ledger_size}
use Rattle.duk_service.proofs.Results.{if_err, on_ok}
use Rattle.duk_service.proofs.copy_ledger.copy_ledger.Goals as goal

pub returns-in_err-disk-clause-refused : goal.returns-in_err-disk-clause-refused
returns-in_err-disk-clause-refused g c =
    let p = err_from_is_err_and c.from_residual.result c.from_residual.ensures.1 in
    rw (p.1, p.2) (ledger_not_opened g.S.Disk.Disk.meaning (g.S.LogFiles.disks c.args.files.now c.args.old.now) (g.S.LogFiles.making c.args.files.now c.args.new.now)
    c.in_err-disk.field-0.0 c.in_err-disk.ensures.refused)

pub returns-in_err-bring_up-clause-refused : goal.returns-in_err-bring_up-clause-refused
returns-in_err-bring_up-clause-refused g c =
    let meaning = g.S.Disk.Disk.meaning in
    let why = c.in_err-bring_up.field-0.0 in
    let p = err_from_is_err_and c.from_residual-in_err-bring_up.result c.from_residual-in_err-bring_up.ensures.1 in
    rw (p.1, p.2) (ledger_not_up meaning (g.S.LogFiles.disks c.args.files.now c.args.old.now) (g.S.LogFiles.making c.args.files.now c.args.new.now)
    c.in_ok-disk.disk c.bring_up.new.records why c.in_ok-disk.ensures.opened
    (subst (λ records. IsNotUp meaning records c.bring_up.new.records why) c.new-records.ensures.records c.in_err-bring_up.ensures.refused))

pub make_new-requires-clause-zeros : goal.make_new-requires-clause-zeros
make_new-requires-clause-zeros g c =
    c.as_slice.ensures.value ∙ c.in_ok-zeros.ensures.items_if_clones_equal (λ y is. is)

pub make_new-requires-clause-running : goal.make_new-requires-clause-running
make_new-requires-clause-running g c = c.in_ok-bring_up.ensures.up.restarted.settles.runs

pub make_new-requires-clause-room : goal.make_new-requires-clause-room
make_new-requires-clause-room g c =
    rw c.in-Some.ensures.found (ledger_room g.S.Disk.Disk.meaning c.bring_up.new.records c.in_ok-bring_up.ensures.up.restarted.settles.runs)

pub returns-clause-made : goal.returns-clause-made
returns-clause-made g c =
    let meaning = g.S.Disk.Disk.meaning in
    let known = g.S.LogFiles.disks c.args.files.now c.args.old.now in
    let making = g.S.LogFiles.making c.args.files.now c.args.new.now in
    let last = c.bring_up.new.records in
    let up = subst (λ records. IsUp meaning records last) c.new-records.ensures.records c.in_ok-bring_up.ensures.up in
    on_ok (IsLedgerMade c.args.identity (count_in last.kept) meaning making c.in-Some.size (old_ledger_state meaning last)) (HasCopiedLedger c.args.identity meaning known making) c.make_new.result
    (λ copy. has_copied_ledger meaning known making c.in_ok-disk.disk last c.in_ok-disk.ensures.opened up c.args.identity g.S.Disk.Disk.leaves_its_size g.S.Disk.Disk.reads_may_stay c.make_new.new.old c.make_new.ensures.bytes
    (subst (λ (size : ℕ). IsLedgerMade c.args.identity (count_in last.kept) meaning making size (old_ledger_state meaning last)) c.in-Some.ensures.found copy))
    c.make_new.ensures.made

pub returns-clause-refused : goal.returns-clause-refused
returns-clause-refused g c =
    let meaning = g.S.Disk.Disk.meaning in
    let known = g.S.LogFiles.disks c.args.files.now c.args.old.now in
    let making = g.S.LogFiles.making c.args.files.now c.args.new.now in
    let last = c.bring_up.new.records in
    let after = c.make_new.new.old in
    let up = subst (λ records. IsUp meaning records last) c.new-records.ensures.records c.in_ok-bring_up.ensures.up in
    if_err (LedgerNotMade meaning making c.in-Some.size (old_ledger_state meaning last) (old_ledger_state meaning after)) (IsCopyLedgerRefused meaning known making) c.make_new.result
    (λ why refused. ledger_not_copied meaning known making c.in_ok-disk.disk last c.in_ok-disk.ensures.opened up after why c.make_new.ensures.bytes
    (subst (λ (size : ℕ). LedgerNotMade meaning making size (old_ledger_state meaning last) (old_ledger_state meaning after) why) c.in-Some.ensures.found refused))
    c.make_new.ensures.refused

pub returns-in_default-clause-refused : goal.returns-in_default-clause-refused
returns-in_default-clause-refused g c =
    let meaning = g.S.Disk.Disk.meaning in
    let up = subst (λ records. IsUp meaning records c.bring_up.new.records) c.new-records.ensures.records c.in_ok-bring_up.ensures.up in
    no_ledger_size meaning (g.S.LogFiles.disks c.args.files.now c.args.old.now) (g.S.LogFiles.making c.args.files.now c.args.new.now)
    c.in_ok-disk.disk c.bring_up.new.records c.in_ok-disk.ensures.opened up c.in_default.ensures.none
