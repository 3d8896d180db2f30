use Rattle.std.proofs.Common.{arith}
use Rattle.duk_service.specs.CopyLedger.{old_ledger_state}
use Rattle.duk_service.proofs.CopiedLedger.{left_unwritten, left_written}
use Rattle.duk_service.proofs.NewFiles.{begins_no_ledger}
use Rattle.duk_service.proofs.copy_ledger.keep_new.Goals as goal

pub returns-then-size-clause-left : goal.returns-then-size-clause-left
returns-then-size-clause-left g c =
    let meaning = g.S.Disk.Disk.meaning in
    left_unwritten (begins_no_ledger c.unheaded.ensures c.unnumbered.ensures) (old_ledger_state meaning c.args.old.now) (meaning.state_of c.args.disk.now) c.requires.begins

pub returns-in-Err-Old-clause-left : goal.returns-in-Err-Old-clause-left
returns-in-Err-Old-clause-left g c =
    let meaning = g.S.Disk.Disk.meaning in
    left_written (begins_no_ledger c.unheaded.ensures c.unnumbered.ensures) (old_ledger_state meaning c.args.old.now) (meaning.state_of c.args.disk.now) (meaning.state_of c.write_ledger.new.new)
    c.requires.begins c.write_ledger.ensures.in_part

pub returns-in-Err-Counted-clause-left : goal.returns-in-Err-Counted-clause-left
returns-in-Err-Counted-clause-left g c =
    let meaning = g.S.Disk.Disk.meaning in
    left_written (begins_no_ledger c.unheaded.ensures c.unnumbered.ensures) (old_ledger_state meaning c.args.old.now) (meaning.state_of c.args.disk.now) (meaning.state_of c.write_ledger.new.new)
    c.requires.begins c.write_ledger.ensures.in_part

pub returns-in-Err-New-clause-left : goal.returns-in-Err-New-clause-left
returns-in-Err-New-clause-left g c =
    let meaning = g.S.Disk.Disk.meaning in
    left_written (begins_no_ledger c.unheaded.ensures c.unnumbered.ensures) (old_ledger_state meaning c.args.old.now) (meaning.state_of c.args.disk.now) (meaning.state_of c.write_ledger.new.new)
    c.requires.begins c.write_ledger.ensures.in_part

pub returns-in-Ok-sync_folder-clause-left : goal.returns-in-Ok-sync_folder-clause-left
returns-in-Ok-sync_folder-clause-left g c =
    let meaning = g.S.Disk.Disk.meaning in
    left_written (begins_no_ledger c.unheaded.ensures c.unnumbered.ensures) (old_ledger_state meaning c.args.old.now) (meaning.state_of c.args.disk.now) (meaning.state_of c.write_ledger.new.new)
    c.requires.begins c.write_ledger.ensures.in_part

pub returns-in-Err-clause-left : goal.returns-in-Err-clause-left
returns-in-Err-clause-left g c =
    let meaning = g.S.Disk.Disk.meaning in
    left_written (begins_no_ledger c.unheaded.ensures c.unnumbered.ensures) (old_ledger_state meaning c.args.old.now) (meaning.state_of c.args.disk.now) (meaning.state_of c.write_ledger.new.new)
    c.requires.begins c.write_ledger.ensures.in_part

pub returns-in-Ok-sync_folder-clause-kept : goal.returns-in-Ok-sync_folder-clause-kept
returns-in-Ok-sync_folder-clause-kept g c = record {
  size_is = omega (arith, c.size.ensures);
  written = c.in-Ok.ensures.copied;
  synced = c.in-Ok-sync_folder.ensures.synced;
}
