use Rattle.std.proofs.Common.{refl, subst, sym}
use Rattle.duk_host.specs.Table.{CardTable, table_decision}
use Rattle.duk_net.specs.First.{IsNewTerminal}
use Rattle.duk_net.specs.World.{Meanings, meanings_of}
use Rattle.duk_store.specs.DiskLog.{DiskLogOf, disk_log_meaning}
use Rattle.duk_store.specs.MemoryDisk.{IsHonestDisk, MemoryDisk, memory_disk_meaning, memory_disk_state}
use Rattle.duk_store.specs.SlotCell.{IsZeroDisk, SlotCellOf, slot_cell_meaning}
use Rattle.duk_term.specs.declared.state.State.TheVariants.{Stopped}
use Rattle.duk_tests_payments.proofs.failing_disks.new_terminal.Goals as goal

abbrev meanings : Meanings (SlotCellOf MemoryDisk) (DiskLogOf MemoryDisk) CardTable
meanings = meanings_of (slot_cell_meaning memory_disk_meaning) (disk_log_meaning memory_disk_meaning) table_decision

pub returns : goal.returns
returns c =
    let zero : IsZeroDisk (memory_disk_state c.in_ok-disk.disk) = record { size = c.in_ok-disk.ensures.size; zeros = c.in_ok-disk.ensures.zeros } in
    let honest = subst (λ (cell : SlotCellOf MemoryDisk). IsHonestDisk cell.disk) (sym c.new.ensures.cell) c.in_ok-disk.ensures.honest in
    let new : IsNewTerminal meanings (record { cell = c.new.result; state = Stopped }) = record { stopped = refl; cell = record { honest = honest; finds = (c.new.ensures.empty zero).finds } } in
    subst (IsNewTerminal meanings) (sym c.new-2.ensures) new
