use Rattle.std.proofs.Common.{◌≡◌, ◌↔◌, ℕ, List, arith, replicate, subst, sym}
use Rattle.duk_store.specs.DiskLog.{DiskLogOf, IsZeroLogDisk}
use Rattle.duk_store.specs.MemoryDisk.{CouldLeave, IsHonestDisk, MemoryDisk, memory_disk_state}
use Rattle.duk_tests_payments.proofs.failing_disks.new_log.Goals as goal

pub returns : goal.returns
returns c =
    let disk = c.in_ok-disk.disk in
    let size = c.in_ok-disk.ensures.size in
    let zeros = subst (λ (size : ℕ). (bytes : List ℕ) → CouldLeave disk bytes ↔ (bytes ≡ replicate size 0)) (sym size) c.in_ok-disk.ensures.zeros in
    let zero : IsZeroLogDisk (memory_disk_state disk) = record { size = (8, omega arith, size); zeros = zeros } in
    let honest = subst (λ (log : DiskLogOf MemoryDisk). IsHonestDisk log.disk) (sym c.new.ensures.log) c.in_ok-disk.ensures.honest in
    record { honest = honest; finds = (c.new.ensures.empty zero).finds }
