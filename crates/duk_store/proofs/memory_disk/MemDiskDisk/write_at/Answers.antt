use Rattle.std.proofs.Common.{◌≡◌, ◌+◌, ◌≤◌, length, refl, ap, ◌∙◌, arith}
use Rattle.duk_store.specs.MemoryDisk.{wanting}
use Rattle.duk_store.proofs.MemoryDiskBytes.{length_over}
use Rattle.duk_store.proofs.MemoryDiskMeaning.{write_leaves}
use Rattle.duk_store.proofs.memory_disk.MemDiskDisk.write_at.Goals as goal

pub returns-in_err-step-clause-torn : goal.returns-in_err-step-clause-torn
returns-in_err-step-clause-torn c =
    let tried : c.step.new.self ≡ record (wanting c.args.self.now c.args.at c.args.bytes.now) { device = c.step.new.self.device } = cc in
    write_leaves c.args.self.now c.step.new.self c.args.at c.args.bytes.now c.requires (ap (λ disk. length disk.reads) tried) (ap (λ disk. disk.synced) tried) (ap (λ disk. disk.unsynced) tried)

pub returns-clause-torn : goal.returns-clause-torn
returns-clause-torn c =
    let tried : c.step.new.self ≡ record (wanting c.args.self.now c.args.at c.args.bytes.now) { device = c.step.new.self.device } = cc in
    let same_size : length c.step.new.self.reads ≡ length c.args.self.now.reads = ap (λ disk. length disk.reads) tried in
    let within : c.args.at + length c.args.bytes.now ≤ length c.step.new.self.reads = omega (arith, c.requires) in
    let size : length c.put.new.self.reads ≡ length c.args.self.now.reads =
    ap (λ disk. length disk.reads) c.put.ensures.disk ∙ (length_over c.step.new.self.reads c.args.bytes.now c.args.at _ within refl ∙ same_size) in
    write_leaves c.args.self.now c.put.new.self c.args.at c.args.bytes.now c.requires size (ap (λ disk. disk.synced) c.put.ensures.disk ∙ ap (λ disk. disk.synced) tried) (ap (λ disk. disk.unsynced) c.put.ensures.disk ∙ ap (λ disk. disk.unsynced) tried)
