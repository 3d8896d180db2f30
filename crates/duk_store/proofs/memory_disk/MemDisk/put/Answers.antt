use Rattle.std.proofs.Common.{◌≡◌, ◌++◌, length, take, drop, ap, ◌∙◌, rules}
use Rattle.std.proofs.lemmas.List.{with_items_is}
use Rattle.duk_store.specs.Disk.{written}
use Rattle.duk_store.proofs.MemoryDiskMeaning.{put_kept}
use Rattle.duk_store.proofs.memory_disk.MemDisk.put.Goals as goal

pub invariant_of-self : goal.invariant_of-self
invariant_of-self c =
    let inside = c.self.inside in
    let list : take inside.reads.len (c.overwrite.new.list ++ drop (length c.overwrite.new.list) inside.reads.items) ≡ written inside.reads.items c.args.at c.args.bytes.now =
    with_items_is inside.reads c.overwrite.new.list (search rules) ∙ (c.overwrite.ensures ∙ ap (λ old. written old c.args.at c.args.bytes.now) c.deref_mut.ensures.value) in
    let in_size = rw (← c.self.view_is) at c.requires.in_size in
    let marked = rw (← c.self.view_is) at c.requires.marked in
    rw list (put_kept inside.from inside.to c.args.at _ c.args.bytes.now c.self.invariant in_size marked)

pub returns-clause-honest : goal.returns-clause-honest
returns-clause-honest c = (invariant_of-self c).honest
