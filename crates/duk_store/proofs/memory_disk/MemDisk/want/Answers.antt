use Rattle.std.proofs.Common.{◌≡◌, ◌+◌, ◌++◌, length, take, drop, ap, ◌∙◌, arith, rules}
use Rattle.std.proofs.lemmas.List.{with_items_is}
use Rattle.duk_store.specs.Disk.{written}
use Rattle.duk_store.specs.MemoryDisk.{marked}
use Rattle.duk_store.proofs.MemoryDiskMeaning.{wanting_kept}
use Rattle.duk_store.proofs.memory_disk.MemDisk.want.Goals as goal

pub invariant_of-self : goal.invariant_of-self
invariant_of-self c =
    let inside = c.self.inside in
    let wanted : take inside.wanted.len (c.overwrite.new.list ++ drop (length c.overwrite.new.list) inside.wanted.items) ≡ written inside.wanted.items c.args.at c.args.bytes.now =
    with_items_is inside.wanted c.overwrite.new.list (search rules) ∙ (c.overwrite.ensures ∙ ap (λ old. written old c.args.at c.args.bytes.now) c.deref_mut.ensures.value) in
    let unsynced : take inside.unsynced.len (c.set_flags.new.flags ++ drop (length c.set_flags.new.flags) inside.unsynced.items) ≡ marked c.args.at (length c.args.bytes.now) inside.unsynced.items =
    with_items_is inside.unsynced c.set_flags.new.flags (search rules) ∙ (c.set_flags.ensures ∙ ap (marked c.args.at (length c.args.bytes.now)) c.deref_mut-2.ensures.value) in
    let in_size = rw (← c.self.view_is) at c.requires in
    rw (wanted, unsynced)
    (wanting_kept inside.from inside.to c.args.at (c.args.at + length c.args.bytes.now) c.args.at _ c.args.bytes.now c.self.invariant in_size (omega arith) (omega arith) in_size (λ place from to. (omega arith, omega arith)))

pub invariant_of-self-else-self : goal.invariant_of-self-else-self
invariant_of-self-else-self c =
    let inside = c.self.inside in
    let wanted : take inside.wanted.len (c.overwrite.new.list ++ drop (length c.overwrite.new.list) inside.wanted.items) ≡ written inside.wanted.items c.args.at c.args.bytes.now =
    with_items_is inside.wanted c.overwrite.new.list (search rules) ∙ (c.overwrite.ensures ∙ ap (λ old. written old c.args.at c.args.bytes.now) c.deref_mut.ensures.value) in
    let unsynced : take inside.unsynced.len (c.set_flags.new.flags ++ drop (length c.set_flags.new.flags) inside.unsynced.items) ≡ marked c.args.at (length c.args.bytes.now) inside.unsynced.items =
    with_items_is inside.unsynced c.set_flags.new.flags (search rules) ∙ (c.set_flags.ensures ∙ ap (marked c.args.at (length c.args.bytes.now)) c.deref_mut-2.ensures.value) in
    let in_size = rw (← c.self.view_is) at c.requires in
    rw (wanted, unsynced)
    (wanting_kept inside.from inside.to c.min-self-inside.result c.max-self-inside.result c.args.at _ c.args.bytes.now c.self.invariant in_size (omega arith) (omega arith) (omega arith) (λ place from to. (omega arith, omega arith)))
