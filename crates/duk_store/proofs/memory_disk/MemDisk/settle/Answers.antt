use Rattle.std.proofs.Common.{◌≡◌, ◌-◌, ◌++◌, length, take, drop, replicate, false, refl, ap, ◌∙◌, rules}
use Rattle.std.proofs.lemmas.List.{with_items_is}
use Rattle.duk_store.proofs.MemoryDiskBytes.{over}
use Rattle.duk_store.proofs.MemoryDiskMeaning.{settled_kept, settled_synced, settled_unsynced, settled_wanted}
use Rattle.duk_store.proofs.memory_disk.MemDisk.settle.Goals as goal

pub invariant_of-self : goal.invariant_of-self
invariant_of-self c =
    let inside = c.self.inside in
    let synced : take inside.synced.len (c.overwrite.new.list ++ drop (length c.overwrite.new.list) inside.synced.items) ≡ inside.reads.items =
    with_items_is inside.synced c.overwrite.new.list (search rules) ∙ (rw (c.deref_mut.ensures.value, c.deref.ensures.value) at c.overwrite.ensures ∙ settled_synced inside.from inside.to _ c.self.invariant) in
    let wanted : take inside.wanted.len (c.overwrite-2.new.list ++ drop (length c.overwrite-2.new.list) inside.wanted.items) ≡ inside.reads.items =
    with_items_is inside.wanted c.overwrite-2.new.list (search rules) ∙ (rw (c.deref_mut-2.ensures.value, c.deref-2.ensures.value) at c.overwrite-2.ensures ∙ settled_wanted inside.from inside.to _ c.self.invariant) in
    let unsynced : take inside.unsynced.len (c.set_flags.new.flags ++ drop (length c.set_flags.new.flags) inside.unsynced.items) ≡ replicate (length inside.reads.items) false =
    with_items_is inside.unsynced c.set_flags.new.flags (search rules) ∙ (c.set_flags.ensures ∙ (ap (λ old. over old inside.from (inside.to - inside.from) (replicate (inside.to - inside.from) false)) c.deref_mut-3.ensures.value ∙ settled_unsynced inside.from inside.to _ c.self.invariant)) in
    rw (synced, wanted, unsynced) (settled_kept inside.from inside.to _ c.self.invariant)

pub returns-clause-disk : goal.returns-clause-disk
returns-clause-disk c =
    let inside = c.self.inside in
    let synced : take inside.synced.len (c.overwrite.new.list ++ drop (length c.overwrite.new.list) inside.synced.items) ≡ inside.reads.items =
    with_items_is inside.synced c.overwrite.new.list (search rules) ∙ (rw (c.deref_mut.ensures.value, c.deref.ensures.value) at c.overwrite.ensures ∙ settled_synced inside.from inside.to _ c.self.invariant) in
    let wanted : take inside.wanted.len (c.overwrite-2.new.list ++ drop (length c.overwrite-2.new.list) inside.wanted.items) ≡ inside.reads.items =
    with_items_is inside.wanted c.overwrite-2.new.list (search rules) ∙ (rw (c.deref_mut-2.ensures.value, c.deref-2.ensures.value) at c.overwrite-2.ensures ∙ settled_wanted inside.from inside.to _ c.self.invariant) in
    let unsynced : take inside.unsynced.len (c.set_flags.new.flags ++ drop (length c.set_flags.new.flags) inside.unsynced.items) ≡ replicate (length inside.reads.items) false =
    with_items_is inside.unsynced c.set_flags.new.flags (search rules) ∙ (c.set_flags.ensures ∙ (ap (λ old. over old inside.from (inside.to - inside.from) (replicate (inside.to - inside.from) false)) c.deref_mut-3.ensures.value ∙ settled_unsynced inside.from inside.to _ c.self.invariant)) in
    rw (← c.self.view_is, synced, wanted, unsynced) refl

pub returns-clause-honest : goal.returns-clause-honest
returns-clause-honest c = (invariant_of-self c).honest
