use Rattle.std.proofs.Common.{ℕ, length, inl, inr, ap, ◌∙◌}
use Rattle.std.proofs.lemmas.List.{length-replicate}
use Rattle.duk_tree.specs.Path.{path_of}
use Rattle.duk_regs.proofs.CounterBounds.{BitLaws, counter_bounds}
use Rattle.duk_regs.proofs.laws.sixteen_bytes.Goals as goal

pub returns : goal.returns
returns c = λ initial set is_key is_set future_keys place within.
    let laws : BitLaws = record { usable = c.bits.ensures.usable; place = c.bits.ensures.place; ones = c.bits.ensures.ones; lowest = c.bits.ensures.lowest } in
    let bounds = counter_bounds laws set.counter is_set.counter_is in
    elim (c.uniqueness.ensures.register initial set place bounds.0 future_keys within) [
      | inl empty ↦ ap (λ key. length key) empty ∙ length-replicate {A = ℕ} 16 0
      | inr held ↦ ap (λ key. length key) held.holds ∙ (c.keys.ensures.node initial set.iksn (path_of held.node) is_key).size_is
    ]
