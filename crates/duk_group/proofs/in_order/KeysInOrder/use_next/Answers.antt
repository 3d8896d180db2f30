use Rattle.std.proofs.Common.{refl, subst}
use Rattle.duk_group.specs.InOrder.{InOrder, GoesOn}
use Rattle.duk_group.proofs.in_order.KeysInOrder.use_next.Goals as goal

pub returns-clause-goes_on : goal.returns-clause-goes_on
returns-clause-goes_on c =
    let inside = c.self.inside in
    let new : InOrder = record { initial = inside.initial; iksn = inside.iksn; counter = c.counter_after-self-inside.result } in
    subst (λ old. GoesOn old new) c.self.view_is (record { same_initial = refl; same_iksn = refl; next_counter = c.counter_after-self-inside.ensures })
