use Rattle.std.proofs.Common.{rules, ap, subst, refl, ◌∙◌}
use Rattle.duk_tree.specs.Next.{IsLast}
use Rattle.duk_tree.specs.Serial.{Serial}
use Rattle.duk_calls.proofs.numbers.next_number.Goals as goal

pub returns-in_default : goal.returns-in_default
returns-in_default c =
    let counter_is = c.counter.ensures.value ∙ ap (λ (serial : Serial). serial.counter) c.serial_number-ksn.ensures.value in
    ((search rules, subst IsLast counter_is (c.in_default.ensures.none.0 refl)), refl)

pub with_counter-requires : goal.with_counter-requires
with_counter-requires c =
    (c.bits.ensures.usable c.in-Some.counter c.in-Some.ensures.found.is_usable).0
