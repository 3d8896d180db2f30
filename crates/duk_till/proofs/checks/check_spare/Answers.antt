use Rattle.std.proofs.Common.{◌≡◌, ◌∙◌, refl, subst, sym}
use Rattle.duk_tree.specs.Serial.{Serial}
use Rattle.duk_till.specs.Till.{HasTwoAfter}
use Rattle.duk_till.proofs.checks.check_spare.Goals as goal

pub returns-then-has_two_after-clause-spare : goal.returns-then-has_two_after-clause-spare
returns-then-has_two_after-clause-spare g c = λ kept.
    let at = c.in-At.ensures ∙ kept.comes_next in
    let same : c.in-At.ksn ≡ kept.ksn = cc in
    let two : HasTwoAfter c.in-At.ksn.counter = subst HasTwoAfter c.counter.ensures.value (c.has_two_after.ensures.0 c.if-has_two_after.true) in
    kept.last_two (subst (λ (ksn : Serial). HasTwoAfter ksn.counter) same two)

pub returns-else-has_two_after-clause-refused : goal.returns-else-has_two_after-clause-refused
returns-else-has_two_after-clause-refused g c = (
  refl,
  record {
    ksn = c.in-At.ksn;
    comes_next = sym c.in-At.ensures;
    last_two = λ two. let yes = c.has_two_after.ensures.1 (subst HasTwoAfter (sym c.counter.ensures.value) two) in cc;
  },
)

pub returns-in_default-clause-spare : goal.returns-in_default-clause-spare
returns-in_default-clause-spare g c = λ kept. c.in_default.not-At kept.ksn (c.next.ensures ∙ kept.comes_next)
