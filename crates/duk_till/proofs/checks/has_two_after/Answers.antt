use Rattle.std.proofs.Common.{refl}
use Rattle.std.proofs.lemmas.Bool.{false≢true}
use Rattle.duk_till.proofs.Spare.{not_two_after, two_after}
use Rattle.duk_till.proofs.checks.has_two_after.Goals as goal

pub returns-in-Some : goal.returns-in-Some
returns-in-Some c =
    let two = two_after c.args.counter c.in-Some.later c.in-Some.ensures.found in
    (λ yes. two.0 (c.has_one_after.ensures.0 yes), λ is. c.has_one_after.ensures.1 (two.1 is))

pub returns-in-None : goal.returns-in-None
returns-in-None c = (λ yes. absurd (false≢true yes), λ two. absurd (not_two_after c.args.counter (c.in-None.ensures.none.0 refl) two))
