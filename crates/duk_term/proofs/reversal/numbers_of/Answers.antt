use Rattle.std.proofs.Common.{◌<◌, arith, refl}
use Rattle.duk_reversal.specs.Numbers.{Reverses}
use Rattle.duk_term.proofs.Reversals.{reverses}
use Rattle.duk_term.proofs.reversal.numbers_of.Goals as goal

pub returns-in-Some-clause-numbers : goal.returns-in-Some-clause-numbers
returns-in-Some-clause-numbers c =
    let is : Reverses c.args.ksn c.args.reversed = c.in-Some.ensures.found.0 refl in
    let below : c.args.reversed.counter < c.args.ksn.counter = omega arith in
    (c.in-Some.ensures.numbers, record { same_iksn = is.same_iksn; usable = is.usable; below = below })

pub returns-in-None-clause-refused : goal.returns-in-None-clause-refused
returns-in-None-clause-refused c =
    (refl, λ before. let wrong = c.in-None.ensures.found.1 (reverses c.args.ksn c.args.reversed before) in cc)
