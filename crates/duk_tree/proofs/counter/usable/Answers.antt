use Rattle.std.proofs.Common.{◌≤◌, arith}
use Rattle.std.specs.Int.RustNames.{count_ones}
use Rattle.std.proofs.lemmas.Bool.Decides.{nat_tests}
use Rattle.duk_tree.proofs.PathsOfCounters.{IsUsable-from_ones, IsUsable-counter, IsUsable-ones}
use Rattle.duk_tree.proofs.counter.usable.Goals as goal

pub returns-then-counter-le-LAST_COUNTER-clause-usable : goal.returns-then-counter-le-LAST_COUNTER-clause-usable
returns-then-counter-le-LAST_COUNTER-clause-usable c = (
  λ test.
      let some : 1 ≤ count_ones c.args.counter = grind (arith, nat_tests, c.contains.ensures.cases) in
      let few : count_ones c.args.counter ≤ 10 = grind (arith, nat_tests, c.contains.ensures.cases) in
      IsUsable-from_ones c.args.counter (omega arith) some few,
  λ is_usable.
      let ones = IsUsable-ones c.args.counter is_usable in
      let some : 1 ≤ count_ones c.args.counter = ones.0 in
      let few : count_ones c.args.counter ≤ 10 = ones.1 in
      grind (arith, nat_tests, c.contains.ensures.cases),
)

pub returns-else-counter-le-LAST_COUNTER-clause-usable : goal.returns-else-counter-le-LAST_COUNTER-clause-usable
returns-else-counter-le-LAST_COUNTER-clause-usable c = (
  λ test. absurd (grind (arith, nat_tests)),
  λ is_usable. let fits = IsUsable-counter c.args.counter is_usable in grind (arith, nat_tests),
)
