use Rattle.std.proofs.Common.{subst, sym, arith}
use Rattle.duk_commands.specs.Sought.{MakesBy}
use Rattle.duk_commands.specs.inner.Search.{IsFirstWay}
use Rattle.duk_commands.specs.declared.origin.Way.{Way}
use Rattle.duk_commands.proofs.SearchSteps.{NoneBefore, first_origin, none_more, none_of_all}
use Rattle.duk_commands.proofs.search.origin_of.Goals as goal

pub loop-place-init : goal.loop-place-init
loop-place-init c = λ key_use below way. absurd (omega arith)

pub returns-in-Some-clause-first : goal.returns-in-Some-clause-first
returns-in-Some-clause-first c =
    let none = subst (NoneBefore c.args.sought.now c.args.key.now) (sym c.at-key_use.ensures) c.loop-place.invariant in
    let here = subst (λ key. IsFirstWay c.args.sought.now key c.in-Some.way) c.key.ensures c.in-Some.ensures.first in
    first_origin c.args.sought.now c.args.key.now c.at-key_use.result c.in-Some.way none here

pub loop-place-preserved : goal.loop-place-preserved
loop-place-preserved c =
    let here = subst (λ key. (way : Way) → ¬ MakesBy c.args.sought.now key way) c.key.ensures c.in_default.ensures.none in
    none_more c.args.sought.now c.args.key.now c.loop-place.place c.at-key_use.result c.at-key_use.ensures c.loop-place.invariant here

pub returns-clause-none : goal.returns-clause-none
returns-clause-none c = none_of_all c.args.sought.now c.args.key.now c.loop-place.place (omega arith) c.loop-place.invariant
