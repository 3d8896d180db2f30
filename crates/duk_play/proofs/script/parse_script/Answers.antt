use Rattle.std.proofs.Common.{◌≡◌, ◌+◌, length, inl, inr, arith}
use Rattle.std.proofs.lemmas.Bool.Decides.{nat_tests}
use Rattle.std.proofs.lemmas.Result.{err_from_is_err_and}
use Rattle.duk_play.proofs.ScriptLineByLine.{stands_next, end_events, end_first, stop_bad, stop_first, nothing}
use Rattle.duk_play.proofs.script.parse_script.Goals as goal

pub returns-in_err-add_line-clause-refused : goal.returns-in_err-add_line-clause-refused
returns-in_err-add_line-clause-refused c =
    let p = err_from_is_err_and c.from_residual.result c.from_residual.ensures.1 in
    let stands = rw c.split_line.ensures.first at c.loop-rest.invariant.stands in
    rw (p.1, p.2) (elim c.in_err-add_line.ensures.refused [
      | inl memory ↦ inl memory
      | inr bad ↦ inr (c.loop-rest.number + 1, bad.0, stop_bad _ _ _ c.loop-rest.events.items c.loop-rest.number stands bad.1)
    ])

pub returns-in_err-add_line-clause-first : goal.returns-in_err-add_line-clause-first
returns-in_err-add_line-clause-first c = λ line is.
    let p = err_from_is_err_and c.from_residual.result c.from_residual.ensures.1 in
    let stands = rw c.split_line.ensures.first at c.loop-rest.invariant.stands in
    rw (p.1, p.2) (elim c.in_err-add_line.ensures.refused [
      | inl memory ↦ inr memory
      | inr bad ↦ inl (rw (stop_first _ _ _ c.loop-rest.events.items c.loop-rest.number stands bad.1 line is) bad.0)
    ])

pub loop-rest-preserved : goal.loop-rest-preserved
loop-rest-preserved c =
    let stands = rw c.split_line.ensures.first at c.loop-rest.invariant.stands in
    record {
      counted = omega (arith, c.loop-rest.invariant.counted, c.split_line.ensures.shorter);
      stands = stands_next _ _ _ _ _ c.loop-rest.number stands c.in_ok-add_line.ensures.added;
    }

pub returns-clause-events : goal.returns-clause-events
returns-clause-events c =
    let none : length c.loop-rest.rest.now ≡ 0 = grind (arith, nat_tests) in
    let stands = rw (nothing c.loop-rest.rest.now none) at c.loop-rest.invariant.stands in
    end_events _ c.loop-rest.events.items c.loop-rest.number stands

pub returns-clause-first : goal.returns-clause-first
returns-clause-first c =
    let none : length c.loop-rest.rest.now ≡ 0 = grind (arith, nat_tests) in
    let stands = rw (nothing c.loop-rest.rest.now none) at c.loop-rest.invariant.stands in
    end_first _ c.loop-rest.events.items c.loop-rest.number stands
