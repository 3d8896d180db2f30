use Rattle.duk_store.proofs.CallsInTurn.{calls_narrow, narrow_by_one, old_or_new}
use Rattle.duk_store.proofs.laws.at_most_two_values.Goals as goal

pub returns-clause-old_or_new : goal.returns-clause-old_or_new
returns-clause-old_or_new g c = old_or_new g.C.Cell.meaning

pub returns-clause-at_most_two : goal.returns-clause-at_most_two
returns-clause-at_most_two g c first last after_each kept h only calls =
    let meaning = g.C.Cell.meaning in
    (calls_narrow meaning first last after_each (narrow_by_one (meaning.state_of first) kept h only) calls).at_most_two

pub returns-clause-one_while_it_runs : goal.returns-clause-one_while_it_runs
returns-clause-one_while_it_runs g c first last after_each kept h only calls =
    let meaning = g.C.Cell.meaning in
    (calls_narrow meaning first last after_each (narrow_by_one (meaning.state_of first) kept h only) calls).one_while_it_runs
