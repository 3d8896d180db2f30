use Rattle.std.proofs.Common.{◌∙◌, Some, None}
use Rattle.duk_program.proofs.Marked.{place_of_marked}
use Rattle.duk_program.proofs.options.option_place.Goals as goal

pub returns-in_err-place : goal.returns-in_err-place
returns-in_err-place c = c.from_residual-in_err-place.ensures ∙ place_of_marked c.args.option.now _ _ _ _ None c.in_ok-words.ensures.cases.0 c.before_end.ensures c.in_err-place.ensures

pub returns : goal.returns
returns c = place_of_marked c.args.option.now _ _ _ _ (Some c.in_ok-place.place) c.in_ok-words.ensures.cases.0 c.before_end.ensures c.in_ok-place.ensures
