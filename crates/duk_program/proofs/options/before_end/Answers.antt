use Rattle.std.proofs.Common.{ap, length, ◌∙◌}
use Rattle.std.specs.Option.{unwrap_or}
use Rattle.duk_program.proofs.Marked.{texts_before_end}
use Rattle.duk_program.proofs.options.before_end.Goals as goal

pub returns : goal.returns
returns c = texts_before_end _ _ (c.unwrap_or-end.ensures ∙ ap (λ place. unwrap_or place (length c.args.words.now)) c.place_of_end.ensures)
