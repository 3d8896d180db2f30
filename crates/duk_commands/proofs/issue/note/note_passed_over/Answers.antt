use Rattle.std.proofs.Common.{◌∙◌, subst}
use Rattle.duk_commands.proofs.issue.note.note_passed_over.Goals as goal
use Rattle.duk_io.specs.Sink.{IsTried}

pub returns : goal.returns
returns g c =
    subst (λ text. IsTried (g.F.Sink.known c.args.fault.now) (g.F.Sink.known c.tell.new.fault) text)
    (c.as_slice.ensures.value ∙ c.line_of.ensures) c.tell.ensures
