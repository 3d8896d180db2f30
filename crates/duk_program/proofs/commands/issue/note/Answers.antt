use Rattle.duk_program.proofs.Noted.{noted}
use Rattle.duk_program.proofs.commands.issue.note.Goals as goal

pub returns-then-passed_over-gt0 : goal.returns-then-passed_over-gt0
returns-then-passed_over-gt0 g c = noted _ _ _ c.if-passed_over-gt0.true c.note_passed_over.ensures
