use Rattle.duk_commands.proofs.Marked.{no_mark}
use Rattle.duk_commands.proofs.issue.marks.mark.Goals as goal

pub returns-in_default : goal.returns-in_default
returns-in_default c = no_mark c.args.marks.now c.args.first c.args.iksn (λ place within. c.in_default.ensures place)
