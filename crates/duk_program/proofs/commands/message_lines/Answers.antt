use Rattle.std.proofs.Common.{◌∙◌, sym}
use Rattle.duk_program.proofs.commands.message_lines.Goals as goal

pub returns-in-Mac-clause-lines : goal.returns-in-Mac-clause-lines
returns-in-Mac-clause-lines c = rw (sym c.command.ensures ∙ c.in-Mac.is) c.lines.ensures.lines

pub returns-in-Data-clause-lines : goal.returns-in-Data-clause-lines
returns-in-Data-clause-lines c = rw (sym c.command.ensures ∙ c.in-Data.is) c.lines-in-Data.ensures.lines
