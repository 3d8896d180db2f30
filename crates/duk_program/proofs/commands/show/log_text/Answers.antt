use Rattle.duk_program.proofs.ShownLogs.{log_refused}
use Rattle.duk_program.proofs.commands.show.log_text.Goals as goal

pub returns-in-Ok-clause-refused : goal.returns-in-Ok-clause-refused
returns-in-Ok-clause-refused g c =
    log_refused _ c.in-Ok.bytes.items c.log_lines.result c.in-Ok.ensures.read
    (rw (← c.as_slice.ensures.value) c.log_lines.ensures.refused)
