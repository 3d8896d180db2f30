use Rattle.duk_program.proofs.ShownLogs.{journal_refused}
use Rattle.duk_program.proofs.commands.show.journal_text.Goals as goal

pub returns-in-Ok-clause-refused : goal.returns-in-Ok-clause-refused
returns-in-Ok-clause-refused g c =
    journal_refused _ c.in-Ok.bytes.items c.journal_lines.result c.in-Ok.ensures.read
    (rw (← c.as_slice.ensures.value) c.journal_lines.ensures.refused)
