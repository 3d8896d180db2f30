use Rattle.duk_program.proofs.ShownLogs.{ledger_refused}
use Rattle.duk_program.proofs.commands.show.ledger_text.Goals as goal

pub returns-in-Ok-clause-refused : goal.returns-in-Ok-clause-refused
returns-in-Ok-clause-refused g c =
    ledger_refused _ c.in-Ok.bytes.items c.ledger_lines.result c.in-Ok.ensures.read
    (rw (← c.as_slice.ensures.value) c.ledger_lines.ensures.refused)
