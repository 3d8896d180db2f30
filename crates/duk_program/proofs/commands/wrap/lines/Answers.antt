use Rattle.duk_program.proofs.commands.wrap.lines.Goals as goal

pub returns-clause-refused : goal.returns-clause-refused
returns-clause-refused c = rw (← c.text.ensures, ← c.text-2.ensures, ← c.text-3.ensures, ← c.text-4.ensures) c.wrap_line.ensures.refused
