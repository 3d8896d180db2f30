use Rattle.duk_program.proofs.commands.run.play.Goals as goal

pub returns-then-journal-clause-done : goal.returns-then-journal-clause-done
returns-then-journal-clause-done g c = rw c.if-journal.true c.play_script.ensures.done

pub returns-else-journal-clause-done : goal.returns-else-journal-clause-done
returns-else-journal-clause-done g c = rw c.if-journal.false c.play_script-else-journal.ensures.done
