use Rattle.duk_program.proofs.commands.issue.issue_to.Goals as goal

pub returns-in-None-clause-done : goal.returns-in-None-clause-done
returns-in-None-clause-done g c = rw c.in-None.is c.issue_over.ensures.done

pub returns-in-None-clause-not_done : goal.returns-in-None-clause-not_done
returns-in-None-clause-not_done g c = rw c.in-None.is c.issue_over.ensures.not_done
