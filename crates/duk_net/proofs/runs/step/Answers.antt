use Rattle.duk_net.proofs.runs.step.Goals as goal

pub returns-in-Down-clause-step : goal.returns-in-Down-clause-step
returns-in-Down-clause-step g c = rw c.in-Down.is c.down.ensures
