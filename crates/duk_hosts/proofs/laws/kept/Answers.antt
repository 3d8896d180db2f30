use Rattle.duk_hosts.proofs.Standing.{each_kept}
use Rattle.duk_hosts.proofs.Turns.{StepLaws}
use Rattle.duk_hosts.proofs.laws.kept.Goals as goal
use Rattle.duk_hosts.proofs.laws.kept.Goals.{After-one_reply}

module _ (c : After-one_reply) where
  laws : StepLaws
  laws = record { dismissed = c.steps.ensures.dismissed; settled = c.steps.ensures.settled; candidate = c.steps.ensures.candidate }

pub returns : goal.returns
returns c = λ hosts book events later history. each_kept (laws c) hosts book events later c.one_reply.ensures.kept history
