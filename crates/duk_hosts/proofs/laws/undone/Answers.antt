use Rattle.duk_hosts.proofs.Turns.{StepLaws}
use Rattle.duk_hosts.proofs.Undone.{late_answer, never, refused_later}
use Rattle.duk_hosts.proofs.laws.undone.Goals as goal
use Rattle.duk_hosts.proofs.laws.undone.Goals.{After-one_reply}

module _ (c : After-one_reply) where
  laws : StepLaws
  laws = record { dismissed = c.steps.ensures.dismissed; settled = c.steps.ensures.settled; candidate = c.steps.ensures.candidate }

pub returns : goal.returns
returns c = record {
  refused = refused_later;
  late = λ hosts book events later number answer. late_answer (laws c) c.one_reply.ensures.kept hosts book events later number answer;
  never_stands = λ hosts. never;
}
