use Rattle.duk_hosts.proofs.SameAsOne.{did_as_one, judged_in_turn}
use Rattle.duk_hosts.proofs.Turns.{StepLaws}
use Rattle.duk_hosts.proofs.laws.one_host.Goals as goal
use Rattle.duk_hosts.proofs.laws.one_host.Goals.{After-steps}

module _ (c : After-steps) where
  laws : StepLaws
  laws = record { dismissed = c.steps.ensures.dismissed; settled = c.steps.ensures.settled; candidate = c.steps.ensures.candidate }

pub returns : goal.returns
returns c = record {
  same = λ hosts book events capacity. did_as_one (laws c) hosts book events capacity;
  judged = λ hosts decides entries added capacity turns one_issuer. judged_in_turn hosts decides capacity one_issuer entries added turns;
}
