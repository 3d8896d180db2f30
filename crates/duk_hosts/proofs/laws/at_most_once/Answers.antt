use Rattle.duk_journal.specs.Standing.{UseNewNumbers}
use Rattle.duk_hosts.proofs.Standing.{left_by_all}
use Rattle.duk_hosts.proofs.Turns.{StepLaws}
use Rattle.duk_hosts.proofs.laws.at_most_once.Goals as goal
use Rattle.duk_hosts.proofs.laws.at_most_once.Goals.{After-new_numbers}

module _ (c : After-new_numbers) where
  laws : StepLaws
  laws = record { dismissed = c.steps.ensures.dismissed; settled = c.steps.ensures.settled; candidate = c.steps.ensures.candidate }

pub returns : goal.returns
returns c = λ hosts book events history first. left_by_all (laws c) hosts book events UseNewNumbers c.new_numbers.ensures history first
