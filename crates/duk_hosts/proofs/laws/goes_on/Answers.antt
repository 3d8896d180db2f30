use Rattle.duk_hosts.proofs.GoingOn.{answered_now, judged_now, refused_now, settled_now, settled_somehow}
use Rattle.duk_hosts.proofs.Settling.{answer_of}
use Rattle.duk_hosts.proofs.Standing.{founded_run}
use Rattle.duk_hosts.proofs.Again.{settled_in}
use Rattle.duk_hosts.proofs.Turns.{StepLaws}
use Rattle.duk_hosts.proofs.Undone.{asked_in}
use Rattle.duk_hosts.specs.Events.{all_outcomes}
use Rattle.duk_hosts.proofs.laws.goes_on.Goals as goal
use Rattle.duk_hosts.proofs.laws.goes_on.Goals.{After-steps}

module _ (c : After-steps) where
  laws : StepLaws
  laws = record { dismissed = c.steps.ensures.dismissed; settled = c.steps.ensures.settled; candidate = c.steps.ensures.candidate }

pub returns : goal.returns
returns c = record {
  refused = refused_now;
  judged = judged_now;
  settled = settled_now;
  answered = λ hosts book events outcome history is_in.
      let run = founded_run (laws c) hosts book events history in
      let asked = asked_in hosts book.bound book.first (all_outcomes events) outcome run.were (settled_in hosts book events history) is_in in
      let given = answer_of hosts.keys outcome.judged.ask.frame outcome.settled asked in
      (given.0, answered_now hosts book events outcome given.0 history is_in given.1);
  somehow = settled_somehow;
}
