use Rattle.std.proofs.Common.{◌++◌}
use Rattle.duk_journal_host.specs.Judged.{TellWhatIsKept}
use Rattle.duk_hosts.specs.Events.{kept_after}
use Rattle.duk_hosts.proofs.Standing.{left_by_all}
use Rattle.duk_hosts.proofs.Turns.{StepLaws}
use Rattle.duk_hosts.proofs.laws.told.Goals as goal
use Rattle.duk_hosts.proofs.laws.told.Goals.{After-told_what_stands}

module _ (c : After-told_what_stands) where
  laws : StepLaws
  laws = record { dismissed = c.steps.ensures.dismissed; settled = c.steps.ensures.settled; candidate = c.steps.ensures.candidate }

pub returns : goal.returns
returns c = λ hosts book events later answer numbers state history first is_in tells.
    let tell = left_by_all (laws c) hosts book (events ++ later) TellWhatIsKept c.told_what_stands.ensures.frames history first in
    let has = c.kept.ensures hosts book events later history in
    c.told_what_stands.ensures.told hosts.keys (kept_after book (events ++ later)) numbers state answer tell (has.1 answer numbers state is_in tells)
