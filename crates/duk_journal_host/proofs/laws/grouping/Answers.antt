use Rattle.duk_journal_host.proofs.InTurn.{as_many, joined, parted}
use Rattle.duk_journal_host.proofs.laws.grouping.Goals as goal

pub returns : goal.returns
returns c = record { joined = joined; parted = parted; as_many = as_many }
