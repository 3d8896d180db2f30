use Rattle.duk_hosts.proofs.GoingOn.{happens_in_turn, keeps_in_turn}
use Rattle.duk_hosts.proofs.laws.settled_in_turn.Goals as goal

pub returns : goal.returns
returns c = record { happens = happens_in_turn; keeps = keeps_in_turn }
