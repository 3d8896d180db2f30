use Rattle.duk_stations.proofs.IssuedKeys.{own_key}
use Rattle.duk_net.proofs.laws.own_initial_key.Goals as goal

pub returns : goal.returns
returns c = own_key c.one_reading.ensures
