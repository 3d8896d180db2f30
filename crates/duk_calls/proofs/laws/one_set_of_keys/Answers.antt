use Rattle.duk_calls.proofs.HostSteps.{one_set_of_keys}
use Rattle.duk_calls.proofs.Loading.{Readings}
use Rattle.duk_calls.proofs.laws.one_set_of_keys.Goals as goal

pub returns : goal.returns
returns c =
    let readings : Readings = record { one = c.one_reading.ensures; none = c.no_fault.ensures } in
    one_set_of_keys readings
