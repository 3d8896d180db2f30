use Rattle.duk_calls.proofs.HostSteps.{candidate_says}
use Rattle.duk_calls.proofs.Marked.{SerialLaws, one_reading, own_code}
use Rattle.duk_calls.proofs.laws.settlements.Goals as goal

pub returns-clause-says : goal.returns-clause-says
returns-clause-says c =
    let laws : SerialLaws = record { ten = c.serials.ensures.ten; found = c.serials.ensures.found } in
    candidate_says laws

pub returns-clause-one : goal.returns-clause-one
returns-clause-one c = one_reading

pub returns-clause-own_code : goal.returns-clause-own_code
returns-clause-own_code c =
    let laws : SerialLaws = record { ten = c.serials.ensures.ten; found = c.serials.ensures.found } in
    own_code laws
