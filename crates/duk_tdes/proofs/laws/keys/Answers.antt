use Rattle.duk_tdes.proofs.SingleKeys.{IsKey-xor_bytes, IsTdesKey-double, first_is_key, second_is_key, IsKey-append}
use Rattle.duk_tdes.proofs.laws.keys.Goals as goal

pub returns-clause-masked : goal.returns-clause-masked
returns-clause-masked c = IsKey-xor_bytes

pub returns-clause-double : goal.returns-clause-double
returns-clause-double c = IsTdesKey-double

pub returns-clause-first : goal.returns-clause-first
returns-clause-first c = first_is_key

pub returns-clause-second : goal.returns-clause-second
returns-clause-second c = second_is_key

pub returns-clause-joined : goal.returns-clause-joined
returns-clause-joined c = IsKey-append
