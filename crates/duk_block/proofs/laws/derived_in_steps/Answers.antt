use Rattle.duk_block.proofs.DerivedKeyByLength.{derived_key-double, derived_key-triple}
use Rattle.duk_block.proofs.laws.derived_in_steps.Goals as goal

pub returns-clause-double : goal.returns-clause-double
returns-clause-double c = derived_key-double

pub returns-clause-triple : goal.returns-clause-triple
returns-clause-triple c = derived_key-triple
