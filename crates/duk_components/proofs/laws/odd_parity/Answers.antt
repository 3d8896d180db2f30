use Rattle.duk_components.proofs.OddParity.{is_odd, same_but_for_parity}
use Rattle.duk_components.proofs.laws.odd_parity.Goals as goal

pub returns-clause-odd : goal.returns-clause-odd
returns-clause-odd c = is_odd

pub returns-clause-others : goal.returns-clause-others
returns-clause-others c = same_but_for_parity
