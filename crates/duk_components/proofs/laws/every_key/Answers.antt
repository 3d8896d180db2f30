use Rattle.duk_components.proofs.SumsOfKeys.{there_is_one}
use Rattle.duk_components.proofs.laws.every_key.Goals as goal

pub returns : goal.returns
returns c size = there_is_one size (λ key mask. c.keys.ensures.masked size key mask)
