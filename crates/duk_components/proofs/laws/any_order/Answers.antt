use Rattle.duk_components.proofs.SumsOfKeys.{in_any_order}
use Rattle.duk_components.proofs.laws.any_order.Goals as goal

pub returns : goal.returns
returns c size = in_any_order size
