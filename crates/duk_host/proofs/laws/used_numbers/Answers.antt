use Rattle.duk_host.proofs.JudgedInTurn.{usable_after}
use Rattle.duk_host.proofs.laws.used_numbers.Goals as goal

pub returns : goal.returns
returns c = usable_after
