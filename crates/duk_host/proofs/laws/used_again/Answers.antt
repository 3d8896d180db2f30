use Rattle.duk_host.proofs.UsedAgain.{used_again}
use Rattle.duk_host.proofs.laws.used_again.Goals as goal

pub returns : goal.returns
returns c = used_again c.one_reading.ensures.request c.refusals.ensures.request
