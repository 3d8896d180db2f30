use Rattle.duk_host.proofs.OneAnswer.{one_answer}
use Rattle.duk_host.proofs.laws.one_answer.Goals as goal

pub returns : goal.returns
returns c basis = one_answer basis c.one_reading.ensures.request c.one_pin.ensures
