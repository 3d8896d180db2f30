use Rattle.duk_till.proofs.Places.{same_last}
use Rattle.duk_till.proofs.laws.one_reading.Goals as goal

pub returns : goal.returns
returns c = λ body one other is_one is_other. same_last body one other c.serials.ensures.ten c.serials.ensures.found is_one is_other
