use Rattle.duk_journal.proofs.CheckSums.{one_check_sum}
use Rattle.duk_journal.proofs.laws.check_sums.Goals as goal

pub returns : goal.returns
returns c = one_check_sum c.serials.ensures.ten c.serials.ensures.are_bytes c.serials.ensures.found
