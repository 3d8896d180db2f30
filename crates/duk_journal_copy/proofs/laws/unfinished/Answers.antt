use Rattle.duk_journal_copy.proofs.Fronts.{unfinished_is_none}
use Rattle.duk_journal_copy.proofs.laws.unfinished.Goals as goal

pub returns : goal.returns
returns c bytes unfinished = unfinished_is_none bytes unfinished
