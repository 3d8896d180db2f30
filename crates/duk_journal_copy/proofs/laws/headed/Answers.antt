use Rattle.duk_journal_copy.proofs.Fronts.{headed_is_none}
use Rattle.duk_journal_copy.proofs.laws.headed.Goals as goal

pub returns : goal.returns
returns c = headed_is_none
