use Rattle.duk_journal_copy.proofs.Fronts.{other_mark_unheaded}
use Rattle.duk_journal_copy.proofs.laws.unheaded.Goals as goal

pub returns : goal.returns
returns c = other_mark_unheaded
