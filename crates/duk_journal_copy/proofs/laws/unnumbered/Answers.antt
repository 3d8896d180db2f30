use Rattle.duk_journal_copy.proofs.Fronts.{other_behind_number}
use Rattle.duk_journal_copy.proofs.laws.unnumbered.Goals as goal

pub returns : goal.returns
returns c = other_behind_number
