use Rattle.duk_journal_copy.proofs.Fronts.{versions_equal}
use Rattle.duk_journal_copy.proofs.laws.one_version.Goals as goal

pub returns : goal.returns
returns c = versions_equal
