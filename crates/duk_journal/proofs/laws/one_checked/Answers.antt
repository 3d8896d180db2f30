use Rattle.duk_journal.proofs.ChangedBytes.{one_checked}
use Rattle.duk_journal.proofs.laws.one_checked.Goals as goal

pub returns : goal.returns
returns c = one_checked c.one_byte.ensures
