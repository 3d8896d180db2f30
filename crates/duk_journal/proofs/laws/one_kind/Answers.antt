use Rattle.duk_journal.proofs.SaidEntries.{same_kind}
use Rattle.duk_journal.proofs.laws.one_kind.Goals as goal

pub returns : goal.returns
returns c = λ followers others one two first second has other same.
    same_kind c.serials.ensures.ten c.serials.ensures.found followers others one two first second has other same
