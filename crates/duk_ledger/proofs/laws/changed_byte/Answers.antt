use Rattle.std.proofs.Common.{◌∷◌, ◌++◌}
use Rattle.duk_ledger.proofs.SaidIssues.{says_checked}
use Rattle.duk_ledger.proofs.laws.changed_byte.Goals as goal

pub returns : goal.returns
returns c = λ identity place followers others one other before after byte changed are less first second.
    c.one_checked.ensures identity place before after byte changed are less
    (says_checked c.serials.ensures.ten identity place followers one (before ++ byte ∷ after) first)
    (says_checked c.serials.ensures.ten identity place others other (before ++ changed ∷ after) second)
