use Rattle.duk_journal.proofs.laws.changed_byte.Goals as goal

pub returns : goal.returns
returns c = λ identity place followers others one other before after byte changed are less first second.
    c.one_checked.ensures identity place before after byte changed are less first.check second.check
