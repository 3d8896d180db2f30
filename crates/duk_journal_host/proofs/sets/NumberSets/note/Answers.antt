use Rattle.std.proofs.Common.{OnOk, subst, sym}
use Rattle.duk_journal_host.specs.inner.Index.{IsNoted}
use Rattle.duk_journal_host.proofs.NumbersTaken.{wider_equal}
use Rattle.duk_journal_host.proofs.sets.NumberSets.note.Goals as goal

pub returns-in-Payment-clause-wider : goal.returns-in-Payment-clause-wider
returns-in-Payment-clause-wider c = wider_equal c.args.self.now.used c.note_payment.new.self.used c.note_payment.ensures.same

pub returns-in-Payment-clause-noted : goal.returns-in-Payment-clause-noted
returns-in-Payment-clause-noted c =
    subst (λ decided. OnOk c.note_payment.result (IsNoted c.args.self.now c.note_payment.new.self c.args.entry.now.number decided)) (sym c.in-Payment.is) c.note_payment.ensures.noted

pub returns-in-Reversal-clause-noted : goal.returns-in-Reversal-clause-noted
returns-in-Reversal-clause-noted c =
    subst (λ decided. OnOk c.note_reversal.result (IsNoted c.args.self.now c.note_reversal.new.self c.args.entry.now.number decided)) (sym c.in-Reversal.is) c.note_reversal.ensures.noted
