use Rattle.duk_journal_host.proofs.settlement.Settled.answer.Goals as goal

-- the number is that of what was settled
pub returns-in-Kept-clause-under : goal.returns-in-Kept-clause-under
returns-in-Kept-clause-under c = rw c.in-Payment.is c.payment_reply.ensures.under

pub returns-in-KnownAgain-clause-under : goal.returns-in-KnownAgain-clause-under
returns-in-KnownAgain-clause-under c = rw c.in-Payment.is c.payment_reply-in-KnownAgain.ensures.under

pub returns-in-Kept-settlement-clause-under : goal.returns-in-Kept-settlement-clause-under
returns-in-Kept-settlement-clause-under c = rw c.in-Reversal.is c.reversal_reply.ensures.under

pub returns-in-KnownAgain-settlement-clause-under : goal.returns-in-KnownAgain-settlement-clause-under
returns-in-KnownAgain-settlement-clause-under c = rw c.in-Reversal.is c.reversal_reply-in-KnownAgain-settlement.ensures.under
