use Rattle.duk_journal_host.proofs.AnsweredAgain.{ReadingLaws, older, other_mac, undone}
use Rattle.duk_journal_host.proofs.laws.not_answered_again.Goals as goal
use Rattle.duk_journal_host.proofs.laws.not_answered_again.Goals.{After-apart_from_payments}

module _ (c : After-apart_from_payments) where
  readings : ReadingLaws
  readings = record {
    one_request = c.one_reading.ensures.request;
    one_reversal = c.one_reading-2.ensures.reversal;
    apart = λ bytes request reversal is. (c.apart_from_payments.ensures.requests bytes request is).0 reversal;
    used_again = c.used_again.ensures;
  }

pub returns : goal.returns
returns c = record {
  other_mac = λ basis frame answer added. other_mac (readings c) basis frame answer added;
  older = λ basis frame answer added. older (readings c) basis frame answer added;
  undone = λ basis frame answer added. undone (readings c) basis frame answer added;
}
