use Rattle.duk_host.specs.Judgement.{no_serial, reason_number}
use Rattle.duk_journal_host.proofs.KindsOfAnswers.{kind_of}
use Rattle.duk_journal_host.proofs.OneNumber.{AnswerLaws}
use Rattle.duk_journal_host.proofs.laws.answers.Goals as goal
use Rattle.duk_journal_host.proofs.laws.answers.Goals.{After-authentic}

module _ (c : After-authentic) where
  answers : AnswerLaws
  answers = record {
    one_answer = c.one_reading.ensures.answer;
    one_reply = c.one_reading-2.ensures.reply;
    apart = λ bytes answer reply is. (c.apart_from_payments.ensures.answers bytes answer is).1 reply;
    malformed = λ bytes frame malformed. (no_serial, 1, c.refusals.ensures.malformed bytes frame malformed);
    refused = λ basis bytes frame refused. (refused.request.ksn, reason_number refused.reason, c.refusals.ensures.request basis bytes frame refused);
    replied = c.payments.ensures.reply;
    told = c.authentic.ensures.reply;
  }

pub returns : goal.returns
returns c = kind_of (answers c)
