use Rattle.duk_host.specs.Judgement.{no_serial, reason_number}
use Rattle.duk_journal_host.proofs.OneNumber.{AnswerLaws, equal_replies, equal_reversal_replies, of_one_kind, replies_after, reply_of_more, reversal_replies_after, reversal_reply_of_more}
use Rattle.duk_journal_host.proofs.laws.one_reply.Goals as goal
use Rattle.duk_journal_host.proofs.laws.one_reply.Goals.{After-authentic}

module _ (c : After-authentic) where
  answers : AnswerLaws
  answers = record {
    one_answer = c.one_reading.ensures.answer;
    one_reply = c.one_reading-2.ensures.reply;
    apart = λ bytes answer reply is. (c.apart_from_payments.ensures.answers bytes answer is).1 reply;
    malformed = λ bytes frame malformed. (no_serial, 1, c.refusals.ensures.malformed bytes frame malformed);
    refused = λ basis bytes frame refused. (refused.request.ksn, reason_number refused.reason, c.refusals.ensures.request basis bytes frame refused);
    replied = c.payments.ensures.reply;
    told = c.authentic.ensures.reply;
  }

pub returns : goal.returns
returns c = record {
  kept = λ basis frames answered added judged. (
    replies_after (answers c) basis frames answered added judged,
    reversal_replies_after (answers c) basis frames answered added judged,
  );
  longer = reply_of_more;
  reversal_longer = reversal_reply_of_more;
  equal = equal_replies;
  reversal_equal = equal_reversal_replies;
  one_kind = of_one_kind;
}
