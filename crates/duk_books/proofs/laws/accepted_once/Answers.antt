use Rattle.duk_books.proofs.accepted.AcceptedOnce.{leads_once}
use Rattle.duk_books.proofs.accepted.RepliesHold.{ReplyLaws, keeps_accepted, reached_safe}
use Rattle.duk_books.proofs.laws.accepted_once.Goals as goal
use Rattle.duk_books.proofs.laws.accepted_once.Goals.{After-one_reply}

laws_of : (g : _) → After-one_reply g → ReplyLaws
laws_of g c = record {
  host = record {
    new_numbers = c.new_numbers.ensures;
    replies = c.one_reply.ensures.kept;
    one_answer = c.one_reading.ensures.answer;
    replied = c.payments.ensures.reply;
  };
  longer = c.one_reply.ensures.longer;
  reversal_longer = c.one_reply.ensures.reversal_longer;
  equal = c.one_reply.ensures.equal;
  reversal_equal = c.one_reply.ensures.reversal_equal;
  one_kind = c.one_reply.ensures.one_kind;
}

pub returns-clause-one_reply : goal.returns-clause-one_reply
returns-clause-one_reply g c books reached = (reached_safe _ (laws_of g c) books reached).one

pub returns-clause-accepted_is_kept : goal.returns-clause-accepted_is_kept
returns-clause-accepted_is_kept g c books reached = keeps_accepted _ (laws_of g c) books reached

pub returns-clause-accepted_once : goal.returns-clause-accepted_once
returns-clause-accepted_once g c = leads_once _ (laws_of g c)
