use Rattle.duk_books.proofs.accepted.RepliesHold.{ReplyLaws, reached_safe}
use Rattle.duk_books.proofs.laws.own_key_of_replies.Goals as goal
use Rattle.duk_books.proofs.laws.own_key_of_replies.Goals.{After-one_reply}

laws_of : (g : _) → After-one_reply g → ReplyLaws
laws_of g c = record {
  host = record {
    new_numbers = c.new_numbers.ensures;
    replies = c.one_reply.ensures.kept;
    one_answer = c.one_reading.ensures.answer;
    replied = c.payments.ensures.reply;
  };
  longer = c.one_reply.ensures.longer;
  reversal_longer = c.one_reply.ensures.reversal_longer;
  equal = c.one_reply.ensures.equal;
  reversal_equal = c.one_reply.ensures.reversal_equal;
  one_kind = c.one_reply.ensures.one_kind;
}

pub returns : goal.returns
returns g c books reached = (reached_safe _ (laws_of g c) books reached).own
