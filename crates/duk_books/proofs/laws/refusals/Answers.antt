use Rattle.std.proofs.Common.{inl, inr}
use Rattle.std.proofs.lemmas.List.Elements.{All-contains}
use Rattle.duk_hsm.specs.Keys.{HsmKeys}
use Rattle.duk_books.specs.Books.{Frame}
use Rattle.duk_books.specs.OwnKeyOfRequests.{IsOwnKeySent}
use Rattle.duk_books.proofs.accepted.Refusals.{IsAuthenticSent, RefusalLaws, leads_refuses}
use Rattle.duk_books.proofs.laws.refusals.Goals as goal
use Rattle.duk_books.proofs.laws.refusals.Goals.{After-one_reply}

laws_of : (g : _) → After-one_reply g → RefusalLaws
laws_of g c = record {
  replies = record {
    host = record {
      new_numbers = c.new_numbers.ensures;
      replies = c.one_reply.ensures.kept;
      one_answer = c.one_reading.ensures.answer;
      replied = c.payments.ensures.reply;
    };
    longer = c.one_reply.ensures.longer;
    reversal_longer = c.one_reply.ensures.reversal_longer;
    equal = c.one_reply.ensures.equal;
    reversal_equal = c.one_reply.ensures.reversal_equal;
    one_kind = c.one_reply.ensures.one_kind;
  };
  one_request = c.one_reading.ensures.request;
  one_reversal = c.one_reading-2.ensures.reversal;
  apart = λ bytes request reversal is. (c.apart_from_payments.ensures.requests bytes request is).0 reversal;
  apart_answers = λ bytes answer reply is. (c.apart_from_payments.ensures.answers bytes answer is).1 reply;
  refusals = c.refusals.ensures.request;
  told = c.authentic.ensures.reply;
}

authentic_of : (keys : HsmKeys) (frame : Frame) → IsOwnKeySent keys frame → IsAuthenticSent keys frame.items
authentic_of keys frame (inl request) = inl (request.request, request.is_request, request.authentic)
authentic_of keys frame (inr reversal) = inr (reversal.reversal, reversal.is_reversal, reversal.authentic)

pub returns : goal.returns
returns g c = leads_refuses _ (laws_of g c) (λ books reached frame sent. authentic_of books.host.keys frame (All-contains (IsOwnKeySent books.host.keys) books.requests frame (c.own_key_of_requests.ensures books reached) sent))
