use Rattle.duk_books.proofs.laws.known.Goals as goal

pub returns : goal.returns
returns g c = record {
  calls = record { registers = c.registers.ensures; reading = c.one_reading.ensures };
  frames = record {
    one_request = c.one_reading-2.ensures.request;
    one_answer = c.one_reading-2.ensures.answer;
    one_reversal = c.one_reading-3.ensures.reversal;
    one_reply = c.one_reading-3.ensures.reply;
    apart = λ bytes request reversal is. (c.apart_from_payments.ensures.requests bytes request is).0 reversal;
    apart_answers = λ bytes answer reply is. (c.apart_from_payments.ensures.answers bytes answer is).1 reply;
  };
  host = record {
    new_numbers = c.new_numbers.ensures;
    replies = c.one_reply.ensures.kept;
    one_answer = c.one_reading-2.ensures.answer;
    replied = c.payments.ensures.reply;
  };
  request = c.requests.ensures.request;
  reversal = c.reversals.ensures;
}
