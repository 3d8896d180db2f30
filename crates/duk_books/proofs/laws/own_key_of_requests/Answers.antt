use Rattle.duk_books.specs.Books.{meanings_of}
use Rattle.duk_books.proofs.numbers.OwnKey.{OwnKeyLaws, reached_own}
use Rattle.duk_books.proofs.laws.own_key_of_requests.Goals as goal
use Rattle.duk_books.proofs.laws.own_key_of_requests.Goals.{After-keys}

laws_of : (g : _) → After-keys g → OwnKeyLaws (meanings_of g.C.Cell.meaning g.B.Cell.meaning g.J.Journal.meaning g.I.Issuer.decides)
laws_of g c = record {
  future_keys = c.no_used_key.ensures.above_used;
  request = c.requests.ensures.request;
  reversal = c.reversals.ensures;
  keys = c.keys.ensures;
}

pub returns : goal.returns
returns g c books reached = reached_own _ (laws_of g c) books reached
