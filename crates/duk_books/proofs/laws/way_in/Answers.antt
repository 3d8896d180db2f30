use Rattle.duk_books.specs.Books.{meanings_of}
use Rattle.duk_books.proofs.calm_stores.KnownStores.{StoreLaws}
use Rattle.duk_books.proofs.numbers.OwnKey.{OwnKeyLaws}
use Rattle.duk_books.proofs.way_in.WayIn.{WayInLaws, way_in}
use Rattle.duk_books.proofs.laws.way_in.Goals as goal
use Rattle.duk_books.proofs.laws.way_in.Goals.{After-known}

stores_of : (g : _) → After-known g → StoreLaws (meanings_of g.C.Cell.meaning g.B.Cell.meaning g.J.Journal.meaning g.I.Issuer.decides)
stores_of g c = record { books = c.known.ensures; images = c.no_used_key.ensures.no_used_key; lasts = c.no_used_key.ensures.books_have_no_key }

keys_of : (g : _) → After-known g → OwnKeyLaws (meanings_of g.C.Cell.meaning g.B.Cell.meaning g.J.Journal.meaning g.I.Issuer.decides)
keys_of g c = record {
  future_keys = c.no_used_key.ensures.above_used;
  request = c.known.ensures.request;
  reversal = c.known.ensures.reversal;
  keys = c.keys.ensures;
}

laws_of : (g : _) → After-known g → WayInLaws (meanings_of g.C.Cell.meaning g.B.Cell.meaning g.J.Journal.meaning g.I.Issuer.decides)
laws_of g c = record {
  stores = stores_of g c;
  answers = record {
    one_answer = c.known.ensures.frames.one_answer;
    one_reply = c.known.ensures.frames.one_reply;
    apart = c.known.ensures.frames.apart_answers;
  };
  keys = keys_of g c;
  one_pin = c.one_pin.ensures;
}

pub returns-clause-told : goal.returns-clause-told
returns-clause-told g c old new t purchase ksn code outcomes is = (way_in _ (laws_of g c) old new t purchase ksn code outcomes is).told

pub returns-clause-at_rest : goal.returns-clause-at_rest
returns-clause-at_rest g c old new t purchase ksn code outcomes is = (way_in _ (laws_of g c) old new t purchase ksn code outcomes is).over

pub returns-clause-kept : goal.returns-clause-kept
returns-clause-kept g c old new t purchase ksn code outcomes is = (way_in _ (laws_of g c) old new t purchase ksn code outcomes is).kept

pub returns-clause-sold : goal.returns-clause-sold
returns-clause-sold g c old new t purchase ksn code outcomes is = (way_in _ (laws_of g c) old new t purchase ksn code outcomes is).sold

pub returns-clause-others : goal.returns-clause-others
returns-clause-others g c old new t purchase ksn code outcomes is = (way_in _ (laws_of g c) old new t purchase ksn code outcomes is).others
