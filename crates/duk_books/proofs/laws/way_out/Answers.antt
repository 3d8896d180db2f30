use Rattle.duk_books.specs.Books.{meanings_of}
use Rattle.duk_books.proofs.calm_stores.KnownStores.{StoreLaws}
use Rattle.duk_books.proofs.way_out.OpenIsUsed.{open_is_used}
use Rattle.duk_books.proofs.way_out.WayOut.{WayLaws, way_out}
use Rattle.duk_books.proofs.laws.way_out.Goals as goal
use Rattle.duk_books.proofs.laws.way_out.Goals.{After-known}

stores_of : (g : _) → After-known g → StoreLaws (meanings_of g.C.Cell.meaning g.B.Cell.meaning g.J.Journal.meaning g.I.Issuer.decides)
stores_of g c = record { books = c.known.ensures; images = c.no_used_key.ensures.no_used_key; lasts = c.no_used_key.ensures.books_have_no_key }

laws_of : (g : _) → After-known g → WayLaws (meanings_of g.C.Cell.meaning g.B.Cell.meaning g.J.Journal.meaning g.I.Issuer.decides)
laws_of g c = record {
  stores = stores_of g c;
  reading = record {
    one_reply = c.known.ensures.frames.one_reply;
    apart = c.known.ensures.frames.apart_answers;
    told = c.authentic.ensures.reply;
  };
  above_used = c.no_used_key.ensures.above_used;
  own = c.own_key_of_requests.ensures;
  waits = c.stolen_till.ensures.reply_key;
  prefixes = c.prefixes.ensures;
}

pub returns-clause-open_number_is_used : goal.returns-clause-open_number_is_used
returns-clause-open_number_is_used g c books reached = open_is_used _ (stores_of g c).books books reached c.no_used_key.ensures.above_used

pub returns-clause-at_rest : goal.returns-clause-at_rest
returns-clause-at_rest g c old new t outcomes reached way run unworn = (way_out _ (laws_of g c) old new t outcomes reached way run unworn).at_rest

pub returns-clause-undone : goal.returns-clause-undone
returns-clause-undone g c old new t outcomes ksn reached way is_open run unworn = (way_out _ (laws_of g c) old new t outcomes reached way run unworn).undone ksn is_open
