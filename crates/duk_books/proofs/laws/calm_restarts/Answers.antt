use Rattle.std.proofs.Common.{inl, refl}
use Rattle.duk_books.specs.Books.{meanings_of}
use Rattle.duk_books.proofs.calm_stores.CalmRestarts.{all_up}
use Rattle.duk_books.proofs.calm_stores.KnownStores.{StoreLaws}
use Rattle.duk_books.proofs.laws.calm_restarts.Goals as goal
use Rattle.duk_books.proofs.laws.calm_restarts.Goals.{After-known}

laws_of : (g : _) → After-known g → StoreLaws (meanings_of g.C.Cell.meaning g.B.Cell.meaning g.J.Journal.meaning g.I.Issuer.decides)
laws_of g c = record { books = c.known.ensures; images = c.no_used_key.ensures.no_used_key; lasts = c.no_used_key.ensures.books_have_no_key }

pub returns-clause-brought_up : goal.returns-clause-brought_up
returns-clause-brought_up g c old new events outcomes reached sound calm there run = (all_up _ (laws_of g c) old new events outcomes reached sound calm there run).0

pub returns-clause-calm : goal.returns-clause-calm
returns-clause-calm g c old new events outcomes reached sound calm there run = (all_up _ (laws_of g c) old new events outcomes reached sound calm there run).1

pub returns-clause-sound : goal.returns-clause-sound
returns-clause-sound g c old new events outcomes reached sound run =
    c.calm_stores.ensures.sound old new outcomes reached sound (record { events = events; mid = new; run = run; left = inl refl })
