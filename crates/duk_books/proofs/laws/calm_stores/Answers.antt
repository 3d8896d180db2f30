use Rattle.duk_books.specs.Books.{meanings_of}
use Rattle.duk_books.proofs.calm_stores.CalmStores.{leads_calm, leads_sound}
use Rattle.duk_books.proofs.calm_stores.KnownStores.{StoreLaws}
use Rattle.duk_books.proofs.laws.calm_stores.Goals as goal
use Rattle.duk_books.proofs.laws.calm_stores.Goals.{After-known}

laws_of : (g : _) → After-known g → StoreLaws (meanings_of g.C.Cell.meaning g.B.Cell.meaning g.J.Journal.meaning g.I.Issuer.decides)
laws_of g c = record { books = c.known.ensures; images = c.no_used_key.ensures.no_used_key; lasts = c.no_used_key.ensures.books_have_no_key }

pub returns-clause-sound : goal.returns-clause-sound
returns-clause-sound g c old new outcomes reached sound leads = (leads_sound _ (laws_of g c) old new outcomes reached sound leads).0

pub returns-clause-no_damage : goal.returns-clause-no_damage
returns-clause-no_damage g c old new outcomes reached sound leads = (leads_sound _ (laws_of g c) old new outcomes reached sound leads).1

pub returns-clause-calm : goal.returns-clause-calm
returns-clause-calm g c end old new outcomes reached calm leads = (leads_calm _ (laws_of g c) end old new outcomes reached calm leads).0

pub returns-clause-once_armed : goal.returns-clause-once_armed
returns-clause-once_armed g c end old new outcomes reached calm leads = (leads_calm _ (laws_of g c) end old new outcomes reached calm leads).1
