-- One event, and what may come of it: this project's own.
use Rattle.duk_books.specs.Arm.{Arms}
use Rattle.duk_books.specs.Begin.{Begins}
use Rattle.duk_books.specs.Books.{BooksOf, Meanings}
use Rattle.duk_books.specs.Down.{ReachesTill}
use Rattle.duk_books.specs.Load.{Loads}
use Rattle.duk_books.specs.Restart.{RestartsHost, RestartsTill}
use Rattle.duk_books.specs.Reverse.{Reverses}
use Rattle.duk_books.specs.Up.{ReachesHost}
use Rattle.duk_books.specs.declared.event.Event.{Event}
use Rattle.duk_books.specs.declared.event.Event.TheVariants as event
use Rattle.duk_books.specs.declared.outcome.Outcome.{Outcome}

-- from old, an event may have this outcome and lead to new. What is free is what the stores may do
abbrev pub Step : {C B J I : Type 0} → Meanings C B J I → BooksOf C B J I → Event → Outcome
    → BooksOf C B J I → Type 0
Step m old (event.Load t iksn) outcome new = Loads m old t iksn outcome new
Step m old (event.Begin t purchase) outcome new = Begins m old t purchase outcome new
Step m old (event.Reverse t) outcome new = Reverses m old t outcome new
Step m old (event.Up k) outcome new = ReachesHost m old k outcome new
Step m old (event.Down k t) outcome new = ReachesTill m old k t outcome new
Step m old (event.RestartTill t) outcome new = RestartsTill m old t outcome new
Step m old event.RestartHost outcome new = RestartsHost m old outcome new
Step m old (event.Arm which steps) outcome new = Arms m old which steps outcome new
