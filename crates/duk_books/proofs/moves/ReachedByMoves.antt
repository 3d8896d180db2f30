-- What holds of all that is reached, and of every run from it.
use Rattle.std.proofs.Common.{◌∷◌, [], zero, suc, ℕ, List, Result, Ok, Err, IfOk, IfErr, take, inl, inr, refl, sym, subst}
use Rattle.std.specs.Prelude.{All}
use Rattle.duk_journal_host.specs.Host.{HostOf}
use Rattle.duk_till.specs.Till.{TillOf}
use Rattle.duk_books.specs.Books.{BooksOf, Meanings}
use Rattle.duk_books.specs.First.{IsFirst, IsNewHost, IsNewTill, first_books}
use Rattle.duk_books.specs.Reached.{Moves, Reached}
use Rattle.duk_books.specs.Run.{IsRefusedMemory, IsRun, Run, RunRefused}
use Rattle.duk_books.specs.Step.{Step}
use Rattle.duk_books.specs.declared.event.Event.{Event}
use Rattle.duk_books.specs.declared.event.Event.TheVariants as event
use Rattle.duk_books.specs.declared.outcome.Outcome.{Outcome}
use Rattle.duk_books.specs.declared.runs.RunFault.{RunFault}
use Rattle.duk_books.specs.declared.runs.RunFault.TheVariants.{NoMemory}

-- a new host and new tills are reached, by no move
pub starts : {C B J I : Type 0} (m : Meanings C B J I) (host : HostOf J I) (loading : List ℕ) (tills : List (TillOf C B))
    → IsNewHost m host → All (IsNewTill m) tills → Reached m (first_books host loading tills)
starts m host loading tills new_host new_tills =
    (0, record { host = new_host; tills = new_tills; no_requests = refl; no_answers = refl; no_owners = refl; no_sales = refl })

-- what holds at first, and stays with each move from what was reached, holds of all that is reached
pub reached_all : {C B J I : Type 0} (m : Meanings C B J I) (P : BooksOf C B J I → Type 0)
    → ((books : BooksOf C B J I) → IsFirst m books → P books)
    → ((old new : BooksOf C B J I) → P old → Moves m old new → P new)
    → (books : BooksOf C B J I) → Reached m books → P books
reached_all m P first moves books (zero, is) = first books is
reached_all m P first moves books (suc n, before) = moves before.0 books (reached_all m P first moves before.0 (n, before.1)) before.2

-- a step leads on
pub reached_step : {C B J I : Type 0} (m : Meanings C B J I) (old new : BooksOf C B J I) (event : Event) (outcome : Outcome) → Reached m old → Step m old event outcome new → Reached m new
reached_step m old new event outcome reached step = (suc reached.0, (old, reached.1, inl (record { event = event; outcome = outcome; step = step })))

-- a run leads on
pub reached_run : {C B J I : Type 0} (m : Meanings C B J I) (old new : BooksOf C B J I) (events : List Event) (outcomes : List Outcome) → Reached m old → Run m old events outcomes new → Reached m new
reached_run m old new [] [] reached run = subst (λ books. Reached m books) (sym run) reached
reached_run m old new [] (outcome ∷ outcomes) reached run = absurd run
reached_run m old new (event ∷ events) [] reached run = absurd run
reached_run m old new (event ∷ events) (outcome ∷ outcomes) reached run =
    reached_run m run.0 new events outcomes (reached_step m old run.0 event outcome reached run.1) run.2

-- so does an event that was refused memory
reached_left : {C B J I : Type 0} (m : Meanings C B J I) (old : BooksOf C B J I) (event : Event) (new : BooksOf C B J I) → Reached m old → IsRefusedMemory m old event new → Reached m new
reached_left m old (event.Up k) new reached left = elim left [
  | inl same ↦ subst (λ books. Reached m books) (sym same) reached
  | inr out ↦ (suc reached.0, (old, reached.1, inr (inr (k, out))))
]
reached_left m old event.RestartHost new reached left = elim left [
  | inl same ↦ subst (λ books. Reached m books) (sym same) reached
  | inr stopped ↦ (suc reached.0, (old, reached.1, inr (inl stopped)))
]
reached_left m old _ new reached left = subst (λ books. Reached m books) (sym left) reached

-- however a call of `run` ends, it leads on
pub reached_call : {C B J I : Type 0} (m : Meanings C B J I) (old : BooksOf C B J I) (events : List Event) (before after : List Outcome) (new : BooksOf C B J I) (result : Result (Unit {0}) RunFault)
    → Reached m old → IfOk result (λ _. IsRun m old events before after new) → IfErr result (RunRefused m old events before after new) → Reached m new
reached_call m old events before after new (Ok done) reached run refused = reached_run m old new events run.outcomes reached run.run
reached_call m old events before after new (Err (NoMemory done)) reached run refused =
    reached_left m refused.mid refused.refused new (reached_run m old refused.mid (take done events) refused.done_part.outcomes reached refused.done_part.run) refused.left
