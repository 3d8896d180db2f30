-- What holds of each run and each call, and of what came of it.
use Rattle.std.proofs.Common.{◌≡◌, ◌⊎◌, ◌++◌, ◌∷◌, [], List, Result, Ok, Err, IfOk, IfErr, take, inl, inr, refl, sym, subst, append_assoc, append-nil}
use Rattle.duk_books.specs.Books.{BooksOf, Meanings}
use Rattle.duk_books.specs.CallLeads.{CallLeads}
use Rattle.duk_books.specs.Gained.{GainedMeet}
use Rattle.duk_books.specs.Reached.{IsLeft, Reached}
use Rattle.duk_books.specs.Run.{IsRefusedMemory, IsRun, Run, RunRefused}
use Rattle.duk_books.specs.Step.{Step}
use Rattle.duk_books.specs.declared.event.Event.{Event}
use Rattle.duk_books.specs.declared.event.Event.TheVariants as event
use Rattle.duk_books.specs.declared.outcome.Outcome.{Outcome}
use Rattle.duk_books.specs.declared.runs.RunFault.{RunFault}
use Rattle.duk_books.specs.declared.runs.RunFault.TheVariants.{NoMemory}
use Rattle.duk_books.proofs.moves.ReachedByMoves.{reached_step}

-- what holds of no outcomes, and stays with each step, holds of the outcomes of a run
run_all : {C B J I : Type 0} (m : Meanings C B J I) (P : List Outcome → BooksOf C B J I → Type 0)
    → ((outcomes : List Outcome) (old new : BooksOf C B J I) (event : Event) (outcome : Outcome) → Reached m old → P outcomes old → Step m old event outcome new → P (outcomes ++ outcome ∷ []) new)
    → (old new : BooksOf C B J I) (events : List Event) (before outcomes : List Outcome) → Reached m old → P before old → Run m old events outcomes new
    → Reached m new × P (before ++ outcomes) new
run_all m P steps old new [] before [] reached holds run =
    subst (λ books. Reached m books × P (before ++ []) books) (sym run) (reached, subst (λ list. P list old) (sym (append-nil before)) holds)
run_all m P steps old new [] before (outcome ∷ outcomes) reached holds run = absurd run
run_all m P steps old new (event ∷ events) before [] reached holds run = absurd run
run_all m P steps old new (event ∷ events) before (outcome ∷ outcomes) reached holds run =
    let next = run_all m P steps run.0 new events (before ++ outcome ∷ []) outcomes (reached_step m old run.0 event outcome reached run.1)
    (steps before old run.0 event outcome reached holds run.1) run.2 in
    (next.0, subst (λ list. P list new) (append_assoc before (outcome ∷ []) outcomes) next.1)

-- what holds of no outcomes, stays with each step, and stays where the host is refused memory, holds
-- of the outcomes of a call
pub leads_all : {C B J I : Type 0} (m : Meanings C B J I) (P : List Outcome → BooksOf C B J I → Type 0)
    → ((outcomes : List Outcome) (old new : BooksOf C B J I) (event : Event) (outcome : Outcome) → Reached m old → P outcomes old → Step m old event outcome new → P (outcomes ++ outcome ∷ []) new)
    → ((outcomes : List Outcome) (old new : BooksOf C B J I) → Reached m old → P outcomes old → IsLeft m old new → P outcomes new)
    → (old new : BooksOf C B J I) (outcomes : List Outcome) → Reached m old → P [] old → CallLeads m old outcomes new → P outcomes new
leads_all m P steps lefts old new outcomes reached holds leads =
    let ran = run_all m P steps old leads.mid leads.events [] outcomes reached holds leads.run in
    elim leads.left [
      | inl same ↦ subst (λ books. P outcomes books) (sym same) ran.1
      | inr left ↦ lefts outcomes leads.mid new ran.0 ran.1 left
    ]

-- what an event that was refused memory leaves
left_alone : {C B J I : Type 0} (m : Meanings C B J I) (old : BooksOf C B J I) (event : Event) (new : BooksOf C B J I) → IsRefusedMemory m old event new → (new ≡ old) ⊎ IsLeft m old new
left_alone m old (event.Up k) new left = elim left [
  | inl same ↦ inl same
  | inr out ↦ inr (inr (k, out))
]
left_alone m old event.RestartHost new left = elim left [
  | inl same ↦ inl same
  | inr stopped ↦ inr (inl stopped)
]
left_alone m old _ new left = inl left

-- however a call of `run` ends, it leads on by what it put at the end of the outcomes
pub call_leads : {C B J I : Type 0} (m : Meanings C B J I) (old : BooksOf C B J I) (events : List Event) (before after : List Outcome) (new : BooksOf C B J I) (result : Result (Unit {0}) RunFault)
    → IfOk result (λ _. IsRun m old events before after new) → IfErr result (RunRefused m old events before after new) → GainedMeet (λ outcomes. CallLeads m old outcomes new) before after
call_leads m old events before after new (Ok done) run refused =
    record { outcomes = run.outcomes; gained = run.gained; holds = record { events = events; mid = new; run = run.run; left = inl refl } }
call_leads m old events before after new (Err (NoMemory done)) run refused = record {
  outcomes = refused.done_part.outcomes;
  gained = refused.done_part.gained;
  holds = record { events = take done events; mid = refused.mid; run = refused.done_part.run; left = left_alone m refused.mid refused.refused new refused.left };
}

-- what follows for the outcomes that a call put there
pub gained_so : (P Q : List Outcome → Type 0) (before after : List Outcome) → ((outcomes : List Outcome) → P outcomes → Q outcomes) → GainedMeet P before after → GainedMeet Q before after
gained_so P Q before after follows holds = record { outcomes = holds.outcomes; gained = holds.gained; holds = follows holds.outcomes holds.holds }
