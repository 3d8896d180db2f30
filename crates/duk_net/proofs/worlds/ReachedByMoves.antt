-- What holds of every world that is reached, and of every run from one.
use Rattle.std.proofs.Common.{◌≡◌, ◌⊎◌, ◌++◌, ◌∷◌, [], zero, suc, ℕ, List, Result, Ok, Err, IfOk, IfErr, take, inl, inr, refl, sym, subst, append_assoc, append-nil}
use Rattle.duk_host.specs.Host.{HostOf}
use Rattle.duk_term.specs.Terminal.{TerminalOf}
use Rattle.duk_net.specs.First.{IsFirstWorld, IsNewHost, IsNewTerminal, first_world}
use Rattle.std.specs.Prelude.{All}
use Rattle.duk_net.specs.Gained.{GainedMeet}
use Rattle.duk_net.specs.Reached.{CallLeads, Moves, Reached}
use Rattle.duk_net.specs.Restart.{IsHostLeft}
use Rattle.duk_net.specs.Run.{IsRefusedMemory, IsRun, Run, RunRefused}
use Rattle.duk_net.specs.Step.{Step}
use Rattle.duk_net.specs.World.{Meanings, WorldOf}
use Rattle.duk_net.specs.declared.event.Event.{Event}
use Rattle.duk_net.specs.declared.event.Event.TheVariants as event
use Rattle.duk_net.specs.declared.outcome.Outcome.{Outcome}
use Rattle.duk_net.specs.declared.runs.NetFault.{NetFault}
use Rattle.duk_net.specs.declared.runs.NetFault.TheVariants.{NoMemory}

-- the world of a new host and new terminals is reached, by no move
pub starts : {C L I : Type 0} (m : Meanings C L I) (host : HostOf L I) (loading : List ℕ) (terminals : List (TerminalOf C))
    → IsNewHost m host → All (IsNewTerminal m) terminals → Reached m (first_world host loading terminals)
starts m host loading terminals new_host new_terminals =
    (0, record { host = new_host; terminals = new_terminals; no_requests = refl; no_answers = refl; no_owners = refl })

-- what holds of a new world, and stays as a world that was reached moves on, holds of every world
-- that is reached
pub reached_all : {C L I : Type 0} (m : Meanings C L I) (P : WorldOf C L I → Type 0)
    → ((world : WorldOf C L I) → IsFirstWorld m world → P world)
    → ((old new : WorldOf C L I) → Reached m old → P old → Moves m old new → P new)
    → (world : WorldOf C L I) → Reached m world → P world
reached_all m P first moves world (zero, is) = first world is
reached_all m P first moves world (suc n, before) =
    moves before.0 world (n, before.1) (reached_all m P first moves before.0 (n, before.1)) before.2

-- a step leads on
pub reached_step : {C L I : Type 0} (m : Meanings C L I) (old new : WorldOf C L I) (event : Event) (outcome : Outcome) → Reached m old → Step m old event outcome new → Reached m new
reached_step m old new event outcome reached step = (suc reached.0, (old, reached.1, inl (record { event = event; outcome = outcome; step = step })))

-- what holds of no outcomes, and stays with each step, holds of the outcomes of a run
pub run_all : {C L I : Type 0} (m : Meanings C L I) (P : List Outcome → WorldOf C L I → Type 0)
    → ((outcomes : List Outcome) (old new : WorldOf C L I) (event : Event) (outcome : Outcome) → Reached m old → P outcomes old → Step m old event outcome new → P (outcomes ++ outcome ∷ []) new)
    → (old new : WorldOf C L I) (events : List Event) (before outcomes : List Outcome) → Reached m old → P before old → Run m old events outcomes new
    → Reached m new × P (before ++ outcomes) new
run_all m P steps old new [] before [] reached holds run =
    subst (λ world. Reached m world × P (before ++ []) world) (sym run) (reached, subst (λ list. P list old) (sym (append-nil before)) holds)
run_all m P steps old new [] before (outcome ∷ outcomes) reached holds run = absurd run
run_all m P steps old new (event ∷ events) before [] reached holds run = absurd run
run_all m P steps old new (event ∷ events) before (outcome ∷ outcomes) reached holds run =
    let next = run_all m P steps run.0 new events (before ++ outcome ∷ []) outcomes (reached_step m old run.0 event outcome reached run.1)
    (steps before old run.0 event outcome reached holds run.1) run.2 in
    (next.0, subst (λ list. P list new) (append_assoc before (outcome ∷ []) outcomes) next.1)

-- a run leads from a world that was reached to another one
pub reached_run : {C L I : Type 0} (m : Meanings C L I) (old new : WorldOf C L I) (events : List Event) (outcomes : List Outcome) → Reached m old → Run m old events outcomes new → Reached m new
reached_run m old new events outcomes reached run =
    (run_all m (λ outcomes world. Unit {0}) (λ outcomes old new event outcome reached holds step. tt) old new events [] outcomes reached tt run).0

-- a call leads from a world that was reached to another one
pub reached_leads : {C L I : Type 0} (m : Meanings C L I) (old new : WorldOf C L I) (outcomes : List Outcome) → Reached m old → CallLeads m old outcomes new → Reached m new
reached_leads m old new outcomes reached leads =
    let mid = reached_run m old leads.mid leads.events outcomes reached leads.run in
    elim leads.left [
      | inl same ↦ subst (λ world. Reached m world) (sym same) mid
      | inr left ↦ (suc mid.0, (leads.mid, mid.1, inr left))
    ]

-- what holds of no outcomes, stays with each step, and stays where the host's restart is refused
-- memory, holds of the outcomes of a call
pub leads_all : {C L I : Type 0} (m : Meanings C L I) (P : List Outcome → WorldOf C L I → Type 0)
    → ((outcomes : List Outcome) (old new : WorldOf C L I) (event : Event) (outcome : Outcome) → Reached m old → P outcomes old → Step m old event outcome new → P (outcomes ++ outcome ∷ []) new)
    → ((outcomes : List Outcome) (old new : WorldOf C L I) → Reached m old → P outcomes old → IsHostLeft m old new → P outcomes new)
    → (old new : WorldOf C L I) (outcomes : List Outcome) → Reached m old → P [] old → CallLeads m old outcomes new → P outcomes new
leads_all m P steps lefts old new outcomes reached holds leads =
    let ran = run_all m P steps old leads.mid leads.events [] outcomes reached holds leads.run in
    elim leads.left [
      | inl same ↦ subst (λ world. P outcomes world) (sym same) ran.1
      | inr left ↦ lefts outcomes leads.mid new ran.0 ran.1 left
    ]

-- what an event that was refused memory leaves
left_alone : {C L I : Type 0} (m : Meanings C L I) (old : WorldOf C L I) (event : Event) (new : WorldOf C L I) → IsRefusedMemory m old event new → (new ≡ old) ⊎ IsHostLeft m old new
left_alone m old event.RestartHost new left = left
left_alone m old _ new left = inl left

-- however a call ends, it leads on by what it put at the end of the outcomes
pub call_leads : {C L I : Type 0} (m : Meanings C L I) (old : WorldOf C L I) (events : List Event) (before after : List Outcome) (new : WorldOf C L I) (result : Result (Unit {0}) NetFault)
    → IfOk result (λ _. IsRun m old events before after new) → IfErr result (RunRefused m old events before after new) → GainedMeet (λ outcomes. CallLeads m old outcomes new) before after
call_leads m old events before after new (Ok done) run refused =
    record { outcomes = run.outcomes; gained = run.gained; holds = record { events = events; mid = new; run = run.run; left = inl refl } }
call_leads m old events before after new (Err (NoMemory done)) run refused = record {
  outcomes = refused.done_part.outcomes;
  gained = refused.done_part.gained;
  holds = record { events = take done events; mid = refused.mid; run = refused.done_part.run; left = left_alone m refused.mid refused.refused new refused.left };
}

-- what follows for the outcomes that a call put there
pub gained_so : (P Q : List Outcome → Type 0) (before after : List Outcome) → ((outcomes : List Outcome) → P outcomes → Q outcomes) → GainedMeet P before after → GainedMeet Q before after
gained_so P Q before after follows holds = record { outcomes = holds.outcomes; gained = holds.gained; holds = follows holds.outcomes holds.holds }
