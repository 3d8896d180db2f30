-- The first world over new stores, and the restarts of its ends.
use Rattle.std.proofs.Common.{◌≡◌, ◌+◌, ◌≤◌, [], ℕ, zero, suc, List, length, replicate, inl, refl, sym, ap, subst, ◌∙◌, arith}
use Rattle.std.specs.List.{All}
use Rattle.std.proofs.lemmas.List.{length-replicate}
use Rattle.std.proofs.lemmas.List.Elements.{All-nil, All-cons, All-push, All-weaker, All-get_or}
use Rattle.std.proofs.lemmas.Option.{get_or_from_slice_get, slice_get_within}
use Rattle.duk_config.specs.NewHost.{new_host_of}
use Rattle.duk_config.specs.Settings.{Settings}
use Rattle.duk_host.specs.Host.{HostOf}
use Rattle.duk_host.specs.Table.{CardTable, table_decision}
use Rattle.duk_net.specs.Calm.{FailsOnceArmed, HasSoundCell, HasSoundStores, ReportsBroughtUp, IsCalmAt, IsRestartEvent, ReportsNoDamage}
use Rattle.duk_net.specs.First.{IsNewHost, IsNewTerminal, first_world}
use Rattle.duk_net.specs.Reached.{CallLeads, Reached}
use Rattle.duk_net.specs.Run.{IsRun, Run}
use Rattle.duk_net.specs.World.{Meanings, WorldOf, meanings_of}
use Rattle.duk_stations.specs.Places.{IsAt}
use Rattle.duk_net.specs.declared.event.End.{End}
use Rattle.duk_net.specs.declared.event.End.TheVariants as ends
use Rattle.duk_net.specs.declared.event.Event.{Event}
use Rattle.duk_net.specs.declared.event.Event.TheVariants.{RestartHost, RestartTerm}
use Rattle.duk_net.specs.declared.outcome.Outcome.{Outcome}
use Rattle.duk_store.specs.Cell.{CellMeaning}
use Rattle.duk_store.specs.Log.{LogMeaning}
use Rattle.duk_store.specs.StoreState.{IsNew}
use Rattle.duk_term.specs.Terminal.{TerminalOf}
use Rattle.duk_script.specs.Opening.{AreEndsBroughtUp, StartsCalm, new_world_of, opening}
use Rattle.duk_script.specs.inner.Opening.{HasNewCell}
use Rattle.duk_script.specs.Play.{ArePlayedIn}

-- terminals over new cells are newly made
pub new_terminals : {C L : Type 0} (cells : CellMeaning C) (log : LogMeaning L) (terminals : List (TerminalOf C)) → All (HasNewCell cells) terminals → All (IsNewTerminal (meanings_of cells log table_decision)) terminals
new_terminals cells log terminals cells_new = All-weaker (HasNewCell cells) (IsNewTerminal (meanings_of cells log table_decision))
    (λ terminal is. record { stopped = is.stopped; cell = record { honest = is.cell.honest; finds = is.cell.finds } }) terminals cells_new

module _ {C L : Type 0} (cells : CellMeaning C) (logs : LogMeaning L) (config : Settings) (log : L) (terminals : List (TerminalOf C)) (log_new : IsNew (logs.state_of log) []) (cells_new : All (HasNewCell cells) terminals) where
  -- a host over a new log is newly made
  pub new_host : IsNewHost (meanings_of cells logs table_decision) (new_host_of config log)
  new_host = record { stopped = refl; log = record { honest = log_new.honest; finds = log_new.finds } }

  -- the terminal of a number has a new cell
  one_of : (t : ℕ) (terminal : TerminalOf C) → IsAt terminals t terminal → HasNewCell cells terminal
  one_of t terminal at = subst (HasNewCell cells) (get_or_from_slice_get terminals at.place terminal terminal at.thing_is)
      (All-get_or (HasNewCell cells) terminals at.place terminal (slice_get_within terminals at.place terminal at.thing_is) cells_new)

  -- new stores are calm
  calm_at : (end : End) → IsCalmAt (meanings_of cells logs table_decision) (new_world_of config log terminals) end
  calm_at ends.Host = log_new.calm
  calm_at (ends.Term t) = λ terminal at. (one_of t terminal at).cell.calm

  pub starts_calm : StartsCalm (meanings_of cells logs table_decision) (new_world_of config log terminals)
  starts_calm = record {
    is_first = record { host = new_host; terminals = new_terminals cells logs terminals cells_new; no_requests = refl; no_answers = refl; no_owners = refl };
    sound = record { log = log_new.sound; cells = All-weaker (HasNewCell cells) (HasSoundCell (meanings_of cells logs table_decision)) (λ terminal is. is.cell.sound) terminals cells_new };
    calm = calm_at;
  }

  -- so does a world that is made of them
  pub made_calm : (host : HostOf L CardTable) (loading : List ℕ) (world : WorldOf C L CardTable) → host ≡ new_host_of config log → loading ≡ config.loading
      → world ≡ first_world host loading terminals → StartsCalm (meanings_of cells logs table_decision) world
  made_calm host loading world host_is loading_is world_is = rw (world_is, host_is, loading_is) starts_calm

  -- and one of such a log and such terminals
  calm_as : (log_as : L) (terminals_as : List (TerminalOf C)) → log ≡ log_as → terminals ≡ terminals_as → StartsCalm (meanings_of cells logs table_decision) (new_world_of config log_as terminals_as)
  calm_as log_as terminals_as log_is terminals_are = rw (← log_is, ← terminals_are) starts_calm

  -- and one of as many terminals, and of as long a log, as a configuration says
  pub calm_for : (view : Settings) → view ≡ config → (log_for : ℕ → L) (terminal : TerminalOf C) → log ≡ log_for view.log → terminals ≡ replicate view.terminals terminal
      → StartsCalm (meanings_of cells logs table_decision) (new_world_of config (log_for config.log) (replicate config.terminals terminal))
  calm_for view view_is log_for terminal log_is terminals_are = calm_as (log_for config.log) (replicate config.terminals terminal)
      (log_is ∙ ap (λ config. log_for config.log) view_is) (terminals_are ∙ ap (λ config. replicate config.terminals terminal) view_is)

-- how many terminals a world has that is made of so many
pub count_made : {C L I : Type 0} (host : HostOf L I) (loading : List ℕ) (terminals : List (TerminalOf C)) (world : WorldOf C L I) (count : ℕ) (terminal : TerminalOf C)
    → terminals ≡ replicate count terminal → world ≡ first_world host loading terminals → length world.terminals ≡ count
count_made {C} {L} {I} host loading terminals world count terminal terminals_are world_is =
    ap (λ (w : WorldOf C L I). length w.terminals) world_is ∙ ap (λ (list : List (TerminalOf C)). length list) terminals_are ∙ length-replicate count terminal

-- the opening restarts ends that are there
restarts_are : {C L I : Type 0} (first : WorldOf C L I) (count : ℕ) → count ≤ length first.terminals → All (IsRestartEvent first) (opening count)
restarts_are first zero fits = All-cons (IsRestartEvent first) RestartHost [] tt (All-nil (IsRestartEvent first))
restarts_are first (suc count) fits =
    All-push (IsRestartEvent first) (opening count) (RestartTerm (count + 1)) (restarts_are first count (omega (arith, fits))) (record { place = count; number_is = refl; within = omega (arith, fits) })

-- what the restarts of the ends that are there do in a world that was reached, with sound and calm
-- stores
abbrev pub BringUp : {C L I : Type 0} → Meanings C L I → Type 0
BringUp {C} {L} {I} m = (old new : WorldOf C L I) (events : List Event) (outcomes : List Outcome) → Reached m old → HasSoundStores m old → ((end : End) → IsCalmAt m old end)
    → All (IsRestartEvent old) events → Run m old events outcomes new → All ReportsBroughtUp outcomes

-- all ends of a first world with calm stores are brought up
pub brings_up : {C L I : Type 0} (m : Meanings C L I) (first opened : WorldOf C L I) (outcomes : List Outcome) → BringUp m → StartsCalm m first
    → Run m first (opening (length first.terminals)) outcomes opened → AreEndsBroughtUp m first opened
brings_up m first opened outcomes up starts run =
    let there = restarts_are first (length first.terminals) (omega arith) in
    let reached : Reached m first = (0, starts.is_first) in
    record {
      outcomes = outcomes;
      restarted = run;
      brought_up = up first opened (opening (length first.terminals)) outcomes reached starts.sound starts.calm there run;
    }

-- and so they are by a run of so many restarts as it has ends
pub brought_up : {C L I : Type 0} (m : Meanings C L I) (first opened : WorldOf C L I) (count : ℕ) (events : List Event) (before after : List Outcome) → BringUp m
    → StartsCalm m first → length first.terminals ≡ count → events ≡ opening count → IsRun m first events before after opened → AreEndsBroughtUp m first opened
brought_up m first opened count events before after up starts counted events_are run =
    brings_up m first opened run.outcomes up starts (subst (λ list. Run m first list run.outcomes opened) (events_are ∙ ap opening (sym counted)) run.run)

-- what the laws of worlds say of calls, and of restarts of ends that are there
pub record CallLaws {C L I : Type 0} (m : Meanings C L I) : Type 0 where
  pub reached : (old new : WorldOf C L I) (outcomes : List Outcome) → Reached m old → CallLeads m old outcomes new → Reached m new
  pub sound : (old new : WorldOf C L I) (events : List Event) (outcomes : List Outcome) → Reached m old → HasSoundStores m old → Run m old events outcomes new → HasSoundStores m new
  pub calm : (old new : WorldOf C L I) (events : List Event) (outcomes : List Outcome) → Reached m old → HasSoundStores m old → ((end : End) → IsCalmAt m old end)
      → All (IsRestartEvent old) events → Run m old events outcomes new → (end : End) → IsCalmAt m new end
  pub no_damage : (old new : WorldOf C L I) (outcomes : List Outcome) → Reached m old → HasSoundStores m old → CallLeads m old outcomes new → All ReportsNoDamage outcomes
  pub once_armed : (end : End) (old new : WorldOf C L I) (outcomes : List Outcome) → Reached m old → IsCalmAt m old end → CallLeads m old outcomes new → FailsOnceArmed end outcomes

-- a run is how a call leads that was refused no memory
leads_of : {C L I : Type 0} (m : Meanings C L I) (old new : WorldOf C L I) (events : List Event) (outcomes : List Outcome) → Run m old events outcomes new → CallLeads m old outcomes new
leads_of m old new events outcomes run = record { events = events; mid = new; run = run; left = inl refl }

module _ {C L I : Type 0} (m : Meanings C L I) (first : WorldOf C L I) (events : List Event) (outcomes : List Outcome) (laws : CallLaws m) (played : ArePlayedIn m first events outcomes) where
  -- the first world is reached, by no move
  first_reached : Reached m first
  first_reached = (0, played.starts.is_first)

  -- so is the world whose ends were brought up
  start_reached : Reached m played.start
  start_reached = laws.reached first played.start _ first_reached (leads_of m first played.start _ _ played.opened.restarted)

  -- no outcome of a script's events reports that a store is damaged
  pub reports_no_damage : All ReportsNoDamage outcomes
  reports_no_damage =
      let sound = laws.sound first played.start _ _ first_reached played.starts.sound played.opened.restarted in
      laws.no_damage played.start played.last outcomes start_reached sound (leads_of m played.start played.last events outcomes played.run)

  -- nor that a device step failed before the store was armed
  pub fails_once_armed : (end : End) → FailsOnceArmed end outcomes
  fails_once_armed end' =
      let there = restarts_are first (length first.terminals) (omega arith) in
      let calm = laws.calm first played.start _ _ first_reached played.starts.sound played.starts.calm there played.opened.restarted in
      laws.once_armed end' played.start played.last outcomes start_reached (calm end') (leads_of m played.start played.last events outcomes played.run)
