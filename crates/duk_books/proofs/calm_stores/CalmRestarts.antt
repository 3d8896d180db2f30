-- Where all stores are sound and calm, restarts bring up the host and the tills that are there.
use Rattle.std.proofs.Common.{◌≡◌, ◌≢◌, ◌⊎◌, ◌<◌, ◌∷◌, [], ℕ, List, length, inl, inr, refl, sym, ap, subst}
use Rattle.std.specs.List.{All}
use Rattle.std.proofs.lemmas.List.Elements.{All-cons, All-head, All-nil, All-tail}
use Rattle.std.proofs.Math.ListN.{get_or}
use Rattle.duk_host.specs.declared.fault.HostFault.{HostFault}
use Rattle.duk_host.specs.declared.fault.HostFault.TheVariants as host_fault
use Rattle.duk_journal_host.specs.Host.{HostOf}
use Rattle.duk_journal_host.specs.Restart.{HostRestartRefused}
use Rattle.duk_store.specs.declared.fault.StoreFault.{StoreFault}
use Rattle.duk_store.specs.declared.fault.StoreFault.TheVariants as store_fault
use Rattle.duk_till.specs.Restart.{TillRestartRefused}
use Rattle.duk_till.specs.Till.{TillOf}
use Rattle.duk_till.specs.declared.fault.TillFault.{TillFault}
use Rattle.duk_till.specs.declared.fault.TillFault.TheVariants as fault
use Rattle.duk_books.specs.Books.{BooksOf, Meanings}
use Rattle.duk_stations.specs.Places.{ChangesOnly}
use Rattle.duk_books.specs.Calm.{HasSoundStores, IsBookFault, IsCalmAt, IsJournalFault, IsRestartEvent, IsTerminalFault, ReportsArming, ReportsBroughtUp}
use Rattle.duk_books.specs.Reached.{Reached}
use Rattle.duk_books.specs.Restart.{RestartsHost, TakesRestart}
use Rattle.duk_books.specs.Run.{Run}
use Rattle.duk_books.specs.Step.{Step}
use Rattle.duk_books.specs.declared.event.End.{End}
use Rattle.duk_books.specs.declared.event.End.TheVariants as ends
use Rattle.duk_books.specs.declared.event.Event.{Event}
use Rattle.duk_books.specs.declared.event.Event.TheVariants as event
use Rattle.duk_books.specs.declared.outcome.Outcome.{Outcome}
use Rattle.duk_books.specs.declared.outcome.Outcome.TheVariants as came
use Rattle.duk_stations.proofs.PlacesInLists.{as_many, before_at, not_missing}
use Rattle.duk_stations.proofs.StoreFaults.{restart_reports, two_faults}
use Rattle.duk_books.proofs.calm_stores.CalmSteps.{StepFacts}
use Rattle.duk_books.proofs.calm_stores.CalmStores.{reached_facts}
use Rattle.duk_books.proofs.calm_stores.KnownStores.{KnownStores, KnownTill, StoreLaws, reached_stores}
use Rattle.duk_books.proofs.moves.ReachedByMoves.{reached_step}

-- ---- which fault a restart reports

module _ {C B J I : Type 0} (m : Meanings C B J I) (before after : TillOf C B) (known : KnownTill m before) where
  -- that of the book is one of the two of the book
  book_reports : (why : StoreFault) → TillRestartRefused m.cell m.book before after (fault.Store why) → (why ≡ store_fault.Device) ⊎ (why ≡ store_fault.Damaged)
  book_reports why (terminal, inl failed, stopped) = two_faults (m.book.state_of before.book) (m.book.state_of after.book) why failed.cell.fault_is
  book_reports why (terminal, inr (damaged, none), stopped) = inr damaged

  -- a till's refusal to restart is one of those of its two cells
  till_reports : (why : TillFault) → TillRestartRefused m.cell m.book before after why
      → (IsTerminalFault why store_fault.Device ⊎ IsTerminalFault why store_fault.Damaged) ⊎ (IsBookFault why store_fault.Device ⊎ IsBookFault why store_fault.Damaged)
  till_reports (fault.Terminal why) refused = inl (restart_reports m.cell before.terminal after.terminal why refused.0)
  till_reports (fault.Store why) refused = inr (book_reports why refused)
  till_reports _ refused = absurd refused

-- and the host's, if it is not out of memory, is one of the two of its journal
host_reports : {C B J I : Type 0} (m : Meanings C B J I) (old new : HostOf J I) (why : HostFault) → why ≢ host_fault.NoMemory → HostRestartRefused m.host.journal old new why
    → IsJournalFault why store_fault.Device ⊎ IsJournalFault why store_fault.Damaged
host_reports m old new host_fault.NoMemory other refused = absurd (other refl)
host_reports m old new (host_fault.Store why) other refused = elim refused.cause [
  | inl failed ↦ two_faults (m.host.journal.state_of old.journal) (m.host.journal.state_of new.journal) why failed.fault_is
  | inr (damaged, unusable) ↦ inr damaged
]
host_reports m old new _ other refused = absurd refused

-- an end that is brought up was not armed
not_armed : (end : End) (outcome : Outcome) → ReportsBroughtUp outcome → ¬ ReportsArming end outcome
not_armed end (came.Armed armed steps) up reports = absurd up
not_armed end _ up reports = reports

-- ---- each restart

module _ {C B J I : Type 0} (m : Meanings C B J I) (old new : BooksOf C B J I) (known : KnownStores m old) (sound : HasSoundStores m old) (calm : (end : End) → IsCalmAt m old end) where
  -- a till comes up
  till_up : (t : ℕ) (outcome : Outcome) (acts : ChangesOnly t (TakesRestart m.cell m.book t outcome) old.tills new.tills) → StepFacts m old outcome new → ReportsBroughtUp outcome
  till_up t (came.TillNext u next state) acts facts = tt
  till_up t (came.TillFaulted u why) acts facts = elim (till_reports m acts.before acts.after (known.tills t acts.before (before_at t _ old.tills new.tills acts)) why acts.changed.1) [
    | inl of_terminal ↦ elim of_terminal [
      | inl device ↦ absurd (facts.device (ends.Terminal t) (calm (ends.Terminal t)) (acts.changed.0, device))
      | inr damaged ↦ absurd (facts.damaged sound (ends.Terminal t) (acts.changed.0, damaged))
    ]
    | inr of_book ↦ elim of_book [
      | inl device ↦ absurd (facts.device (ends.Book t) (calm (ends.Book t)) (acts.changed.0, device))
      | inr damaged ↦ absurd (facts.damaged sound (ends.Book t) (acts.changed.0, damaged))
    ]
  ]
  till_up t _ acts facts = absurd acts.changed

  -- the host comes up, and as many tills are there
  host_up : (outcome : Outcome) → RestartsHost m old outcome new → StepFacts m old outcome new → ReportsBroughtUp outcome × (length new.tills ≡ length old.tills)
  host_up (came.HostKeeps kept) restarts facts = (tt, ap (λ books. length books.tills) restarts.rest)
  host_up (came.HostFaulted why) restarts facts = elim (host_reports m old.host new.host why restarts.not_memory restarts.host) [
    | inl device ↦ absurd (facts.device ends.Host (calm ends.Host) device)
    | inr damaged ↦ absurd (facts.damaged sound ends.Host damaged)
  ]
  host_up _ restarts facts = absurd restarts

  step_up : (event : Event) (outcome : Outcome) → IsRestartEvent old event → Step m old event outcome new → StepFacts m old outcome new → ReportsBroughtUp outcome × (length new.tills ≡ length old.tills)
  step_up (event.RestartTill t) outcome there step facts = elim step [
    | inl none ↦ absurd (not_missing old.tills t there none.none)
    | inr is ↦ (till_up t outcome is.till facts, as_many t _ old.tills new.tills is.till)
  ]
  step_up event.RestartHost outcome there step facts = host_up outcome step facts
  step_up _ outcome there step facts = absurd there

  -- what is there stays there, where there are as many tills
  restart_there : (event : Event) → length new.tills ≡ length old.tills → IsRestartEvent old event → IsRestartEvent new event
  restart_there (event.RestartTill t) many there = record { place = there.place; number_is = there.number_is; within = subst (λ n. there.place < n) (sym many) there.within }
  restart_there event.RestartHost many there = tt
  restart_there _ many there = absurd there

pub all_up : {C B J I : Type 0} (m : Meanings C B J I) → StoreLaws m → (old new : BooksOf C B J I) (events : List Event) (outcomes : List Outcome) → Reached m old → HasSoundStores m old
    → ((end : End) → IsCalmAt m old end) → All (IsRestartEvent old) events → Run m old events outcomes new → All ReportsBroughtUp outcomes × ((end : End) → IsCalmAt m new end)
all_up m laws old new [] [] reached sound calm there run = (All-nil ReportsBroughtUp, rw run calm)
all_up m laws old new [] (outcome ∷ outcomes) reached sound calm there run = absurd run
all_up m laws old new (event ∷ events) [] reached sound calm there run = absurd run
all_up m laws old new (event ∷ events) (outcome ∷ outcomes) reached sound calm there run =
    let known = reached_stores m laws old reached in
    let facts = reached_facts m laws old event outcome run.0 reached run.1 in
    let up = step_up m old run.0 known sound calm event outcome (All-head (IsRestartEvent old) event events there) run.1 facts in
    let rest = all_up m laws run.0 new events outcomes (reached_step m old run.0 event outcome reached run.1) (facts.sound sound)
    (λ end. facts.calm end (calm end) (not_armed end outcome up.0))
    (λ k default within. restart_there m old run.0 known sound calm (get_or events k default) up.1 (All-tail (IsRestartEvent old) event events there k default within)) run.2 in
    (All-cons ReportsBroughtUp outcome outcomes up.0 rest.0, rest.1)
