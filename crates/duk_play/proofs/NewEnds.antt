-- Ends over stores in which nothing was ever kept, and the restarts that bring them up.
use Rattle.std.proofs.Common.{◌≡◌, ◌≢◌, ◌+◌, ◌≤◌, ◌<◌, ◌∷◌, [], ℕ, zero, suc, List, Some, None, length, replicate, inl, inr, refl, sym, ap, subst, ◌∙◌, arith}
use Rattle.std.specs.List.{All, slice_set}
use Rattle.std.proofs.lemmas.List.{length-replicate}
use Rattle.std.proofs.lemmas.List.Elements.{All-cons, All-get_or, All-head, All-nil, All-push, All-set, All-tail, All-weaker}
use Rattle.std.proofs.lemmas.Option.{get_or_from_slice_get, slice_get_within}
use Rattle.duk_books.specs.Books.{BooksOf, Meanings, meanings_of}
use Rattle.duk_stations.specs.Places.{ChangesOnly, HasNone}
use Rattle.duk_books.specs.First.{IsNewHost, IsNewTill, first_books}
use Rattle.duk_books.specs.Reached.{Reached}
use Rattle.duk_books.specs.Restart.{RestartsHost, TakesRestart}
use Rattle.duk_books.specs.Run.{IsRun, Run}
use Rattle.duk_books.specs.Step.{Step}
use Rattle.duk_books.specs.declared.event.Event.{Event}
use Rattle.duk_books.specs.declared.event.Event.TheVariants as event
use Rattle.duk_books.specs.declared.outcome.Outcome.{Outcome}
use Rattle.duk_books.specs.declared.outcome.Outcome.TheVariants as came
use Rattle.duk_config.specs.Settings.{Settings}
use Rattle.duk_host.specs.Table.{CardTable, table_decision}
use Rattle.duk_host.specs.declared.fault.HostFault.{HostFault}
use Rattle.duk_host.specs.declared.fault.HostFault.TheVariants as host_fault
use Rattle.duk_journal.specs.Journal.{JournalMeaning}
use Rattle.duk_journal.specs.Standing.{UseNewNumbers}
use Rattle.duk_journal_host.specs.Host.{HostOf}
use Rattle.duk_journal_host.specs.Restart.{HostRestartRefused}
use Rattle.duk_store.specs.Cell.{CellMeaning, Kept}
use Rattle.duk_store.specs.Restart.{RestartFailed, Restarted}
use Rattle.duk_store.specs.StoreState.{FindsOnly, IsNew, StoreState}
use Rattle.duk_store.specs.declared.fault.StoreFault.{StoreFault}
use Rattle.duk_store.specs.declared.fault.StoreFault.TheVariants as store_fault
use Rattle.duk_term.specs.Restart.{TerminalRestartRefused}
use Rattle.duk_term.specs.Terminal.{TerminalOf}
use Rattle.duk_term.specs.declared.fault.TermFault.{TermFault}
use Rattle.duk_term.specs.declared.fault.TermFault.TheVariants as term_fault
use Rattle.duk_till.specs.Image.{kept_of}
use Rattle.duk_till.specs.Restart.{BookRestartFailed, IsTillRestarted, TillRestartRefused}
use Rattle.duk_till.specs.Till.{TillOf}
use Rattle.duk_till.specs.declared.fault.TillFault.{TillFault}
use Rattle.duk_till.specs.declared.fault.TillFault.TheVariants as till_fault
use Rattle.duk_play.specs.Opening.{AreEndsBroughtUp, IsCalmTill, ReportsBroughtUp, StartsCalm, new_host_over, opening}
use Rattle.duk_play.specs.inner.Opening.{HasNewCells}

-- ---- a store in which nothing was ever kept

-- an honest, sound and calm store, of which a restart finds this value alone
pub record KeepsCalm {V : Type 0} (store : StoreState V) (value : V) : Type 0 where
  pub honest : store.honest
  pub sound : store.sound
  pub calm : store.calm
  pub finds : FindsOnly store value

-- its restart finds the value, and leaves it so
pub restarted : {V : Type 0} (old new : StoreState V) (value found : V) → KeepsCalm old value → Restarted old new found → (found ≡ value) × KeepsCalm new value
restarted old new value found keeps done =
    let same : found ≡ value = (keeps.finds found).0 (done.was_found keeps.honest) in (
      same,
      record {
        honest = done.settles.nature.honest.0 keeps.honest;
        sound = done.settles.nature.sound keeps.honest keeps.sound;
        calm = done.settles.nature.calm keeps.calm;
        finds = subst (FindsOnly new) same (done.settles.finds keeps.honest);
      },
    )

-- and does not fail
never_fails : {A V : Type 0} (old new : StoreState V) (value : V) (why : StoreFault) → KeepsCalm old value → RestartFailed old new why → A
never_fails old new value store_fault.Device keeps failed = absurd (failed.fault_is (failed.stops.quiet keeps.calm))
never_fails old new value store_fault.Damaged keeps failed = absurd (failed.fault_is.unsound keeps.honest keeps.sound)
never_fails old new value _ keeps failed = absurd failed.fault_is

-- ---- a till

-- a till over two such cells
pub record IsCalmNew {C B : Type 0} (cell : CellMeaning C) (book : CellMeaning B) (till : TillOf C B) : Type 0 where
  pub cell_is : KeepsCalm (cell.state_of till.terminal.cell) None
  pub book_is : KeepsCalm (book.state_of till.book) None

-- its restart finds no bytes
never_some : {A : Type 0} (old new : StoreState Kept) (bytes : List ℕ) → KeepsCalm old None → Restarted old new (Some bytes) → A
never_some old new bytes keeps done = let same = (restarted old new None (Some bytes) keeps done).0 in absurd (cc same)

-- the terminal's restart is not refused
terminal_never : {A C : Type 0} (cell : CellMeaning C) (before after : TerminalOf C) (why : TermFault) → KeepsCalm (cell.state_of before.cell) None
    → TerminalRestartRefused cell before after why → A
terminal_never cell before after (term_fault.Store why) keeps refused = elim refused.cause [
  | inl failed ↦ never_fails (cell.state_of before.cell) (cell.state_of after.cell) None why keeps failed
  | inr (damaged, none) ↦ never_some (cell.state_of before.cell) (cell.state_of after.cell) none.bytes keeps none.cell
]
terminal_never cell before after _ keeps refused = absurd refused

-- nor is the book's
book_never : {A B : Type 0} (book : CellMeaning B) (old new : B) (why : StoreFault) → KeepsCalm (book.state_of old) None → BookRestartFailed book old new why → A
book_never book old new why keeps (inl failed) = never_fails (book.state_of old) (book.state_of new) None why keeps failed.cell
book_never book old new why keeps (inr (damaged, none)) = never_some (book.state_of old) (book.state_of new) none.bytes keeps none.cell

-- a restart leaves the till so
till_stays : {C B : Type 0} (cell : CellMeaning C) (book : CellMeaning B) (old new : TillOf C B) → IsCalmNew cell book old → IsTillRestarted cell book old new → IsCalmNew cell book new
till_stays cell book old new calm done = record {
  cell_is = (restarted (cell.state_of old.terminal.cell) (cell.state_of new.terminal.cell) None done.terminal.kept calm.cell_is done.terminal.cell).1;
  book_is = (restarted (book.state_of old.book) (book.state_of new.book) None (kept_of done.last) calm.book_is done.found.cell).1;
}

-- and is not refused
till_never : {A C B : Type 0} (cell : CellMeaning C) (book : CellMeaning B) (old new : TillOf C B) (why : TillFault) → IsCalmNew cell book old → TillRestartRefused cell book old new why → A
till_never cell book old new (till_fault.Terminal why) calm (refused, same, stopped) = terminal_never cell old.terminal new.terminal why calm.cell_is refused
till_never cell book old new (till_fault.Store why) calm (done, refused, stopped) = book_never book old.book new.book why calm.book_is refused
till_never cell book old new _ calm refused = absurd refused

-- so a till's restart brings it up
till_up : {C B : Type 0} (cell : CellMeaning C) (book : CellMeaning B) (t : ℕ) (outcome : Outcome) (old new : TillOf C B) → IsCalmNew cell book old
    → TakesRestart cell book t outcome old new → ReportsBroughtUp outcome × IsCalmNew cell book new
till_up cell book t (came.TillNext u next state) old new calm (same, next_is, (done, told), disarmed) = (tt, till_stays cell book old new calm done)
till_up cell book t (came.TillFaulted u why) old new calm (same, refused, disarmed) = till_never cell book old new why calm refused
till_up cell book t _ old new calm restarts = absurd restarts

-- ---- the ends together

-- the host's journal and the cells of all tills are such stores
pub record AreCalmNew {C B J I : Type 0} (m : Meanings C B J I) (books : BooksOf C B J I) : Type 0 where
  pub journal : KeepsCalm (m.host.journal.state_of books.host.journal) []
  pub tills : All (IsCalmNew m.cell m.book) books.tills

-- an end is brought up, and the others are as before
pub record IsEndUp {C B J I : Type 0} (m : Meanings C B J I) (old : BooksOf C B J I) (outcome : Outcome) (new : BooksOf C B J I) : Type 0 where
  pub up : ReportsBroughtUp outcome
  pub calm : AreCalmNew m new
  pub as_many : length new.tills ≡ length old.tills

-- a list in which an item is put at a place is as long as before
set_length : {A : Type 0} (things : List A) (place : ℕ) (thing : A) → length (slice_set things place thing) ≡ length things
set_length [] place thing = refl
set_length (first ∷ things) zero thing = refl
set_length (first ∷ things) (suc place) thing = ap suc (set_length things place thing)

-- a till of these is restarted
one_up : {C B J I : Type 0} (m : Meanings C B J I) (old : BooksOf C B J I) (t : ℕ) (outcome : Outcome) (new : BooksOf C B J I) → AreCalmNew m old → new.host ≡ old.host
    → ChangesOnly t (TakesRestart m.cell m.book t outcome) old.tills new.tills → IsEndUp m old outcome new
one_up m old t outcome new calm same_host change =
    let till = subst (IsCalmNew m.cell m.book) (get_or_from_slice_get old.tills change.place change.before change.before change.was)
    (All-get_or (IsCalmNew m.cell m.book) old.tills change.place change.before (slice_get_within old.tills change.place change.before change.was) calm.tills) in
    let up = till_up m.cell m.book t outcome change.before change.after till change.changed in
    record {
      up = up.0;
      calm = record {
        journal = rw same_host calm.journal;
        tills = rw change.others (All-set (IsCalmNew m.cell m.book) old.tills change.place change.after up.1 calm.tills);
      };
      as_many = ap length change.others ∙ set_length old.tills change.place change.after;
    }

-- no entries use new numbers
none_used : UseNewNumbers []
none_used = record { usable = All-nil _; stand = All-nil _; new = λ i j default below within. absurd (omega (arith, within)) }

-- the host's restart is not refused, but perhaps as out of memory
host_never : {A C B J I : Type 0} (m : Meanings C B J I) (old new : HostOf J I) (why : HostFault) → KeepsCalm (m.host.journal.state_of old.journal) [] → why ≢ host_fault.NoMemory
    → HostRestartRefused m.host.journal old new why → A
host_never m old new host_fault.NoMemory keeps other refused = absurd (other refl)
host_never m old new (host_fault.Store why) keeps other refused = elim refused.cause [
  | inl failed ↦ never_fails (m.host.journal.state_of old.journal) (m.host.journal.state_of new.journal) [] why keeps failed
  | inr (damaged, wrong) ↦
      let found = wrong.not_usable keeps.honest keeps.sound in
      let none : found.0 ≡ [] = (keeps.finds found.0).0 found.1 in
      absurd (found.2 (subst UseNewNumbers (sym none) none_used))
]
host_never m old new _ keeps other refused = absurd refused

-- the host is restarted
host_up : {C B J I : Type 0} (m : Meanings C B J I) (old : BooksOf C B J I) (outcome : Outcome) (new : BooksOf C B J I) → AreCalmNew m old → RestartsHost m old outcome new → IsEndUp m old outcome new
host_up m old (came.HostKeeps kept) new calm done =
    let same : new.tills ≡ old.tills = ap (λ books. books.tills) done.rest in
    record {
      up = tt;
      calm = record {
        journal = (restarted (m.host.journal.state_of old.host.journal) (m.host.journal.state_of new.host.journal) [] done.host.entries calm.journal done.host.journal).1;
        tills = rw same calm.tills;
      };
      as_many = ap length same;
    }
host_up m old (came.HostFaulted why) new calm refused = host_never m old.host new.host why calm.journal refused.not_memory refused.host
host_up m old _ new calm restarts = absurd restarts

-- a till has this number, where there are so many
record HasPlace (count number : ℕ) : Type 0 where
  pub place : ℕ
  pub number_is : number ≡ place + 1
  pub within : place < count

-- a restart of the host, or of one of so many tills
abbrev IsOpening : ℕ → Event → Type 0
IsOpening count (event.RestartTill t) = HasPlace count t
IsOpening count event.RestartHost = Unit {0}
IsOpening count _ = ⊥

-- a till of these is not missing
not_missing : {A X : Type 0} (things : List X) (number : ℕ) → HasPlace (length things) number → HasNone things number → A
not_missing things number one (inl none) = absurd (omega (arith, none, one.number_is))
not_missing things number one (inr past) = absurd (omega (arith, past, one.number_is, one.within))

step_up : {C B J I : Type 0} (m : Meanings C B J I) (old : BooksOf C B J I) (said : Event) (outcome : Outcome) (new : BooksOf C B J I) → AreCalmNew m old
    → IsOpening (length old.tills) said → Step m old said outcome new → IsEndUp m old outcome new
step_up m old (event.RestartTill t) outcome new calm there (inl none) = not_missing old.tills t there none.none
step_up m old (event.RestartTill t) outcome new calm there (inr up) = one_up m old t outcome new calm (ap (λ books. books.host) up.rest) up.till
step_up m old event.RestartHost outcome new calm there step = host_up m old outcome new calm step
step_up m old _ outcome new calm there step = absurd there

all_up : {C B J I : Type 0} (m : Meanings C B J I) (old new : BooksOf C B J I) (events : List Event) (outcomes : List Outcome) → AreCalmNew m old
    → All (IsOpening (length old.tills)) events → Run m old events outcomes new → All ReportsBroughtUp outcomes
all_up m old new [] [] calm there run = All-nil ReportsBroughtUp
all_up m old new [] (outcome ∷ outcomes) calm there run = absurd run
all_up m old new (said ∷ events) [] calm there run = absurd run
all_up m old new (said ∷ events) (outcome ∷ outcomes) calm there (mid, step, run) =
    let end = step_up m old said outcome mid calm (All-head (IsOpening (length old.tills)) said events there) step in
    All-cons ReportsBroughtUp outcome outcomes end.up
    (all_up m mid new events outcomes end.calm (subst (λ count. All (IsOpening count) events) (sym end.as_many) (All-tail (IsOpening (length old.tills)) said events there)) run)

-- the opening restarts ends that are there
opening_is : (count all : ℕ) → count ≤ all → All (IsOpening all) (opening count)
opening_is zero all fits = All-cons (IsOpening all) event.RestartHost [] tt (All-nil (IsOpening all))
opening_is (suc count) all fits =
    All-push (IsOpening all) (opening count) (event.RestartTill (count + 1)) (opening_is count all (omega (arith, fits))) (record { place = count; number_is = refl; within = omega (arith, fits) })

-- what starts calm has stores in which nothing was ever kept
start_is : {C B J I : Type 0} (m : Meanings C B J I) (first : BooksOf C B J I) → StartsCalm m first → AreCalmNew m first
start_is m first starts = record {
  journal = record { honest = starts.is_first.host.journal.honest; sound = starts.journal_sound; calm = starts.journal_calm; finds = starts.is_first.host.journal.finds };
  tills = λ place default within.
      let unused = starts.is_first.tills place default within in
      let calm = starts.tills place default within in
      record {
        cell_is = record { honest = unused.cell.honest; sound = calm.cell_sound; calm = calm.cell_calm; finds = unused.cell.finds };
        book_is = record { honest = unused.book.honest; sound = calm.book_sound; calm = calm.book_calm; finds = unused.book.finds };
      };
}

-- all ends are brought up by a run of so many restarts as there are
pub brought_up : {C B J I : Type 0} (m : Meanings C B J I) (first opened : BooksOf C B J I) (count : ℕ) (events : List Event) (before after : List Outcome)
    → StartsCalm m first → length first.tills ≡ count → events ≡ opening count → IsRun m first events before after opened → AreEndsBroughtUp m first opened
brought_up m first opened count events before after starts counted events_are run =
    let restarts = subst (λ list. Run m first list run.outcomes opened) (events_are ∙ ap opening (sym counted)) run.run in
    record {
      outcomes = run.outcomes;
      restarted = restarts;
      brought_up = all_up m first opened (opening (length first.tills)) run.outcomes (start_is m first starts) (opening_is (length first.tills) (length first.tills) (omega arith)) restarts;
    }

-- ---- as they are made

module _ {C B J : Type 0} (cell : CellMeaning C) (book : CellMeaning B) (journals : JournalMeaning J) (config : Settings) (journal : J) (tills : List (TillOf C B))
    (journal_new : IsNew (journals.state_of journal) []) (tills_new : All (HasNewCells cell book) tills) where
  -- a host over a new journal is newly made
  pub host_is_new : IsNewHost (meanings_of cell book journals table_decision) (new_host_over config journal)
  host_is_new = record { stopped = refl; journal = record { honest = journal_new.honest; finds = journal_new.finds } }

  -- so are tills over new cells
  pub tills_are_new : All (IsNewTill (meanings_of cell book journals table_decision)) tills
  tills_are_new = All-weaker (HasNewCells cell book) (IsNewTill (meanings_of cell book journals table_decision)) (λ till is. record {
    stopped = is.stopped;
    terminal_stopped = is.terminal_stopped;
    cell = record { honest = is.cell_is.honest; finds = is.cell_is.finds };
    book = record { honest = is.book_is.honest; finds = is.book_is.finds };
  }) tills tills_new

  starts_calm : StartsCalm (meanings_of cell book journals table_decision) (first_books (new_host_over config journal) config.loading tills)
  starts_calm = record {
    is_first = record { host = host_is_new; tills = tills_are_new; no_requests = refl; no_answers = refl; no_owners = refl; no_sales = refl };
    journal_sound = journal_new.sound;
    journal_calm = journal_new.calm;
    tills = All-weaker (HasNewCells cell book) (IsCalmTill (meanings_of cell book journals table_decision)) (λ till is. record {
      cell_sound = is.cell_is.sound;
      cell_calm = is.cell_is.calm;
      book_sound = is.book_is.sound;
      book_calm = is.book_is.calm;
    }) tills tills_new;
  }

  -- so does what is made of them
  pub made_calm : (host : HostOf J CardTable) (loading : List ℕ) (books : BooksOf C B J CardTable) → host ≡ new_host_over config journal → loading ≡ config.loading
      → books ≡ first_books host loading tills → StartsCalm (meanings_of cell book journals table_decision) books
  made_calm host loading books host_is loading_is books_are = rw (books_are, host_is, loading_is) starts_calm

  -- and what is made of such a journal and such tills
  calm_as : (journal_as : J) (tills_as : List (TillOf C B)) → journal ≡ journal_as → tills ≡ tills_as
      → StartsCalm (meanings_of cell book journals table_decision) (first_books (new_host_over config journal_as) config.loading tills_as)
  calm_as journal_as tills_as journal_is tills_are = rw (← journal_is, ← tills_are) starts_calm

  -- and of as many tills, and as long a journal, as a configuration says
  pub calm_for : (view : Settings) → view ≡ config → (journal_for : ℕ → J) (till : TillOf C B) → journal ≡ journal_for view.log → tills ≡ replicate view.terminals till
      → StartsCalm (meanings_of cell book journals table_decision) (first_books (new_host_over config (journal_for config.log)) config.loading (replicate config.terminals till))
  calm_for view view_is journal_for till journal_is tills_are = calm_as (journal_for config.log) (replicate config.terminals till)
      (journal_is ∙ ap (λ config. journal_for config.log) view_is) (tills_are ∙ ap (λ config. replicate config.terminals till) view_is)

-- how many tills there are, where so many were made
pub count_made : {C B J I : Type 0} (host : HostOf J I) (loading : List ℕ) (tills : List (TillOf C B)) (books : BooksOf C B J I) (count : ℕ) (till : TillOf C B)
    → tills ≡ replicate count till → books ≡ first_books host loading tills → length books.tills ≡ count
count_made {C} {B} {J} {I} host loading tills books count till tills_are books_are =
    ap (λ (b : BooksOf C B J I). length b.tills) books_are ∙ ap (λ (list : List (TillOf C B)). length list) tills_are ∙ length-replicate count till

-- ---- where events lead

-- what events lead to is reached, where their start is
pub run_reached : {C B J I : Type 0} (m : Meanings C B J I) (old new : BooksOf C B J I) (events : List Event) (outcomes : List Outcome) → Reached m old → Run m old events outcomes new → Reached m new
run_reached m old new [] [] reached run = rw run reached
run_reached m old new [] (outcome ∷ outcomes) reached run = absurd run
run_reached m old new (said ∷ events) [] reached run = absurd run
run_reached m old new (said ∷ events) (outcome ∷ outcomes) (moves, reached) (mid, step, run) =
    run_reached m mid new events outcomes (suc moves, (old, reached, inl (record { event = said; outcome = outcome; step = step }))) run
