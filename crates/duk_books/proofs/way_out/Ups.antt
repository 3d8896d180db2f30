-- The ends once both were restarted, from where all stores are sound and calm.
use Rattle.std.proofs.Common.{◌≡◌, ◌≢◌, ◌⊎◌, ◌<◌, ◌∷◌, [], ℕ, zero, suc, Bool, true, false, List, Option, Some, None, length, inl, inr, refl, sym, ap, subst, ◌∙◌, arith}
use Rattle.std.specs.List.{All, slice_get, slice_set}
use Rattle.std.proofs.lemmas.List.Elements.{All-cons, All-head, All-nil, All-tail}
use Rattle.std.proofs.lemmas.Option.{slice_get_within}
use Rattle.duk_journal.specs.Groups.{Entries}
use Rattle.duk_journal_host.specs.Host.{JudgesBy}
use Rattle.duk_store.specs.Cell.{CellMeaning, Kept, PutFailed}
use Rattle.duk_store.specs.declared.fault.StoreFault.{StoreFault}
use Rattle.duk_store.specs.declared.fault.StoreFault.TheVariants as store_fault
use Rattle.duk_term.specs.Body.{set_of_body}
use Rattle.duk_term.specs.Restart.{Opens}
use Rattle.duk_term.specs.declared.state.State.{State}
use Rattle.duk_term.specs.declared.state.State.TheVariants.{Stopped, Empty, Loaded}
use Rattle.duk_till.specs.Image.{kept_of, last_bytes}
use Rattle.duk_till.specs.Restart.{IsTillRestarted}
use Rattle.duk_till.specs.Till.{IsOpen, TillOf}
use Rattle.duk_till.specs.declared.last.Last.{Last}
use Rattle.duk_till.specs.declared.last.Last.TheVariants.{Open}
use Rattle.duk_till.specs.declared.state.TillState.TheVariants.{Running}
use Rattle.duk_tree.specs.Next.{spent_counter}
use Rattle.duk_tree.specs.Serial.{Serial}
use Rattle.duk_books.specs.Books.{BooksOf, Meanings}
use Rattle.duk_stations.specs.Places.{ChangesOnly, HasOne, IsAt}
use Rattle.duk_books.specs.Calm.{IsCalmAt, IsRestartEvent, ReportsBroughtUp}
use Rattle.duk_books.specs.Reached.{Reached}
use Rattle.duk_books.specs.Restart.{IsHostReopened, IsTillBroughtUp, RestartsHost, TakesRestart}
use Rattle.duk_books.specs.Step.{Step}
use Rattle.duk_books.specs.WayOut.{HasWayOut}
use Rattle.duk_books.specs.declared.event.End.{End}
use Rattle.duk_books.specs.declared.event.Event.TheVariants as event
use Rattle.duk_books.specs.declared.outcome.Outcome.{Outcome}
use Rattle.duk_books.specs.declared.outcome.Outcome.TheVariants as came
use Rattle.duk_books.proofs.accepted.EndsOnce.{reached_hold}
use Rattle.duk_stations.proofs.PlacesInLists.{not_missing}
use Rattle.duk_books.proofs.calm_stores.CalmRestarts.{all_up}
use Rattle.duk_books.proofs.calm_stores.KnownStores.{StoreLaws}
use Rattle.duk_books.proofs.moves.ReachedByMoves.{reached_step}
use Rattle.duk_books.proofs.way_out.OpenIsUsed.{kept_open}

-- ---- things in their places

pub some_is : {A : Type 0} (one other : A) → Some one ≡ Some other → one ≡ other
some_is one other same = cc

-- a list has one thing of a number
pub one_at : {A : Type 0} (things : List A) (number : ℕ) (one other : A) → IsAt things number one → IsAt things number other → one ≡ other
one_at things number one other a b =
    let place : a.place ≡ b.place = omega (arith, a.number_is, b.number_is) in
    some_is one other (sym a.thing_is ∙ ap (λ p. slice_get things p) place ∙ b.thing_is)

set_at : {A : Type 0} (things : List A) (place : ℕ) (before after : A) → slice_get things place ≡ Some before → slice_get (slice_set things place after) place ≡ Some after
set_at [] place before after was = absurd (omega (arith, slice_get_within [] place before was))
set_at (first ∷ things) zero before after was = refl
set_at (first ∷ things) (suc place) before after was = set_at things place before after was

-- what changed stands there now
pub now_at : {A : Type 0} (t : ℕ) (P : A → A → Type 0) (old new : List A) (change : ChangesOnly t P old new) → IsAt new t change.after
now_at t P old new change = record {
  place = change.place;
  number_is = change.number_is;
  thing_is = subst (λ list. slice_get list change.place ≡ Some change.after) (sym change.others) (set_at old change.place change.before change.after change.was);
}

-- what is there is one
pub one_there : {A : Type 0} (things : List A) (number : ℕ) (thing : A) → IsAt things number thing → HasOne things number
one_there things number thing at = record { place = at.place; number_is = at.number_is; within = slice_get_within things at.place thing at.thing_is }

-- ---- a write that failed

pub not_both : (running : Bool) → running ≡ true → running ≡ false → ⊥
not_both running is not = cc

-- where the cell runs, a device step failed, or it is worn
pub put_fails : {C : Type 0} (cell : CellMeaning C) (old new : C) (body : List ℕ) (why : StoreFault) → (cell.state_of old).running ≡ true → PutFailed cell old new body why → (why ≡ store_fault.Device) ⊎ (why ≡ store_fault.Worn)
put_fails cell old new body store_fault.Device runs failed = inl refl
put_fails cell old new body store_fault.Stopped runs failed = absurd (not_both (cell.state_of old).running runs failed.was_stopped)
put_fails cell old new body store_fault.Worn runs failed = inr refl
put_fails cell old new body _ runs failed = absurd failed

-- ---- both ends are up

-- the terminal runs, and its registers have a number left
abbrev pub HasNumber : State → Type 0
HasNumber Stopped = ⊥
HasNumber Empty = Unit {0}
HasNumber (Loaded set pending) = set.counter ≢ spent_counter

opened_number : (kept : Kept) (state : State) → ((body : List ℕ) → kept ≡ Some body → (set_of_body body).counter ≢ spent_counter) → Opens kept state → HasNumber state
opened_number None state left opens = subst HasNumber (sym opens) tt
opened_number (Some body) state left opens = subst HasNumber (sym opens.1) (left body refl)

-- a till and the host run, and nothing but wear keeps them from going on
pub record AreUp {C B J I : Type 0} (m : Meanings C B J I) (books : BooksOf C B J I) (t : ℕ) : Type 0 where
  pub reached : Reached m books
  pub calm : (end : End) → IsCalmAt m books end
  pub till : TillOf C B
  pub at : IsAt books.tills t till
  pub last : Option Last
  pub runs : till.state ≡ Running last
  pub number : HasNumber till.terminal.state
  pub cell_runs : (m.cell.state_of till.terminal.cell).running ≡ true
  pub book_runs : (m.book.state_of till.book).running ≡ true
  pub entries : Entries
  pub judges : JudgesBy m.host books.host entries
  pub room : length entries < m.host.journal.capacity books.host.journal

-- so they are after restarts, which find a purchase that was open, and send nothing
pub record GoesUp {C B J I : Type 0} (m : Meanings C B J I) (old new : BooksOf C B J I) (t : ℕ) (way : HasWayOut m old t) : Type 0 where
  pub up : AreUp m new t
  pub finds_open : (ksn : Serial) (amount : ℕ) → IsOpen way.number.till.state ksn amount → up.last ≡ Some (Open ksn amount)
  pub requests : new.requests ≡ old.requests
  pub answers : new.answers ≡ old.answers

module _ {C B J I : Type 0} (m : Meanings C B J I) (laws : StoreLaws m) (old : BooksOf C B J I) (t : ℕ) (reached : Reached m old) (way : HasWayOut m old t) where
  -- the till is brought up
  restarts : (outcome : Outcome) (before after : TillOf C B) → ReportsBroughtUp outcome → TakesRestart m.cell m.book t outcome before after → IsTillRestarted m.cell m.book before after
  restarts (came.TillNext u next state) before after up is = is.2.0
  restarts (came.TillFaulted u why) before after up is = absurd up
  restarts _ before after up is = absurd is

  brought_up : (outcome : Outcome) (new : BooksOf C B J I) → Step m old (event.RestartTill t) outcome new → IsTillBroughtUp m old t outcome new
  brought_up outcome new step = elim step [
    | inl none ↦ absurd (not_missing old.tills t (one_there old.tills t way.number.till way.number.at) none.none)
    | inr is ↦ is
  ]

  -- and the host
  reopens : (mid new : BooksOf C B J I) (outcome : Outcome) → ReportsBroughtUp outcome → RestartsHost m mid outcome new → (kept : ℕ) × IsHostReopened m mid kept new
  reopens mid new (came.HostKeeps kept) up is = (kept, is)
  reopens mid new (came.HostFaulted why) up is = absurd up
  reopens mid new _ up is = absurd is

  module _ (mid new : BooksOf C B J I) (first second : Outcome) (restart : Step m old (event.RestartTill t) first mid) (reopen : Step m mid event.RestartHost second new) where
    till_is : IsTillBroughtUp m old t first mid
    till_is = brought_up first mid restart

    ups : All ReportsBroughtUp (first ∷ second ∷ []) × ((end : End) → IsCalmAt m new end)
    ups = all_up m laws old new (event.RestartTill t ∷ event.RestartHost ∷ []) (first ∷ second ∷ []) reached way.sound way.calm
        (All-cons (IsRestartEvent old) (event.RestartTill t) (event.RestartHost ∷ []) (one_there old.tills t way.number.till way.number.at)
        (All-cons (IsRestartEvent old) event.RestartHost [] tt (All-nil (IsRestartEvent old))))
        (mid, restart, (new, reopen, refl))

    first_up : ReportsBroughtUp first
    first_up = All-head ReportsBroughtUp first (second ∷ []) ups.0

    second_up : ReportsBroughtUp second
    second_up = All-head ReportsBroughtUp second [] (λ k default within. All-tail ReportsBroughtUp first (second ∷ []) ups.0 k default within)

    -- the till that is brought up is the one of that number
    same_till : till_is.till.before ≡ way.number.till
    same_till = one_at old.tills t till_is.till.before way.number.till
        (record { place = till_is.till.place; number_is = till_is.till.number_is; thing_is = till_is.till.was }) way.number.at

    restarted : IsTillRestarted m.cell m.book way.number.till till_is.till.after
    restarted = subst (λ (it : TillOf C B). IsTillRestarted m.cell m.book it till_is.till.after) same_till
        (restarts first till_is.till.before till_is.till.after first_up till_is.till.changed)

    host_is : (kept : ℕ) × IsHostReopened m mid kept new
    host_is = reopens mid new second second_up reopen

    same_host : mid.host ≡ old.host
    same_host = ap (λ (books : BooksOf C B J I). books.host) till_is.rest

    -- there is room in what the host's journal was found with
    room_left : length host_is.1.host.entries < m.host.journal.capacity new.host.journal
    room_left =
        let found = host_is.1.host.journal in
        let entries = host_is.1.host.entries in
        let honest : (m.host.journal.state_of mid.host.journal).honest =
        subst (λ host. (m.host.journal.state_of host.journal).honest) (sym same_host) (reached_hold m laws.books old reached).holds.1.host.honest in
        let was : (m.host.journal.state_of old.host.journal).found entries = subst (λ host. (m.host.journal.state_of host.journal).found entries) same_host (found.was_found honest) in
        let left : length entries < m.host.journal.capacity mid.host.journal = subst (λ host. length entries < m.host.journal.capacity host.journal) (sym same_host) (way.room entries was) in
        subst (λ n. length entries < n) (sym host_is.1.capacity) left

    pub goes_up : GoesUp m old new t way
    goes_up =
        let holds = (reached_hold m laws.books old reached).holds.1.tills t way.number.till way.number.at in
        let it = restarted in
        record {
          up = record {
            reached = reached_step m mid new event.RestartHost second (reached_step m old mid (event.RestartTill t) first reached restart) reopen;
            calm = ups.1;
            till = till_is.till.after;
            at = subst (λ tills. IsAt tills t till_is.till.after) (sym (ap (λ (books : BooksOf C B J I). books.tills) host_is.1.rest)) (now_at t _ old.tills mid.tills till_is.till);
            last = it.last;
            runs = it.state_is;
            number = opened_number it.terminal.kept till_is.till.after.terminal.state
                (λ body same. way.number.left body (subst (m.cell.state_of way.number.till.terminal.cell).found same (it.terminal.cell.was_found holds.terminal.honest)))
                it.terminal.opens;
            cell_runs = it.terminal.cell.settles.runs;
            book_runs = it.found.cell.settles.runs;
            entries = host_is.1.host.entries;
            judges = host_is.1.host.judges;
            room = room_left;
          };
          finds_open = λ ksn amount is_open.
              let fields = (holds.book.runs (Some (Open ksn amount)) is_open).0 in
              kept_open laws.books.calls.reading it.last ksn amount (last_bytes (Open ksn amount)) it.found.fields (record { fields = fields; laid_out = refl })
              (sym (holds.book.only (Some (Open ksn amount)) is_open (kept_of it.last) (it.found.cell.was_found holds.book.honest)));
          requests = ap (λ (books : BooksOf C B J I). books.requests) host_is.1.rest ∙ ap (λ (books : BooksOf C B J I). books.requests) till_is.rest;
          answers = ap (λ (books : BooksOf C B J I). books.answers) host_is.1.rest ∙ ap (λ (books : BooksOf C B J I). books.answers) till_is.rest;
        }
