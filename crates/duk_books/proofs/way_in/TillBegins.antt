-- How a till at rest begins a purchase.
use Rattle.std.proofs.Common.{◌≡◌, ◌≢◌, ◌+◌, ℕ, true, Option, length, inl, inr, refl, sym, ap, subst, ◌∙◌, if◌then◌else◌}
use Rattle.std.proofs.lemmas.Bool.Decides.{eqb_tells}
use Rattle.duk_regs.specs.Registers.{RegisterSet}
use Rattle.duk_term.specs.Begin.{BeginRefused}
use Rattle.duk_term.specs.Body.{body_bytes}
use Rattle.duk_term.specs.Terminal.{TerminalOf, next_of, serial_of}
use Rattle.duk_term.specs.declared.answer.Next.TheVariants as next
use Rattle.duk_term.specs.declared.fault.TermFault.{TermFault}
use Rattle.duk_term.specs.declared.fault.TermFault.TheVariants as term_fault
use Rattle.duk_term.specs.declared.purchase.Purchase.{Purchase}
use Rattle.duk_term.specs.declared.state.Pending.{Pending}
use Rattle.duk_term.specs.declared.state.State.{State}
use Rattle.duk_term.specs.declared.state.State.TheVariants.{Empty, Loaded, Stopped}
use Rattle.duk_till.specs.Begin.{IsTillBegun, TillBeginRefused, opened}
use Rattle.duk_till.specs.Image.{last_bytes}
use Rattle.duk_till.specs.Till.{HasTwoAfter, IsAtRest, TillOf}
use Rattle.duk_till.specs.declared.fault.TillFault.{TillFault}
use Rattle.duk_till.specs.declared.fault.TillFault.TheVariants as fault
use Rattle.duk_tree.specs.Next.{spent_counter}
use Rattle.duk_tree.specs.Serial.{Serial}
use Rattle.duk_books.specs.Begin.{Begins, IsSent}
use Rattle.duk_books.specs.Books.{BooksOf, Meanings}
use Rattle.duk_stations.specs.Places.{IsAt}
use Rattle.duk_books.specs.Calm.{IsBookFault, IsTerminalFault, ReportsFault}
use Rattle.duk_books.specs.declared.event.End.TheVariants as ends
use Rattle.duk_books.specs.declared.outcome.Outcome.{Outcome}
use Rattle.duk_books.specs.declared.outcome.Outcome.TheVariants as came
use Rattle.duk_books.proofs.agreement.QuietCalls.{not_open_at_rest}
use Rattle.duk_books.proofs.agreement.Tills.{stopped_is_not_running}
use Rattle.duk_stations.proofs.PlacesInLists.{not_missing}
use Rattle.duk_books.proofs.way_out.OpenIsUsed.{same_set}
use Rattle.duk_books.proofs.way_out.TillReverses.{IsSpared, stopped_not_loaded}
use Rattle.duk_books.proofs.way_out.Ups.{one_at, one_there, put_fails}

-- ---- the next number

-- the terminal's registers have this number next
pub record HasNext (state : State) (ksn : Serial) : Type 0 where
  pub set : RegisterSet
  pub pending : Option Pending
  pub state_is : state ≡ Loaded set pending
  pub serial : serial_of set ≡ ksn
  pub left : set.counter ≢ spent_counter

stopped_has_none : (ksn : Serial) → next.Stopped ≢ next.At ksn
stopped_has_none ksn same = cc

spent_has_none : (ksn : Serial) → next.Spent ≢ next.At ksn
spent_has_none ksn same = cc

empty_has_none : (ksn : Serial) → next_of Empty ≢ next.At ksn
empty_has_none ksn same = cc

one_next : (one other : Serial) → next.At one ≡ next.At other → one ≡ other
one_next one other same = cc

pub has_next : (state : State) (ksn : Serial) → next_of state ≡ next.At ksn → HasNext state ksn
has_next Stopped ksn is = absurd (stopped_has_none ksn is)
has_next Empty ksn is = absurd (empty_has_none ksn is)
has_next (Loaded set pending) ksn is = elim (eqb_tells set.counter spent_counter) [
  | inl spent ↦ absurd (spent_has_none ksn (ap (λ b. if b then next.Spent else next.At (serial_of set)) (sym spent.0) ∙ is))
  | inr left ↦ record {
    set = set;
    pending = pending;
    state_is = refl;
    serial = one_next (serial_of set) ksn (ap (λ b. if b then next.Spent else next.At (serial_of set)) (sym left.0) ∙ is);
    left = left.1;
  }
]

not_empty : (state : State) (set : RegisterSet) (pending : Option Pending) → state ≡ Loaded set pending → state ≡ Empty → ⊥
not_empty state set pending is empty = cc

-- ---- it sends

-- the till sends the request of a purchase, under this number
pub record SendsRequest {C B J I : Type 0} (m : Meanings C B J I) (old : BooksOf C B J I) (t : ℕ) (till : TillOf C B) (purchase : Purchase) (ksn : Serial) (outcome : Outcome) (new : BooksOf C B J I) : Type 0 where
  pub k : ℕ
  pub number : Serial
  pub sent : IsSent m old t purchase k number new
  pub begun : IsTillBegun m.cell m.book purchase sent.begun.ksn sent.begun.frame.items till sent.till.after
  pub serial : serial_of begun.terminal.begun.set ≡ ksn
  pub outcome_is : outcome ≡ came.Sent t (length old.requests + 1) ksn

sent_as : (u t k n : ℕ) (number ksn : Serial) → u ≡ t → k ≡ n → number ≡ ksn → came.Sent u k number ≡ came.Sent t n ksn
sent_as u t k n number ksn one two three = cc

module _ {C B J I : Type 0} (m : Meanings C B J I) (till : TillOf C B) (purchase : Purchase) (ksn : Serial) (rest : IsAtRest till.state) (next_is : next_of till.terminal.state ≡ next.At ksn) (two_more : HasTwoAfter ksn.counter)
    (cell_runs : (m.cell.state_of till.terminal.cell).running ≡ true) (book_runs : (m.book.state_of till.book).running ≡ true) where
  nx : HasNext till.terminal.state ksn
  nx = has_next till.terminal.state ksn next_is

  terminal_refuses : (after : TerminalOf C) (why : TermFault) → IsSpared (IsTerminalFault (fault.Terminal why)) → BeginRefused m.cell till.terminal after why → ⊥
  terminal_refuses after term_fault.Stopped spared is = stopped_not_loaded till.terminal.state nx.set nx.pending nx.state_is is.0
  terminal_refuses after term_fault.NotLoaded spared is = not_empty till.terminal.state nx.set nx.pending nx.state_is is.0
  terminal_refuses after term_fault.Spent spared is =
      nx.left (ap (λ (set : RegisterSet). set.counter) (same_set till.terminal.state nx.set is.0.0 nx.pending is.0.1 nx.state_is is.0.2) ∙ is.0.3)
  terminal_refuses after (term_fault.Store why) spared is = elim (put_fails m.cell till.terminal.cell after.cell (body_bytes is.left) why cell_runs is.stops.not_kept) [
    | inl device ↦ spared.device device
    | inr worn ↦ spared.worn worn
  ]
  terminal_refuses after _ spared is = is

  till_refuses : (after : TillOf C B) (why : TillFault) → IsSpared (IsTerminalFault why) → IsSpared (IsBookFault why) → TillBeginRefused m.cell m.book purchase till after why → ⊥
  till_refuses after fault.Stopped spared also is = stopped_is_not_running till.state rest.last is.0 rest.runs
  till_refuses after fault.Open spared also is = not_open_at_rest till.state is.0.0 is.0.1 rest is.0.2
  till_refuses after fault.NothingOpen spared also is = is
  till_refuses after (fault.Terminal why) spared also is = elim is.1 [
    | inl last_two ↦
        let kept = last_two.1 in
        kept.last_two (subst (λ (it : Serial). HasTwoAfter it.counter) (one_next ksn kept.ksn (sym next_is ∙ kept.comes_next)) two_more)
    | inr refused ↦ terminal_refuses after.terminal why spared refused.0
  ]
  till_refuses after (fault.Store why) spared also is = elim (put_fails m.book till.book after.book (last_bytes (opened is.ksn purchase)) why book_runs is.not_kept.not_kept) [
    | inl device ↦ also.device device
    | inr worn ↦ also.worn worn
  ]

  module _ (old new : BooksOf C B J I) (t : ℕ) (at : IsAt old.tills t till) where
    is_sent : (u k : ℕ) (number : Serial) → u ≡ t → IsSent m old t purchase k number new → SendsRequest m old t till purchase ksn (came.Sent u k number) new
    is_sent u k number same_number is =
        let change = is.till in
        let same : change.before ≡ till = one_at old.tills t change.before till (record { place = change.place; number_is = change.number_is; thing_is = change.was }) at in
        let begun = subst (λ (it : TillOf C B). IsTillBegun m.cell m.book purchase is.begun.ksn is.begun.frame.items it change.after) same change.changed in
        let takes = begun.terminal.begun.takes in
        let serial : serial_of begun.terminal.begun.set ≡ ksn =
        ap serial_of (same_set till.terminal.state begun.terminal.begun.set nx.set takes.pending nx.pending takes.had nx.state_is) ∙ nx.serial in
        record {
          k = k;
          number = number;
          sent = is;
          begun = begun;
          serial = serial;
          outcome_is = sent_as u t k (length old.requests + 1) number ksn same_number is.counted (sym is.number_is ∙ begun.terminal.ksn_is ∙ serial);
        }

    pub sends_request : (outcome : Outcome) → Begins m old t purchase outcome new → IsSpared (ReportsFault outcome (ends.Terminal t)) → IsSpared (ReportsFault outcome (ends.Book t))
        → SendsRequest m old t till purchase ksn outcome new
    sends_request came.NoSuchTill is spared also = absurd (not_missing old.tills t (one_there old.tills t till at) is.0)
    sends_request (came.Sent u k number) is spared also = is_sent u k number is.0 is.1
    sends_request (came.TillFaulted u why) is spared also =
        let change = is.1.till in
        let same : change.before ≡ till = one_at old.tills t change.before till (record { place = change.place; number_is = change.number_is; thing_is = change.was }) at in
        absurd (till_refuses change.after why
        (record { device = λ reports. spared.device (is.0, reports); worn = λ reports. spared.worn (is.0, reports) })
        (record { device = λ reports. also.device (is.0, reports); worn = λ reports. also.worn (is.0, reports) })
        (subst (λ (it : TillOf C B). TillBeginRefused m.cell m.book purchase it change.after why) same change.changed))
    sends_request _ is spared also = absurd is
