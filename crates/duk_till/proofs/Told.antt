-- What a till tells, and what is lost where its book fails.
use Rattle.std.proofs.Common.{◌≡◌, ℕ, List, Some, ap, subst, sym, ◌∙◌}
use Rattle.duk_frame.specs.Answer.{IsRefusal}
use Rattle.duk_frame.specs.declared.code.Code.{Code}
use Rattle.duk_store.specs.Cell.{CellMeaning, IsPut}
use Rattle.duk_term.specs.Begin.{IsBegunUnder}
use Rattle.duk_term.specs.Reply.{ReportsAnswer, after_answer, completed}
use Rattle.duk_term.specs.Terminal.{TerminalOf}
use Rattle.duk_term.specs.declared.answer.Answer.{Answer}
use Rattle.duk_term.specs.declared.answer.Answer.TheVariants.{Done, Refused}
use Rattle.duk_term.specs.declared.purchase.Purchase.{Purchase}
use Rattle.duk_term.specs.declared.state.State.{State}
use Rattle.duk_tree.specs.Serial.{Serial}
use Rattle.duk_till.specs.Begin.{TillBeginRefused, opened}
use Rattle.duk_till.specs.Image.{last_bytes}
use Rattle.duk_till.specs.Last.{outcome_of}
use Rattle.duk_till.specs.Reply.{IsOutcomeKept, IsPurchaseRefused, IsReplyTo, TillReplyRefused, WaitsForNoOther}
use Rattle.duk_till.specs.Till.{IsAtRest, IsLastNotKept, IsOpen, TillOf}
use Rattle.duk_till.specs.declared.fault.TillFault.{TillFault}
use Rattle.duk_till.specs.declared.fault.TillFault.TheVariants as fault
use Rattle.duk_till.specs.declared.last.Last.{Last}
use Rattle.duk_till.specs.declared.last.Last.TheVariants.{Open}
use Rattle.duk_till.specs.declared.state.TillState.{TillState}
use Rattle.duk_till.specs.declared.state.TillState.TheVariants.{Running}
use Rattle.duk_till.specs.inner.Till.{IsNotKept}

-- ---- tills by their parts

abbrev pub till_of : {C J : Type 0} → TerminalOf C → J → TillState → TillOf C J
till_of terminal book state = record { terminal = terminal; book = book; state = state }

abbrev terminal_of : {C : Type 0} → C → State → TerminalOf C
terminal_of cell state = record { cell = cell; state = state }

pub same_till : {C J : Type 0} (one other : TerminalOf C) (book : J) (state : TillState) → one ≡ other → till_of one book state ≡ till_of other book state
same_till one other book state same = ap (λ terminal. till_of terminal book state) same

-- ---- begin

pub number_lost :
    {C J : Type 0} (cell : CellMeaning C) (book : CellMeaning J) (purchase : Purchase) (old new : TillOf C J) (begun : TerminalOf C) (ksn : Serial) (frame : List ℕ) (why : TillFault)
    → IsAtRest old.state → IsBegunUnder cell purchase ksn frame old.terminal begun → new.terminal ≡ begun
    → IsNotKept book (opened ksn purchase) (till_of begun old.book old.state) new why → TillBeginRefused cell book purchase old new why
number_lost cell book purchase old new begun ksn frame (fault.Store why) rest is same not = record {
  before = rest.last;
  was = rest.runs;
  was_at_rest = rest;
  ksn = ksn;
  frame = frame;
  terminal = subst (IsBegunUnder cell purchase ksn frame old.terminal) (sym same) is;
  not_kept = not rest.last rest.runs;
}
number_lost cell book purchase old new begun ksn frame fault.Stopped rest is same not = absurd not
number_lost cell book purchase old new begun ksn frame fault.Open rest is same not = absurd not
number_lost cell book purchase old new begun ksn frame fault.NothingOpen rest is same not = absurd not
number_lost cell book purchase old new begun ksn frame (fault.Terminal why) rest is same not = absurd not

-- ---- reply

-- an answer that is the host's reply is that to the number waited for
pub reply_to : (state : State) (ksn : Serial) (bytes : List ℕ) (answer : Answer) (code : Code) → WaitsForNoOther state ksn → ReportsAnswer state bytes answer → answer ≡ Done code
    → IsReplyTo state ksn bytes code
reply_to state ksn bytes answer code waits reported is =
    let report = subst (ReportsAnswer state bytes) is reported in
    record { pending = report.0; waits = report.1; number_is = waits report.0 report.1; from_host = report.2 }

-- the terminal is left with nothing pending
pub completes : {C : Type 0} (old new : TerminalOf C) (answer : Answer) (code : Code) → answer ≡ Done code → new ≡ terminal_of old.cell (after_answer old.state answer)
    → new ≡ terminal_of old.cell (completed old.state)
completes old new answer code is answered = answered ∙ ap (λ answer. terminal_of old.cell (after_answer old.state answer)) is

pub outcome_kept :
    {C J : Type 0} (book : CellMeaning J) (bytes : List ℕ) (old new : TillOf C J) (after : TerminalOf C) (ksn : Serial) (amount : ℕ) (code : Code) (last : Last)
    → IsOpen old.state ksn amount → IsReplyTo old.terminal.state ksn bytes code → after ≡ terminal_of old.terminal.cell (completed old.terminal.state) → new.terminal ≡ after
    → last ≡ outcome_of ksn amount code → IsPut book old.book new.book (last_bytes last) → new.state ≡ Running (Some last) → IsOutcomeKept book bytes code old new
outcome_kept book bytes old new after ksn amount code last open_is reply done same last_is kept state = record {
  ksn = ksn;
  amount = amount;
  was_open = open_is;
  reply = reply;
  terminal = same ∙ done;
  kept = subst (λ (last : Last). IsPut book old.book new.book (last_bytes last)) last_is kept;
  state_is = state ∙ ap (λ (last : Last). Running (Some last)) last_is;
}

pub outcome_lost :
    {C J : Type 0} (book : CellMeaning J) (bytes : List ℕ) (old new : TillOf C J) (after : TerminalOf C) (ksn : Serial) (amount : ℕ) (code : Code) (last : Last) (why : TillFault)
    → IsOpen old.state ksn amount → IsReplyTo old.terminal.state ksn bytes code → after ≡ terminal_of old.terminal.cell (completed old.terminal.state) → new.terminal ≡ after
    → last ≡ outcome_of ksn amount code → IsNotKept book last (till_of after old.book old.state) new why → TillReplyRefused book bytes old new why
outcome_lost book bytes old new after ksn amount code last (fault.Store why) open_is reply done same last_is not = record {
  ksn = ksn;
  amount = amount;
  was_open = open_is;
  code = code;
  reply = reply;
  terminal = same ∙ done;
  not_kept = subst (λ (last : Last). IsLastNotKept book last (Some (Open ksn amount)) old.book new.book new.state why) last_is (not (Some (Open ksn amount)) open_is);
}
outcome_lost book bytes old new after ksn amount code last fault.Stopped open_is reply done same last_is not = absurd not
outcome_lost book bytes old new after ksn amount code last fault.Open open_is reply done same last_is not = absurd not
outcome_lost book bytes old new after ksn amount code last fault.NothingOpen open_is reply done same last_is not = absurd not
outcome_lost book bytes old new after ksn amount code last (fault.Terminal why) open_is reply done same last_is not = absurd not

pub purchase_refused :
    {C J : Type 0} (bytes : List ℕ) (terminal after : TerminalOf C) (book : J) (state : TillState) (ksn : Serial) (amount : ℕ) (answer : Answer) (reason : ℕ) → IsOpen state ksn amount
    → WaitsForNoOther terminal.state ksn → ReportsAnswer terminal.state bytes answer → answer ≡ Refused reason → after ≡ terminal_of terminal.cell (after_answer terminal.state answer)
    → IsPurchaseRefused bytes reason (till_of terminal book state) (till_of after book state)
purchase_refused bytes terminal after book state ksn amount answer reason open_is waits reported is answered =
    let report = subst (ReportsAnswer terminal.state bytes) is reported in
    let number = waits report.0 report.1 in
    let same : after ≡ terminal = answered ∙ ap (λ answer. terminal_of terminal.cell (after_answer terminal.state answer)) is in
    record {
      ksn = ksn;
      amount = amount;
      was_open = open_is;
      pending = report.0;
      waits = report.1;
      number_is = number;
      refusal = subst (λ (ksn : Serial). IsRefusal bytes ksn reason) number report.2;
      same = same_till after terminal book state same;
    }
