-- Each purchase in a till's lifetime takes a new number.
use Rattle.std.proofs.Common.{◌≡◌, ◌≢◌, ◌⊎◌, ◌<◌, ◌^◌, inl, inr, ℕ, List, [], ◌∷◌, ◌++◌, Option, Some, None, Ok, Err, Contains, ap, arith, refl, subst, sym, ◌∙◌}
use Rattle.std.proofs.lemmas.List.Elements.{Contains-append_left, Contains-push}
use Rattle.duk_frame.specs.declared.code.Code.{Code}
use Rattle.duk_regs.specs.Registers.{AreFutureKeysOf, HaveSixteenBytes, IsPastOf, IsRegisterSet, RegisterSet}
use Rattle.duk_store.specs.Cell.{CellMeaning, IsPut, Kept, PutFailed}
use Rattle.duk_store.specs.declared.fault.StoreFault.{StoreFault}
use Rattle.duk_tdes.specs.Key.{IsKey}
use Rattle.duk_term.specs.Begin.{BeginRefused, BeginStopped, IsBegunUnder, TakesFrom, TakesNumber}
use Rattle.duk_term.specs.Body.{IsFoundAgain, body_bytes, set_of_body}
use Rattle.duk_term.specs.Load.{IsFirstSet, IsTerminalLoaded, LoadRefused, LoadStopped, Loading, MayTake}
use Rattle.duk_term.specs.Reply.{completed}
use Rattle.duk_term.specs.Restart.{IsTerminalRestarted, Opens, TerminalRestartRefused, TerminalRestartStopped}
use Rattle.duk_term.specs.Reversal.{IsReversalBegun, ReversalRefused}
use Rattle.duk_term.specs.Terminal.{TerminalOf, serial_of}
use Rattle.duk_term.specs.declared.answer.Answer.TheVariants as answer
use Rattle.duk_term.specs.declared.answer.ReversalAnswer.TheVariants as reversal
use Rattle.duk_term.specs.declared.fault.TermFault.{TermFault}
use Rattle.duk_term.specs.declared.fault.TermFault.TheVariants as term_fault
use Rattle.duk_term.specs.declared.purchase.Purchase.{Purchase}
use Rattle.duk_term.specs.declared.state.Pending.{Pending}
use Rattle.duk_term.specs.declared.state.State.{State}
use Rattle.duk_term.specs.declared.state.State.TheVariants.{Stopped, Empty, Loaded}
use Rattle.duk_tree.specs.Next.{ComesAfter}
use Rattle.duk_tree.specs.Serial.{Serial}
use Rattle.duk_till.specs.Begin.{TillBeginRefused}
use Rattle.duk_till.specs.History.{Began, Entry, Told, TookNewNumbers, payment_of}
use Rattle.duk_till.specs.Last.{outcome_of}
use Rattle.duk_till.specs.Lifetime.{ArmBook, ArmTerminal, Begin, Call, IsCalled, IsLifetime, Load, Reply, Restart, Reverse, ReversalReply, Stop, last_told, outcome_told, undone_told, written}
use Rattle.duk_till.specs.Load.{TillLoadRefused}
use Rattle.duk_till.specs.Reply.{Completes, TillReplyRefused}
use Rattle.duk_till.specs.Restart.{TillRestartRefused}
use Rattle.duk_till.specs.Reversal.{TillReversalReplyRefused, TillReverseRefused}
use Rattle.duk_till.specs.Till.{TillOf}
use Rattle.duk_till.specs.declared.fault.TillFault.{TillFault}
use Rattle.duk_till.specs.declared.fault.TillFault.TheVariants as fault
use Rattle.duk_till.specs.declared.last.Last.{Last}
use Rattle.duk_till.specs.declared.last.Last.TheVariants.{Open, Approved, Declined, Undone}
use Rattle.duk_till.specs.declared.last.Payment.{Payment}
use Rattle.duk_till.specs.declared.state.TillState.{TillState}
use Rattle.duk_till.specs.declared.state.TillState.TheVariants as state
use Rattle.duk_till.proofs.Histories.{began_later, began_or_later, none_in}
use Rattle.duk_till.proofs.LifetimeOfTill.{TillLaws, begun_at_next}
use Rattle.duk_till.proofs.NotKept.{found_then, stays_honest}

-- what is known of counters, and of registers in a body
pub record NumberLaws : Type 0 where
  pub till : TillLaws
  pub left : (set left : RegisterSet) (key : List ℕ) → TakesNumber set key left → HaveSixteenBytes left.registers → IsFoundAgain left
  pub of_key : (initial : List ℕ) (set : RegisterSet) → IsKey 16 initial → IsRegisterSet set → AreFutureKeysOf initial set → IsFoundAgain set

-- ---- numbers behind registers

-- registers never come to this number again: it is under a past initial key serial number, or below
-- their next one
abbrev IsBehind : Serial → RegisterSet → Type 0
IsBehind ksn set = IsPastOf ksn.iksn set ⊎ ((ksn.iksn ≡ set.iksn) × (ksn.counter < set.counter))

-- each number that a purchase took is behind them
abbrev AllBehind : List Entry → RegisterSet → Type 0
AllBehind history set = (began : Payment) → Contains history (Began began) → IsBehind began.ksn set

abbrev NothingBegun : List Entry → Type 0
NothingBegun history = (began : Payment) → ¬ Contains history (Began began)

next_is_above : (counter next : ℕ) → counter < 2 ^ 21 → ComesAfter counter next → counter < next
next_is_above counter next fits after = elim after [
  | inl next ↦ next.is_above
  | inr last ↦ omega (arith, fits, last.1)
]

above_taken : NumberLaws → (set left : RegisterSet) (key : List ℕ) → TakesNumber set key left → set.counter < left.counter
above_taken laws set left key takes = next_is_above set.counter left.counter (laws.till.fits set.counter takes.usable) takes.taken.next_counter

behind_left : NumberLaws → (set left : RegisterSet) (key : List ℕ) (ksn : Serial) → TakesNumber set key left → IsBehind ksn set → IsBehind ksn left
behind_left laws set left key ksn takes behind =
    let above = above_taken laws set left key takes in
    elim behind [
      | inl past ↦ inl (subst (λ (past : List ℕ). Contains past ksn.iksn) (sym takes.taken.same_past) past)
      | inr below ↦ inr (below.0 ∙ sym takes.taken.same_iksn, omega (arith, below.1, above))
    ]

-- the number that is taken is behind what is left
taken_behind : NumberLaws → (set left : RegisterSet) (key : List ℕ) → TakesNumber set key left → IsBehind (serial_of set) left
taken_behind laws set left key takes = inr (sym takes.taken.same_iksn, above_taken laws set left key takes)

-- and was not taken before
is_new : (set : RegisterSet) (ksn : Serial) → IsRegisterSet set → IsBehind ksn set → ksn ≢ serial_of set
is_new set ksn is behind same =
    let iksn : ksn.iksn ≡ set.iksn = ap (λ (it : Serial). it.iksn) same in
    let counter : ksn.counter ≡ set.counter = ap (λ (it : Serial). it.counter) same in
    elim behind [
      | inl past ↦ is.iksn_is_not_past (subst (λ (it : ℕ). Contains set.past it) iksn past)
      | inr below ↦ omega (arith, below.1, counter)
    ]

all_behind_left : NumberLaws → (history : List Entry) (set left : RegisterSet) (key : List ℕ) → TakesNumber set key left → AllBehind history set → AllBehind history left
all_behind_left laws history set left key takes all began is_in = behind_left laws set left key began.ksn takes (all began is_in)

-- ---- terminals

abbrev StateBehind : List Entry → State → Type 0
StateBehind history Stopped = Unit {0}
StateBehind history Empty = NothingBegun history
StateBehind history (Loaded set pending) = AllBehind history set

abbrev KeptBehind : List Entry → Kept → Type 0
KeptBehind history None = NothingBegun history
KeptBehind history (Some body) = AllBehind history (set_of_body body)

body_behind : (history : List Entry) (set : RegisterSet) → IsFoundAgain set → AllBehind history set → KeptBehind history (Some (body_bytes set))
body_behind history set again all = subst (AllBehind history) (sym (again.same (body_bytes set) (inl refl))) all

module _ {C : Type 0} (laws : NumberLaws) (cell : CellMeaning C) where
  pub record IsPast (history : List Entry) (terminal : TerminalOf C) : Type 0 where
    pub honest : (cell.state_of terminal.cell).honest
    pub state : StateBehind history terminal.state
    pub kept : (kept : Kept) → (cell.state_of terminal.cell).found kept → KeptBehind history kept

  stopped_behind : (history : List Entry) (it : State) → it ≡ Stopped → StateBehind history it
  stopped_behind history it is = subst (StateBehind history) (sym is) tt

  unchanged : (history : List Entry) (old new : TerminalOf C) → IsPast history old → new ≡ old → IsPast history new
  unchanged history old new past same = subst (IsPast history) (sym same) past

  -- an image is kept, or not
  is_put : (history : List Entry) (old new : TerminalOf C) (set : RegisterSet) (pending : Option Pending) → (cell.state_of old.cell).honest → IsPut cell old.cell new.cell (body_bytes set)
      → new.state ≡ Loaded set pending → IsFoundAgain set → AllBehind history set → IsPast history new
  is_put history old new set pending honest put state again all = record {
    honest = put.settles.nature.honest.0 honest;
    state = subst (StateBehind history) (sym state) all;
    kept = λ kept found. subst (KeptBehind history) (sym ((put.settles.finds honest kept).0 found)) (body_behind history set again all);
  }

  is_not_put : (history : List Entry) (old new : TerminalOf C) (set : RegisterSet) (why : StoreFault) → IsPast history old → PutFailed cell old.cell new.cell (body_bytes set) why
      → new.state ≡ Stopped → IsFoundAgain set → AllBehind history set → IsPast history new
  is_not_put history old new set why past failed stopped again all = record {
    honest = stays_honest cell old.cell new.cell (body_bytes set) why failed past.honest;
    state = stopped_behind history new.state stopped;
    kept = λ kept found. elim (found_then cell old.cell new.cell (body_bytes set) why past.honest failed kept found) [
      | inl before ↦ past.kept kept before
      | inr is_new ↦ subst (KeptBehind history) (sym is_new) (body_behind history set again all)
    ];
  }

  -- the registers from which a number is taken
  taken_from : (history : List Entry) (old : TerminalOf C) (set left : RegisterSet) (key : List ℕ) → IsPast history old → TakesFrom old.state set key left → AllBehind history set
  taken_from history old set left key past takes = subst (StateBehind history) takes.had past.state

  -- ---- a number is taken

  pub begun : (history : List Entry) (purchase : Purchase) (ksn : Serial) (frame : List ℕ) (old new : TerminalOf C) → IsPast history old → IsBegunUnder cell purchase ksn frame old new
      → IsPast (Began (payment_of ksn purchase.amount) ∷ history) new
  begun history purchase ksn frame old new past is =
      let it = is.begun in
      let all = taken_from history old it.set it.left it.key past it.takes in
      let here : IsBehind ksn it.left = subst (λ (number : Serial). IsBehind number it.left) (sym is.ksn_is) (taken_behind laws it.set it.left it.key it.takes.takes) in
      is_put (Began (payment_of ksn purchase.amount) ∷ history) old new it.left _ past.honest it.kept it.state_is (laws.left it.set it.left it.key it.takes.takes it.left_are)
      (λ began is_in. elim (began_or_later (payment_of ksn purchase.amount) began history is_in) [
        | inl same ↦ subst (λ (it : Payment). IsBehind it.ksn is.begun.left) (sym same) here
        | inr earlier ↦ behind_left laws it.set it.left it.key began.ksn it.takes.takes (all began earlier)
      ])

  pub begun_anew : (history : List Entry) (purchase : Purchase) (ksn : Serial) (frame : List ℕ) (old new : TerminalOf C) → IsPast history old → IsBegunUnder cell purchase ksn frame old new
      → (other : Payment) → Contains history (Began other) → other.ksn ≢ ksn
  begun_anew history purchase ksn frame old new past is other is_in same =
      let it = is.begun in
      is_new it.set other.ksn it.takes.takes.set_is (taken_from history old it.set it.left it.key past it.takes other is_in) (same ∙ is.ksn_is)

  begin_stopped : (history : List Entry) (old new : TerminalOf C) (why : StoreFault) → IsPast history old → BeginStopped cell old new why → IsPast history new
  begin_stopped history old new why past is =
      is_not_put history old new is.left why past is.stops.not_kept is.stops.stopped (laws.left is.set is.left is.key is.takes.takes is.left_are)
      (all_behind_left laws history is.set is.left is.key is.takes.takes (taken_from history old is.set is.left is.key past is.takes))

  pub begin_refused : (history : List Entry) (why : TermFault) (old new : TerminalOf C) → IsPast history old → BeginRefused cell old new why → IsPast history new
  begin_refused history term_fault.Stopped old new past is = unchanged history old new past is.1
  begin_refused history term_fault.NotLoaded old new past is = unchanged history old new past is.1
  begin_refused history term_fault.Spent old new past is = unchanged history old new past is.1
  begin_refused history (term_fault.Store why) old new past is = begin_stopped history old new why past is
  begin_refused history _ old new past is = absurd is

  pub reversing : (history : List Entry) (reversed ksn : Serial) (frame : List ℕ) (old new : TerminalOf C) → IsPast history old → IsReversalBegun cell reversed ksn frame old new → IsPast history new
  reversing history reversed ksn frame old new past is =
      is_put history old new is.left _ past.honest is.kept is.state_is (laws.left is.set is.left is.key is.takes.takes is.left_are)
      (all_behind_left laws history is.set is.left is.key is.takes.takes (taken_from history old is.set is.left is.key past is.takes))

  pub reversal_refused : (history : List Entry) (reversed : Serial) (why : TermFault) (old new : TerminalOf C) → IsPast history old → ReversalRefused cell reversed old new why → IsPast history new
  reversal_refused history reversed term_fault.Stopped old new past is = unchanged history old new past is.1
  reversal_refused history reversed term_fault.NotLoaded old new past is = unchanged history old new past is.1
  reversal_refused history reversed term_fault.Spent old new past is = unchanged history old new past is.1
  reversal_refused history reversed term_fault.NotMine old new past is = unchanged history old new past is.1
  reversal_refused history reversed (term_fault.Store why) old new past is = begin_stopped history old new why past is.stopped
  reversal_refused history reversed _ old new past is = absurd is

  -- ---- a load

  first_behind : (history : List Entry) (it : State) (asked : Loading) (set : RegisterSet) → StateBehind history it → MayTake it asked.iksn → IsFirstSet asked it set → AllBehind history set
  first_behind history Stopped asked set past may first began is_in = absurd (may.runs refl)
  first_behind history Empty asked set past may first began is_in = absurd (past began is_in)
  first_behind history (Loaded old pending) asked set past may first began is_in = inl (subst (λ (list : List ℕ). Contains list began.ksn.iksn) (sym first.past_is) (elim (past began is_in) [
    | inl before ↦ Contains-append_left old.past (old.iksn ∷ []) began.ksn.iksn before
    | inr present ↦ subst (λ (it : ℕ). Contains (old.past ++ old.iksn ∷ []) it) (sym present.0) (Contains-push old.past old.iksn)
  ]))

  first_again : (it : State) (asked : Loading) (set : RegisterSet) → IsFirstSet asked it set → IsFoundAgain set
  first_again it asked set first =
      laws.of_key first.initial set (record { size_is = first.wrapped.use_is.length_is; bytes_fit = first.wrapped.wraps.block.key_is.bytes_fit }) first.set_is first.future_keys

  pub loaded : (history : List Entry) (asked : Loading) (old new : TerminalOf C) → IsPast history old → IsTerminalLoaded cell asked old new → IsPast history new
  loaded history asked old new past is =
      is_put history old new is.set None past.honest is.kept is.state_is (first_again old.state asked is.set is.set_is) (first_behind history old.state asked is.set past.state is.may is.set_is)

  load_stopped : (history : List Entry) (asked : Loading) (why : StoreFault) (old new : TerminalOf C) → IsPast history old → LoadStopped cell asked old new why → IsPast history new
  load_stopped history asked why old new past is =
      is_not_put history old new is.set why past is.stops.not_kept is.stops.stopped (first_again old.state asked is.set is.set_is) (first_behind history old.state asked is.set past.state is.may is.set_is)

  pub load_refused : (history : List Entry) (asked : Loading) (why : TermFault) (old new : TerminalOf C) → IsPast history old → LoadRefused cell asked old new why → IsPast history new
  load_refused history asked term_fault.Stopped old new past is = unchanged history old new past is.1
  load_refused history asked term_fault.IksnSpent old new past is = unchanged history old new past is.1
  load_refused history asked term_fault.LoadsSpent old new past is = unchanged history old new past is.2
  load_refused history asked (term_fault.Block why) old new past is = unchanged history old new past is.2
  load_refused history asked term_fault.WrongUse old new past is = unchanged history old new past is.2
  load_refused history asked (term_fault.Store why) old new past is = load_stopped history asked why old new past is
  load_refused history asked _ old new past is = absurd is

  -- ---- a restart

  opened : (history : List Entry) (kept : Kept) (it : State) → KeptBehind history kept → Opens kept it → StateBehind history it
  opened history None it past opens = subst (StateBehind history) (sym opens) past
  opened history (Some body) it past opens = subst (StateBehind history) (sym opens.1) past

  pub restarted : (history : List Entry) (old new : TerminalOf C) → IsPast history old → IsTerminalRestarted cell old new → IsPast history new
  restarted history old new past is =
      let found = past.kept is.kept (is.cell.was_found past.honest) in
      record {
        honest = is.cell.settles.nature.honest.0 past.honest;
        state = opened history is.kept new.state found is.opens;
        kept = λ kept finds. subst (KeptBehind history) (sym ((is.cell.settles.finds past.honest kept).0 finds)) found;
      }

  restart_stopped : (history : List Entry) (why : StoreFault) (old new : TerminalOf C) → IsPast history old → TerminalRestartStopped cell old new why → IsPast history new
  restart_stopped history why old new past is = elim is.cause [
    | inl failed ↦ record {
      honest = failed.stops.nature.honest.0 past.honest;
      state = stopped_behind history new.state is.stopped;
      kept = λ kept found. past.kept kept (failed.stops.within past.honest kept found);
    }
    | inr damaged ↦
        let restart = damaged.1.cell in
        record {
          honest = restart.settles.nature.honest.0 past.honest;
          state = stopped_behind history new.state is.stopped;
          kept = λ kept found. subst (KeptBehind history) (sym ((restart.settles.finds past.honest kept).0 found)) (past.kept (Some damaged.1.bytes) (restart.was_found past.honest));
        }
  ]

  pub restart_refused : (history : List Entry) (why : TermFault) (old new : TerminalOf C) → IsPast history old → TerminalRestartRefused cell old new why → IsPast history new
  restart_refused history (term_fault.Store why) old new past is = restart_stopped history why old new past is
  restart_refused history _ old new past is = absurd is

  -- ---- a reply

  completed_behind : (history : List Entry) (it : State) → StateBehind history it → StateBehind history (completed it)
  completed_behind history Stopped past = past
  completed_behind history Empty past = past
  completed_behind history (Loaded set pending) past = past

  pub completes : (history : List Entry) (old new : TerminalOf C) → IsPast history old → new ≡ record { cell = old.cell; state = completed old.state } → IsPast history new
  completes history old new past is = subst (IsPast history) (sym is) (record { honest = past.honest; state = completed_behind history old.state past.state; kept = past.kept })

-- ---- what is told is no number

fewer_state : (history longer : List Entry) (it : State) → ((began : Payment) → Contains longer (Began began) → Contains history (Began began)) → StateBehind history it → StateBehind longer it
fewer_state history longer Stopped same past = tt
fewer_state history longer Empty same past = λ began is_in. past began (same began is_in)
fewer_state history longer (Loaded set pending) same past = λ began is_in. past began (same began is_in)

fewer_kept : (history longer : List Entry) (kept : Kept) → ((began : Payment) → Contains longer (Began began) → Contains history (Began began)) → KeptBehind history kept → KeptBehind longer kept
fewer_kept history longer None same past = λ began is_in. past began (same began is_in)
fewer_kept history longer (Some body) same past = λ began is_in. past began (same began is_in)

-- these entries say at most what became of a purchase
abbrev IsToldAtMost : List Entry → Type 0
IsToldAtMost entries = (entries ≡ []) ⊎ ((last : Last) × (entries ≡ Told last ∷ []))

told_by_reply : (it : TillState) (why : Code) → IsToldAtMost (outcome_told it why)
told_by_reply state.Stopped why = inl refl
told_by_reply (state.Running None) why = inl refl
told_by_reply (state.Running (Some (Open ksn amount))) why = inr (outcome_of ksn amount why, refl)
told_by_reply (state.Running (Some (Approved ksn amount))) why = inl refl
told_by_reply (state.Running (Some (Declined ksn cause))) why = inl refl
told_by_reply (state.Running (Some (Undone ksn))) why = inl refl

told_by_reversal : (it : TillState) → IsToldAtMost (undone_told it)
told_by_reversal state.Stopped = inl refl
told_by_reversal (state.Running None) = inl refl
told_by_reversal (state.Running (Some (Open ksn amount))) = inr (Undone ksn, refl)
told_by_reversal (state.Running (Some (Approved ksn amount))) = inl refl
told_by_reversal (state.Running (Some (Declined ksn cause))) = inl refl
told_by_reversal (state.Running (Some (Undone ksn))) = inl refl

told_by_restart : (it : TillState) → IsToldAtMost (last_told it)
told_by_restart state.Stopped = inl refl
told_by_restart (state.Running None) = inl refl
told_by_restart (state.Running (Some (Open ksn amount))) = inl refl
told_by_restart (state.Running (Some (Approved ksn amount))) = inr (Approved ksn amount, refl)
told_by_restart (state.Running (Some (Declined ksn why))) = inr (Declined ksn why, refl)
told_by_restart (state.Running (Some (Undone ksn))) = inr (Undone ksn, refl)

-- ---- each call

module _ {C J : Type 0} (laws : NumberLaws) (cell : CellMeaning C) (book : CellMeaning J) where
  record IsNumbered (history : List Entry) (till : TillOf C J) : Type 0 where
    past : IsPast laws cell history till.terminal
    numbers : TookNewNumbers history

  goes_on : (history : List Entry) (old new : TillOf C J) → IsNumbered history old → IsPast laws cell history new.terminal → IsNumbered history new
  goes_on history old new numbered past = record { past = past; numbers = numbered.numbers }

  stays : (history : List Entry) (old new : TillOf C J) → IsNumbered history old → new ≡ old → IsNumbered history new
  stays history old new numbered same = subst (IsNumbered history) (sym same) numbered

  tells : (history entries : List Entry) (new : TillOf C J) → IsToldAtMost entries → IsNumbered history new → IsNumbered (entries ++ history) new
  tells history entries new (inl none) numbered = subst (λ (it : List Entry). IsNumbered (it ++ history) new) (sym none) numbered
  tells history entries new (inr (last, is)) numbered =
      let longer : List Entry = Told last ∷ history in
      let same = λ (began : Payment) (is_in : Contains longer (Began began)). began_later last began history is_in in
      subst (λ (it : List Entry). IsNumbered (it ++ history) new) (sym is) (record {
        past = record {
          honest = numbered.past.honest;
          state = fewer_state history longer new.terminal.state same numbered.past.state;
          kept = λ kept found. fewer_kept history longer kept same (numbered.past.kept kept found);
        };
        numbers = numbered.numbers;
      })

  takes : (history : List Entry) (purchase : Purchase) (ksn : Serial) (frame : List ℕ) (old new : TillOf C J) → IsNumbered history old → IsBegunUnder cell purchase ksn frame old.terminal new.terminal
      → IsNumbered (Began (payment_of ksn purchase.amount) ∷ history) new
  takes history purchase ksn frame old new numbered is = record {
    past = begun laws cell history purchase ksn frame old.terminal new.terminal numbered.past is;
    numbers = (begun_anew laws cell history purchase ksn frame old.terminal new.terminal numbered.past is, numbered.numbers);
  }

  begin_fails : (history : List Entry) (purchase : Purchase) (why : TillFault) (old new : TillOf C J) → IsNumbered history old → TillBeginRefused cell book purchase old new why
      → IsNumbered (written (Begin purchase (Err why)) old ++ history) new
  begin_fails history purchase fault.Stopped old new numbered is = stays history old new numbered is.1
  begin_fails history purchase fault.Open old new numbered is = stays history old new numbered is.1
  begin_fails history purchase fault.NothingOpen old new numbered is = absurd is
  begin_fails history purchase (fault.Terminal why) old new numbered is = elim is.1 [
    | inl spent ↦ stays history old new numbered spent.2
    | inr refused ↦ goes_on history old new numbered (begin_refused laws cell history why old.terminal new.terminal numbered.past refused.0)
  ]
  begin_fails history purchase (fault.Store why) old new numbered is =
      subst (λ (it : List Entry). IsNumbered (it ++ history) new) (sym (begun_at_next laws.till cell purchase is.ksn is.frame old.terminal new.terminal is.terminal))
      (takes history purchase is.ksn is.frame old new numbered is.terminal)

  completed_till : (history : List Entry) (old new : TillOf C J) → IsNumbered history old → Completes old new → IsNumbered history new
  completed_till history old new numbered is = goes_on history old new numbered (completes laws cell history old.terminal new.terminal numbered.past is)

  reply_fails : (history : List Entry) (bytes : List ℕ) (why : TillFault) (old new : TillOf C J) → IsNumbered history old → TillReplyRefused book bytes old new why → IsNumbered history new
  reply_fails history bytes fault.Stopped old new numbered is = stays history old new numbered is.1
  reply_fails history bytes fault.Open old new numbered is = absurd is
  reply_fails history bytes fault.NothingOpen old new numbered is = stays history old new numbered is.1
  reply_fails history bytes (fault.Terminal why) old new numbered is = stays history old new numbered is.1
  reply_fails history bytes (fault.Store why) old new numbered is = completed_till history old new numbered is.terminal

  reverse_fails : (history : List Entry) (why : TillFault) (old new : TillOf C J) → IsNumbered history old → TillReverseRefused cell old new why → IsNumbered history new
  reverse_fails history fault.Stopped old new numbered is = stays history old new numbered is.1
  reverse_fails history fault.Open old new numbered is = absurd is
  reverse_fails history fault.NothingOpen old new numbered is = stays history old new numbered is.1
  reverse_fails history (fault.Terminal why) old new numbered is =
      goes_on history old new numbered (reversal_refused laws cell history is.0.0 why old.terminal new.terminal numbered.past is.0.3)
  reverse_fails history (fault.Store why) old new numbered is = absurd is

  reversal_reply_fails : (history : List Entry) (bytes : List ℕ) (why : TillFault) (old new : TillOf C J) → IsNumbered history old → TillReversalReplyRefused book bytes old new why → IsNumbered history new
  reversal_reply_fails history bytes fault.Stopped old new numbered is = stays history old new numbered is.1
  reversal_reply_fails history bytes fault.Open old new numbered is = absurd is
  reversal_reply_fails history bytes fault.NothingOpen old new numbered is = stays history old new numbered is.1
  reversal_reply_fails history bytes (fault.Terminal why) old new numbered is = stays history old new numbered is.1
  reversal_reply_fails history bytes (fault.Store why) old new numbered is = completed_till history old new numbered is.terminal

  restart_fails : (history : List Entry) (why : TillFault) (old new : TillOf C J) → IsNumbered history old → TillRestartRefused cell book old new why → IsNumbered history new
  restart_fails history (fault.Terminal why) old new numbered is = goes_on history old new numbered (restart_refused laws cell history why old.terminal new.terminal numbered.past is.0)
  restart_fails history (fault.Store why) old new numbered is = goes_on history old new numbered (restarted laws cell history old.terminal new.terminal numbered.past is.0)
  restart_fails history fault.Stopped old new numbered is = absurd is
  restart_fails history fault.Open old new numbered is = absurd is
  restart_fails history fault.NothingOpen old new numbered is = absurd is

  load_fails : (history : List Entry) (asked : Loading) (why : TillFault) (old new : TillOf C J) → IsNumbered history old → TillLoadRefused cell asked old new why → IsNumbered history new
  load_fails history asked fault.Stopped old new numbered is = stays history old new numbered is.1
  load_fails history asked fault.Open old new numbered is = stays history old new numbered is.1
  load_fails history asked fault.NothingOpen old new numbered is = absurd is
  load_fails history asked (fault.Terminal why) old new numbered is = goes_on history old new numbered (load_refused laws cell history asked why old.terminal new.terminal numbered.past is.1)
  load_fails history asked (fault.Store why) old new numbered is = absurd is

  after_call : (history : List Entry) (call : Call) (old new : TillOf C J) → IsNumbered history old → IsCalled cell book call old new → IsNumbered (written call old ++ history) new
  after_call history (Begin purchase (Ok it)) old new numbered is = takes history purchase it.ksn it.frame.items old new numbered is.terminal
  after_call history (Begin purchase (Err why)) old new numbered is = begin_fails history purchase why old new numbered is
  after_call history (Reply bytes (Ok (answer.Done why))) old new numbered is =
      tells history (outcome_told old.state why) new (told_by_reply old.state why) (completed_till history old new numbered is.terminal)
  after_call history (Reply bytes (Ok (answer.Refused reason))) old new numbered is = stays history old new numbered is.same
  after_call history (Reply bytes (Err why)) old new numbered is = reply_fails history bytes why old new numbered is
  after_call history (Reverse (Ok it)) old new numbered is =
      goes_on history old new numbered (reversing laws cell history is.reversed it.ksn it.frame.items old.terminal new.terminal numbered.past is.terminal)
  after_call history (Reverse (Err why)) old new numbered is = reverse_fails history why old new numbered is
  after_call history (ReversalReply bytes (Ok (reversal.Done found))) old new numbered is =
      tells history (undone_told old.state) new (told_by_reversal old.state) (completed_till history old new numbered is.terminal)
  after_call history (ReversalReply bytes (Ok (reversal.Refused reason))) old new numbered is = stays history old new numbered is.same
  after_call history (ReversalReply bytes (Err why)) old new numbered is = reversal_reply_fails history bytes why old new numbered is
  after_call history (Restart (Ok told)) old new numbered is =
      tells history (last_told told) new (told_by_restart told) (goes_on history old new numbered (restarted laws cell history old.terminal new.terminal numbered.past is.0.terminal))
  after_call history (Restart (Err why)) old new numbered is = restart_fails history why old new numbered is
  after_call history (Load asked (Ok done)) old new numbered is = goes_on history old new numbered (loaded laws cell history asked old.terminal new.terminal numbered.past is.terminal)
  after_call history (Load asked (Err why)) old new numbered is = load_fails history asked why old new numbered is
  after_call history (ArmTerminal steps) old new numbered is = goes_on history old new numbered (record {
    honest = is.stays.honest.0 numbered.past.honest;
    state = subst (StateBehind history) (sym is.terminal) numbered.past.state;
    kept = λ kept found. numbered.past.kept kept ((is.stays.found numbered.past.honest kept).0 found);
  })
  after_call history (ArmBook steps) old new numbered is = goes_on history old new numbered (subst (IsPast laws cell history) (sym is.terminal) numbered.past)
  after_call history Stop old new numbered is = goes_on history old new numbered (record {
    honest = is.cell_is.honest;
    state = stopped_behind laws cell history new.terminal.state is.terminal_stopped;
    kept = λ kept found. numbered.past.kept kept (is.cell_is.within kept found);
  })

  nothing_begun : (history : List Entry) → history ≡ [] → NothingBegun history
  nothing_begun history none began is_in = none_in (Began began) (subst (λ (it : List Entry). Contains it (Began began)) none is_in)

  none_behind : (history : List Entry) (kept : Kept) → history ≡ [] → KeptBehind history kept
  none_behind history None none = nothing_begun history none
  none_behind history (Some body) none = λ began is_in. absurd (nothing_begun history none began is_in)

  numbered_lifetime : (calls : List Call) (history : List Entry) (till : TillOf C J) → IsLifetime cell book calls history till → IsNumbered history till
  numbered_lifetime [] history till (made, none) = record {
    past = record {
      honest = made.cell_is.honest;
      state = stopped_behind laws cell history till.terminal.state made.terminal_stopped;
      kept = λ kept found. none_behind history kept none;
    };
    numbers = subst TookNewNumbers (sym none) tt;
  }
  numbered_lifetime (call ∷ before) history till (old, earlier, lifetime, is, history_is) =
      subst (λ (it : List Entry). IsNumbered it till) (sym history_is) (after_call earlier call old till (numbered_lifetime before earlier old lifetime) is)

  pub numbers_in_lifetime : (calls : List Call) (history : List Entry) (till : TillOf C J) → IsLifetime cell book calls history till → TookNewNumbers history
  numbers_in_lifetime calls history till lifetime = (numbered_lifetime calls history till lifetime).numbers
