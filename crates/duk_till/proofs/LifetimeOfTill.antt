-- What a till has told and what its book keeps, through its lifetime.
use Rattle.std.proofs.Common.{◌≡◌, ◌≢◌, ◌⊎◌, ◌<◌, ◌^◌, inl, inr, ℕ, List, [], ◌∷◌, ◌++◌, Option, Some, None, Ok, Err, IfSome, Contains, ap, arith, refl, subst, sym, ◌∙◌}
use Rattle.std.proofs.lemmas.Bool.Decides.{nat_tests}
use Rattle.duk_frame.specs.declared.code.Code.{Code}
use Rattle.duk_frame.specs.declared.code.Code.TheVariants as code
use Rattle.duk_store.specs.Cell.{CellMeaning, IsPut, Kept}
use Rattle.duk_store.specs.declared.fault.StoreFault.{StoreFault}
use Rattle.duk_term.specs.Begin.{IsBegunUnder}
use Rattle.duk_term.specs.Terminal.{TerminalOf, next_of, serial_of}
use Rattle.duk_term.specs.declared.answer.Answer.TheVariants as answer
use Rattle.duk_term.specs.declared.answer.Next.{Next}
use Rattle.duk_term.specs.declared.answer.Next.TheVariants as next
use Rattle.duk_term.specs.declared.answer.ReversalAnswer.TheVariants as reversal
use Rattle.duk_term.specs.declared.purchase.Purchase.{Purchase}
use Rattle.duk_term.specs.declared.state.Pending.{Pending}
use Rattle.duk_term.specs.declared.state.State.{State}
use Rattle.duk_term.specs.declared.state.State.TheVariants.{Loaded}
use Rattle.duk_tree.specs.Path.{IsUsable}
use Rattle.duk_tree.specs.Serial.{Serial, IsSerial}
use Rattle.duk_till.specs.Begin.{IsTillBegun, NumberIsLost, TillBeginRefused, opened}
use Rattle.duk_till.specs.History.{Began, Entry, IsEverToldAs, IsToldAlike, IsToldAs, IsToldOfBegun, NothingElseTold, NothingElseToldOf, Told, ToldIsKept, TookNewNumbers, payment_of}
use Rattle.duk_till.specs.Image.{IsLastBody, kept_of, last_bytes}
use Rattle.duk_till.specs.Last.{AreLastFields, outcome_of}
use Rattle.duk_till.specs.Lifetime.{ArmBook, ArmTerminal, Begin, Call, IsCalled, IsLifetime, Load, Reply, Restart, Reverse, ReversalReply, Stop, begun_at, last_told, outcome_told, undone_told, written}
use Rattle.duk_till.specs.Load.{TillLoadRefused}
use Rattle.duk_till.specs.Reply.{IsOutcomeKept, IsOutcomeLost, TillReplyRefused}
use Rattle.duk_till.specs.Restart.{BookRestartFailed, FoundLast, IsTillRestarted, TillRestartRefused}
use Rattle.duk_till.specs.Reversal.{IsUndoneKept, IsUndoneLost, TillReversalReplyRefused, TillReverseRefused}
use Rattle.duk_till.specs.Till.{IsAtRest, IsLastNotKept, SameBook, TillOf}
use Rattle.duk_till.specs.declared.fault.TillFault.{TillFault}
use Rattle.duk_till.specs.declared.fault.TillFault.TheVariants as fault
use Rattle.duk_till.specs.declared.last.Last.{Last}
use Rattle.duk_till.specs.declared.last.Last.TheVariants.{Open, Approved, Declined, Undone}
use Rattle.duk_till.specs.declared.last.Payment.{Payment}
use Rattle.duk_till.specs.declared.state.TillState.{TillState}
use Rattle.duk_till.specs.declared.state.TillState.TheVariants.{Stopped, Running}
use Rattle.duk_till.proofs.NotKept.{stays_honest}
use Rattle.duk_till.proofs.Histories.{AreToldAfterBegun, begun_before_told, begun_of_told, ever_told_as, none_in, nothing_else, open_told_as, other_begins, outcome_not_told, outcome_told_as, same_as_ever, told_alike_after_begin, told_alike_after_told, told_by_restart, undone_not_told, undone_told_as}

-- what is known of bodies and of numbers
pub record TillLaws : Type 0 where
  pub one_reading : (body : List ℕ) (one other : Last) → IsLastBody body one → IsLastBody body other → one ≡ other
  pub fits : (counter : ℕ) → IsUsable counter → counter < 2 ^ 21

-- ---- states

stopped_is_not_running : (state : TillState) (last : Option Last) → state ≡ Stopped → state ≢ Running last
stopped_is_not_running state last stopped runs = cc

same_last : (state : TillState) (one other : Option Last) → state ≡ Running one → state ≡ Running other → one ≡ other
same_last state one other is_one is_other = cc

-- ---- what a book may find

-- a book may find this, and nothing else was told
record IsFoundIn (history : List Entry) (kept : Kept) : Type 0 where
  last : Option Last
  kept_is : kept ≡ kept_of last
  fields : IfSome last AreLastFields
  told : NothingElseTold history last

-- what is found has one reading
one_last : TillLaws → (one other : Option Last) → IfSome one AreLastFields → IfSome other AreLastFields → kept_of one ≡ kept_of other → one ≡ other
one_last laws None None a b same = refl
one_last laws None (Some other) a b same = absurd (cc)
one_last laws (Some one) None a b same = absurd (cc)
one_last laws (Some one) (Some other) a b same =
    let bytes : last_bytes one ≡ last_bytes other = cc in
    ap Some (laws.one_reading (last_bytes one) one other (record { fields = a; laid_out = refl }) (record { fields = b; laid_out = bytes }))

told_of_found : TillLaws → (history : List Entry) (last : Option Last) → IfSome last AreLastFields → IsFoundIn history (kept_of last) → NothingElseTold history last
told_of_found laws history last fields found =
    subst (NothingElseTold history) (sym (one_last laws last found.last fields found.fields found.kept_is)) found.told

-- ---- fields

outcome_fields : (ksn : Serial) (amount : ℕ) (why : Code) → IsSerial ksn × (amount < 2 ^ 32) → AreLastFields (outcome_of ksn amount why)
outcome_fields ksn amount code.Approved fields = fields
outcome_fields ksn amount code.NoCard fields = (fields.0, λ same. absurd (cc))
outcome_fields ksn amount code.WrongPin fields = (fields.0, λ same. absurd (cc))
outcome_fields ksn amount code.OverLimit fields = (fields.0, λ same. absurd (cc))
outcome_fields ksn amount code.Unreadable fields = (fields.0, λ same. absurd (cc))

begun_fields : {C : Type 0} → TillLaws → (cell : CellMeaning C) (purchase : Purchase) (ksn : Serial) (frame : List ℕ) (old new : TerminalOf C) → IsBegunUnder cell purchase ksn frame old new
    → AreLastFields (opened ksn purchase)
begun_fields laws cell purchase ksn frame old new is =
    let takes = is.begun.takes.takes in
    let serial : IsSerial (serial_of is.begun.set) = record { iksn_is = takes.set_is.iksn_is; counter_fits = laws.fits is.begun.set.counter takes.usable } in
    (subst IsSerial (sym is.ksn_is) serial, is.begun.purchase_is.amount_fits)

-- ---- the number that a begin takes

-- registers with a number left take that next
next_is : (state : State) (set : _) (pending : Option Pending) → state ≡ Loaded set pending → set.counter < 2 ^ 21 → next_of state ≡ next.At (serial_of set)
next_is state set pending is fits = rw is (grind (arith, nat_tests))

pub begun_at_next : {C : Type 0} → TillLaws → (cell : CellMeaning C) (purchase : Purchase) (ksn : Serial) (frame : List ℕ) (old new : TerminalOf C) → IsBegunUnder cell purchase ksn frame old new
    → begun_at (next_of old.state) purchase.amount ≡ Began (payment_of ksn purchase.amount) ∷ []
begun_at_next laws cell purchase ksn frame old new is =
    let takes = is.begun.takes in
    let at : next_of old.state ≡ next.At ksn =
    next_is old.state is.begun.set takes.pending takes.had (laws.fits is.begun.set.counter takes.takes.usable) ∙ ap (λ (it : Serial). next.At it) (sym is.ksn_is) in
    ap (λ (it : Next). begun_at it purchase.amount) at

-- ---- calls

module _ {C J : Type 0} (laws : TillLaws) (cell : CellMeaning C) (book : CellMeaning J) where
  abbrev IsHonest : J → Type 0
  IsHonest it = (book.state_of it).honest

  -- a restart of the book may find only what agrees with all that was told
  abbrev FindsAsTold : List Entry → J → Type 0
  FindsAsTold history it = (kept : Kept) → (book.state_of it).found kept → IsFoundIn history kept

  record IsSound (history : List Entry) (till : TillOf C J) : Type 0 where
    honest : IsHonest till.book
    found : FindsAsTold history till.book
    runs : (last : Option Last) → till.state ≡ Running last → ToldIsKept history last × IfSome last AreLastFields

  -- ---- nothing is told, and nothing kept

  same_book : (history : List Entry) (old new : TillOf C J) → IsSound history old → SameBook old new → IsSound history new
  same_book history old new sound same = record {
    honest = subst IsHonest (sym same.book_is) sound.honest;
    found = subst (FindsAsTold history) (sym same.book_is) sound.found;
    runs = λ last is. sound.runs last (sym same.state_is ∙ is);
  }

  unchanged : (history : List Entry) (old new : TillOf C J) → IsSound history old → new ≡ old → IsSound history new
  unchanged history old new sound same = subst (IsSound history) (sym same) sound

  is_stopped : (history : List Entry) (till : TillOf C J) → IsHonest till.book → FindsAsTold history till.book → till.state ≡ Stopped → IsSound history till
  is_stopped history till honest found stopped = record {
    honest = honest;
    found = found;
    runs = λ last runs. absurd (stopped_is_not_running till.state last stopped runs);
  }

  -- ---- a last purchase is kept, or not

  is_running : (history : List Entry) (till : TillOf C J) (last : Option Last) → IsHonest till.book → ((kept : Kept) → (book.state_of till.book).found kept → kept ≡ kept_of last) → till.state ≡ Running last
      → ToldIsKept history last → IfSome last AreLastFields → IsSound history till
  is_running history till last honest only state told fields = record {
    honest = honest;
    found = λ kept found. record { last = last; kept_is = only kept found; fields = fields; told = nothing_else history last told };
    runs = λ other runs.
        let same : last ≡ other = same_last till.state last other state runs in
        subst (λ (it : Option Last). ToldIsKept history it × IfSome it AreLastFields) same (told, fields);
  }

  is_kept : (history : List Entry) (before : J) (till : TillOf C J) (last : Last) → IsHonest before → IsPut book before till.book (last_bytes last) → till.state ≡ Running (Some last)
      → IsToldAs history last → AreLastFields last → IsSound history till
  is_kept history before till last honest put state told fields =
      is_running history till (Some last) (put.settles.nature.honest.0 honest) (λ kept found. (put.settles.finds honest kept).0 found) state told fields

  is_not_kept :
      (history : List Entry) (last : Last) (before : Option Last) (old : J) (till : TillOf C J) (why : StoreFault) → IsHonest old → IsLastNotKept book last before old till.book till.state why
      → IsFoundIn history (kept_of before) → IsFoundIn history (kept_of (Some last)) → IsSound history till
  is_not_kept history last before old till why honest not known new =
      is_stopped history till (stays_honest book old till.book (last_bytes last) why not.not_kept honest)
      (λ kept found. elim (not.within honest kept found) [
        | inl as_before ↦ subst (IsFoundIn history) (sym as_before) known
        | inr is_new ↦ subst (IsFoundIn history) (sym is_new) new
      ])
      not.stopped

  -- what a running till has may be found
  running_is_found : (history : List Entry) (till : TillOf C J) (last : Option Last) → IsSound history till → till.state ≡ Running last → IsFoundIn history (kept_of last)
  running_is_found history till last sound runs =
      let known = sound.runs last runs in
      record { last = last; kept_is = refl; fields = known.1; told = nothing_else history last known.0 }

  -- ---- begin

  begun : (history : List Entry) (purchase : Purchase) (ksn : Serial) (frame : List ℕ) (old new : TillOf C J) → IsSound history old → IsTillBegun cell book purchase ksn frame old new
      → IsSound (Began (payment_of ksn purchase.amount) ∷ history) new
  begun history purchase ksn frame old new sound is =
      is_kept (Began (payment_of ksn purchase.amount) ∷ history) old.book new (opened ksn purchase) sound.honest is.kept is.state_is
      (open_told_as history ksn purchase.amount) (begun_fields laws cell purchase ksn frame old.terminal new.terminal is.terminal)

  closed_at_rest : (state : TillState) (last : Option Last) → IsAtRest state → state ≡ Running last → (ksn : Serial) (amount : ℕ) → last ≢ Some (Open ksn amount)
  closed_at_rest state last rest runs ksn amount same = rest.closed ksn amount (same_last state rest.last last rest.runs runs ∙ same)

  number_lost : (history : List Entry) (purchase : Purchase) (old new : TillOf C J) (why : StoreFault) → IsSound history old → NumberIsLost cell book purchase old new why
      → IsSound (begun_at (next_of old.terminal.state) purchase.amount ++ history) new
  number_lost history purchase old new why sound lost =
      let began : Payment = payment_of lost.ksn purchase.amount in
      let longer : List Entry = Began began ∷ history in
      let known = running_is_found history old lost.before sound lost.was in
      let closed = closed_at_rest old.state lost.before lost.was_at_rest lost.was in
      let last : Last = opened lost.ksn purchase in
      subst (λ (l : List Entry). IsSound (l ++ history) new)
      (sym (begun_at_next laws cell purchase lost.ksn lost.frame old.terminal new.terminal lost.terminal))
      (is_not_kept longer last lost.before old.book new why sound.honest lost.not_kept
      (record { last = lost.before; kept_is = refl; fields = (sound.runs lost.before lost.was).1; told = other_begins began history lost.before closed (nothing_else history lost.before (sound.runs lost.before lost.was).0) })
      (record {
        last = Some last;
        kept_is = refl;
        fields = begun_fields laws cell purchase lost.ksn lost.frame old.terminal new.terminal lost.terminal;
        told = nothing_else longer (Some last) (open_told_as history lost.ksn purchase.amount);
      }))

  begin_refused : (history : List Entry) (purchase : Purchase) (why : TillFault) (old new : TillOf C J) → IsSound history old → TillBeginRefused cell book purchase old new why
      → IsSound (written (Begin purchase (Err why)) old ++ history) new
  begin_refused history purchase fault.Stopped old new sound is = unchanged history old new sound is.1
  begin_refused history purchase fault.Open old new sound is = unchanged history old new sound is.1
  begin_refused history purchase fault.NothingOpen old new sound is = absurd is
  begin_refused history purchase (fault.Terminal why) old new sound is = elim is.1 [
    | inl spent ↦ unchanged history old new sound spent.2
    | inr refused ↦ same_book history old new sound refused.1
  ]
  begin_refused history purchase (fault.Store why) old new sound is = number_lost history purchase old new why sound is

  -- ---- what became of an open purchase

  -- what is known of an open purchase
  open_is : (history : List Entry) (old : TillOf C J) (ksn : Serial) (amount : ℕ) → IsSound history old → old.state ≡ Running (Some (Open ksn amount))
      → NothingElseToldOf history (Open ksn amount) × (IsSerial ksn × (amount < 2 ^ 32))
  open_is history old ksn amount sound is =
      let known = sound.runs (Some (Open ksn amount)) is in
      (nothing_else history (Some (Open ksn amount)) known.0, known.1)

  outcome_kept : (history : List Entry) (bytes : List ℕ) (why : Code) (old new : TillOf C J) → IsSound history old → IsOutcomeKept book bytes why old new → IsSound (outcome_told old.state why ++ history) new
  outcome_kept history bytes why old new sound is =
      let was = open_is history old is.ksn is.amount sound is.was_open in
      let last : Last = outcome_of is.ksn is.amount why in
      subst (λ (it : TillState). IsSound (outcome_told it why ++ history) new) (sym is.was_open)
      (is_kept (Told last ∷ history) old.book new last sound.honest is.kept is.state_is (outcome_told_as history is.ksn is.amount why was.0) (outcome_fields is.ksn is.amount why was.1))

  outcome_lost : (history : List Entry) (bytes : List ℕ) (why : StoreFault) (old new : TillOf C J) → IsSound history old → IsOutcomeLost book bytes old new why → IsSound history new
  outcome_lost history bytes why old new sound is =
      let was = open_is history old is.ksn is.amount sound is.was_open in
      let before : Option Last = Some (Open is.ksn is.amount) in
      let last : Last = outcome_of is.ksn is.amount is.code in
      is_not_kept history last before old.book new why sound.honest is.not_kept (running_is_found history old before sound is.was_open)
      (record { last = Some last; kept_is = refl; fields = outcome_fields is.ksn is.amount is.code was.1; told = outcome_not_told history is.ksn is.amount is.code was.0 })

  reply_refused : (history : List Entry) (bytes : List ℕ) (why : TillFault) (old new : TillOf C J) → IsSound history old → TillReplyRefused book bytes old new why → IsSound history new
  reply_refused history bytes fault.Stopped old new sound is = unchanged history old new sound is.1
  reply_refused history bytes fault.Open old new sound is = absurd is
  reply_refused history bytes fault.NothingOpen old new sound is = unchanged history old new sound is.1
  reply_refused history bytes (fault.Terminal why) old new sound is = unchanged history old new sound is.1
  reply_refused history bytes (fault.Store why) old new sound is = outcome_lost history bytes why old new sound is

  reverse_refused : (history : List Entry) (why : TillFault) (old new : TillOf C J) → IsSound history old → TillReverseRefused cell old new why → IsSound history new
  reverse_refused history fault.Stopped old new sound is = unchanged history old new sound is.1
  reverse_refused history fault.Open old new sound is = absurd is
  reverse_refused history fault.NothingOpen old new sound is = unchanged history old new sound is.1
  reverse_refused history (fault.Terminal why) old new sound is = same_book history old new sound is.1
  reverse_refused history (fault.Store why) old new sound is = absurd is

  undone_kept : (history : List Entry) (bytes : List ℕ) (found : _) (old new : TillOf C J) → IsSound history old → IsUndoneKept book bytes found old new → IsSound (undone_told old.state ++ history) new
  undone_kept history bytes found old new sound is =
      let was = open_is history old is.reversed is.amount sound is.was_open in
      let last : Last = Undone is.reversed in
      subst (λ (it : TillState). IsSound (undone_told it ++ history) new) (sym is.was_open)
      (is_kept (Told last ∷ history) old.book new last sound.honest is.kept is.state_is (undone_told_as history is.reversed is.amount was.0) was.1.0)

  undone_lost : (history : List Entry) (bytes : List ℕ) (why : StoreFault) (old new : TillOf C J) → IsSound history old → IsUndoneLost book bytes old new why → IsSound history new
  undone_lost history bytes why old new sound is =
      let was = open_is history old is.reversed is.amount sound is.was_open in
      let before : Option Last = Some (Open is.reversed is.amount) in
      let last : Last = Undone is.reversed in
      is_not_kept history last before old.book new why sound.honest is.not_kept (running_is_found history old before sound is.was_open)
      (record { last = Some last; kept_is = refl; fields = was.1.0; told = undone_not_told history is.reversed is.amount was.0 })

  reversal_reply_refused : (history : List Entry) (bytes : List ℕ) (why : TillFault) (old new : TillOf C J) → IsSound history old → TillReversalReplyRefused book bytes old new why → IsSound history new
  reversal_reply_refused history bytes fault.Stopped old new sound is = unchanged history old new sound is.1
  reversal_reply_refused history bytes fault.Open old new sound is = absurd is
  reversal_reply_refused history bytes fault.NothingOpen old new sound is = unchanged history old new sound is.1
  reversal_reply_refused history bytes (fault.Terminal why) old new sound is = unchanged history old new sound is.1
  reversal_reply_refused history bytes (fault.Store why) old new sound is = undone_lost history bytes why old new sound is

  -- ---- restart

  -- what a restart found agrees with all that was told
  found_is_known : (history : List Entry) (old : TillOf C J) (new : J) (last : Option Last) → IsSound history old → FoundLast book old.book new last → NothingElseTold history last
  found_is_known history old new last sound is = told_of_found laws history last is.fields (sound.found (kept_of last) (is.cell.was_found sound.honest))

  found_as_kept : (history : List Entry) (old new : TillOf C J) (last : Option Last) → IsSound history old → FoundLast book old.book new.book last → new.state ≡ Running last
      → IsSound (last_told (Running last) ++ history) new
  found_as_kept history old new last sound is state =
      is_running (last_told (Running last) ++ history) new last (is.cell.settles.nature.honest.0 sound.honest) (λ kept found. (is.cell.settles.finds sound.honest kept).0 found) state
      (told_by_restart history last (found_is_known history old new.book last sound is)) is.fields

  restarted : (history : List Entry) (told : TillState) (old new : TillOf C J) → IsSound history old → IsTillRestarted cell book old new → told ≡ new.state → IsSound (last_told told ++ history) new
  restarted history told old new sound is told_is =
      subst (λ (it : TillState). IsSound (last_told it ++ history) new) (sym (told_is ∙ is.state_is)) (found_as_kept history old new is.last sound is.found is.state_is)

  book_failed : (history : List Entry) (old new : TillOf C J) (why : StoreFault) → IsSound history old → BookRestartFailed book old.book new.book why → new.state ≡ Stopped → IsSound history new
  book_failed history old new why sound is stopped = elim is [
    | inl failed ↦
        let stops = failed.cell.stops in
        is_stopped history new (stops.nature.honest.0 sound.honest) (λ kept found. sound.found kept (stops.within sound.honest kept found)) stopped
    | inr none ↦
        let cell = none.1.cell in
        is_stopped history new (cell.settles.nature.honest.0 sound.honest)
        (λ kept found. subst (IsFoundIn history) (sym ((cell.settles.finds sound.honest kept).0 found)) (sound.found (Some none.1.bytes) (cell.was_found sound.honest)))
        stopped
  ]

  restart_refused : (history : List Entry) (why : TillFault) (old new : TillOf C J) → IsSound history old → TillRestartRefused cell book old new why → IsSound history new
  restart_refused history (fault.Terminal why) old new sound is =
      is_stopped history new (subst IsHonest (sym is.1) sound.honest) (subst (FindsAsTold history) (sym is.1) sound.found) is.2
  restart_refused history (fault.Store why) old new sound is = book_failed history old new why sound is.1 is.2
  restart_refused history fault.Stopped old new sound is = absurd is
  restart_refused history fault.Open old new sound is = absurd is
  restart_refused history fault.NothingOpen old new sound is = absurd is

  -- ---- the other calls

  load_refused : (history : List Entry) (asked : _) (why : TillFault) (old new : TillOf C J) → IsSound history old → TillLoadRefused cell asked old new why → IsSound history new
  load_refused history asked fault.Stopped old new sound is = unchanged history old new sound is.1
  load_refused history asked fault.Open old new sound is = unchanged history old new sound is.1
  load_refused history asked fault.NothingOpen old new sound is = absurd is
  load_refused history asked (fault.Terminal why) old new sound is = same_book history old new sound is.2
  load_refused history asked (fault.Store why) old new sound is = absurd is

  -- ---- each call

  called : (history : List Entry) (call : Call) (old new : TillOf C J) → IsSound history old → IsCalled cell book call old new → IsSound (written call old ++ history) new
  called history (Begin purchase (Ok it)) old new sound is = begun history purchase it.ksn it.frame.items old new sound is
  called history (Begin purchase (Err why)) old new sound is = begin_refused history purchase why old new sound is
  called history (Reply bytes (Ok (answer.Done why))) old new sound is = outcome_kept history bytes why old new sound is
  called history (Reply bytes (Ok (answer.Refused reason))) old new sound is = unchanged history old new sound is.same
  called history (Reply bytes (Err why)) old new sound is = reply_refused history bytes why old new sound is
  called history (Reverse (Ok it)) old new sound is = same_book history old new sound is.same_book
  called history (Reverse (Err why)) old new sound is = reverse_refused history why old new sound is
  called history (ReversalReply bytes (Ok (reversal.Done found))) old new sound is = undone_kept history bytes found old new sound is
  called history (ReversalReply bytes (Ok (reversal.Refused reason))) old new sound is = unchanged history old new sound is.same
  called history (ReversalReply bytes (Err why)) old new sound is = reversal_reply_refused history bytes why old new sound is
  called history (Restart (Ok told)) old new sound is = restarted history told old new sound is.0 is.1
  called history (Restart (Err why)) old new sound is = restart_refused history why old new sound is
  called history (Load asked (Ok done)) old new sound is = same_book history old new sound is.same_book
  called history (Load asked (Err why)) old new sound is = load_refused history asked why old new sound is
  called history (ArmTerminal steps) old new sound is = same_book history old new sound is.same_book
  called history (ArmBook steps) old new sound is = record {
    honest = is.stays.honest.0 sound.honest;
    found = λ kept found. sound.found kept ((is.stays.found sound.honest kept).0 found);
    runs = λ last runs. sound.runs last (sym is.state ∙ runs);
  }
  called history Stop old new sound is = is_stopped history new is.book_is.honest (λ kept found. sound.found kept (is.book_is.within kept found)) is.stopped

  sound_lifetime : (calls : List Call) (history : List Entry) (till : TillOf C J) → IsLifetime cell book calls history till → IsSound history till
  sound_lifetime [] history till (made, none) =
      is_stopped history till made.book_is.honest
      (λ kept found. record {
        last = None;
        kept_is = made.book_is.within kept found;
        fields = tt;
        told = λ told is_in. none_in (Told told) (subst (λ (l : List Entry). Contains l (Told told)) none is_in);
      })
      made.stopped
  sound_lifetime (call ∷ before) history till (old, earlier, lifetime, is, history_is) =
      subst (λ (it : List Entry). IsSound it till) (sym history_is) (called earlier call old till (sound_lifetime before earlier old lifetime) is)

  -- ---- what a call writes

  -- nothing, or that a purchase began, or what the till now has
  abbrev Wrote : List Entry → TillState → Type 0
  Wrote entries state =
      (entries ≡ []) ⊎ (((began : Payment) × (entries ≡ Began began ∷ [])) ⊎ ((last : Last) × (entries ≡ Told last ∷ []) × (state ≡ Running (Some last))))

  wrote_nothing : (state : TillState) → Wrote [] state
  wrote_nothing state = inl refl

  wrote_by_begin : (purchase : Purchase) (why : TillFault) (old new : TillOf C J) → TillBeginRefused cell book purchase old new why → Wrote (written (Begin purchase (Err why)) old) new.state
  wrote_by_begin purchase (fault.Store why) old new is = inr (inl (payment_of is.ksn purchase.amount, begun_at_next laws cell purchase is.ksn is.frame old.terminal new.terminal is.terminal))
  wrote_by_begin purchase fault.Stopped old new is = wrote_nothing new.state
  wrote_by_begin purchase fault.Open old new is = wrote_nothing new.state
  wrote_by_begin purchase fault.NothingOpen old new is = wrote_nothing new.state
  wrote_by_begin purchase (fault.Terminal why) old new is = wrote_nothing new.state

  wrote_by_restart : (state : TillState) (last : Option Last) → state ≡ Running last → Wrote (last_told (Running last)) state
  wrote_by_restart state None is = wrote_nothing state
  wrote_by_restart state (Some (Open ksn amount)) is = wrote_nothing state
  wrote_by_restart state (Some (Approved ksn amount)) is = inr (inr (Approved ksn amount, refl, is))
  wrote_by_restart state (Some (Declined ksn why)) is = inr (inr (Declined ksn why, refl, is))
  wrote_by_restart state (Some (Undone ksn)) is = inr (inr (Undone ksn, refl, is))

  wrote : (call : Call) (old new : TillOf C J) → IsCalled cell book call old new → Wrote (written call old) new.state
  wrote (Begin purchase (Ok it)) old new is = inr (inl (payment_of it.ksn purchase.amount, refl))
  wrote (Begin purchase (Err why)) old new is = wrote_by_begin purchase why old new is
  wrote (Reply bytes (Ok (answer.Done why))) old new is = inr (inr (outcome_of is.ksn is.amount why, ap (λ (it : TillState). outcome_told it why) is.was_open, is.state_is))
  wrote (Reply bytes (Ok (answer.Refused reason))) old new is = wrote_nothing new.state
  wrote (Reply bytes (Err why)) old new is = wrote_nothing new.state
  wrote (Reverse it) old new is = wrote_nothing new.state
  wrote (ReversalReply bytes (Ok (reversal.Done found))) old new is = inr (inr (Undone is.reversed, ap undone_told is.was_open, is.state_is))
  wrote (ReversalReply bytes (Ok (reversal.Refused reason))) old new is = wrote_nothing new.state
  wrote (ReversalReply bytes (Err why)) old new is = wrote_nothing new.state
  wrote (Restart (Ok told)) old new is =
      subst (λ (it : TillState). Wrote (last_told it) new.state) (sym (is.1 ∙ is.0.state_is)) (wrote_by_restart new.state is.0.last is.0.state_is)
  wrote (Restart (Err why)) old new is = wrote_nothing new.state
  wrote (Load asked gave) old new is = wrote_nothing new.state
  wrote (ArmTerminal steps) old new is = wrote_nothing new.state
  wrote (ArmBook steps) old new is = wrote_nothing new.state
  wrote Stop old new is = wrote_nothing new.state

  -- ---- numbers

  record IsToldOnce (history : List Entry) : Type 0 where
    after : AreToldAfterBegun history
    alike : TookNewNumbers history → IsToldAlike history

  told_once_more : (earlier : List Entry) (new : TillOf C J) (last : Last) → IsToldOnce earlier → IsSound (Told last ∷ earlier) new → new.state ≡ Running (Some last) → IsToldOnce (Told last ∷ earlier)
  told_once_more earlier new last once sound state =
      let is : IsToldAs (Told last ∷ earlier) last = (sound.runs (Some last) state).0 in
      let after : AreToldAfterBegun (Told last ∷ earlier) = (begun_before_told earlier last is, once.after) in
      record {
        after = after;
        alike = λ numbers.
            let ever : IsEverToldAs (Told last ∷ earlier) last = ever_told_as (Told last ∷ earlier) last numbers after (nothing_else (Told last ∷ earlier) (Some last) is) in
            told_alike_after_told last earlier (same_as_ever (Told last ∷ earlier) last ever) (once.alike numbers);
      }

  once_after : (entries earlier : List Entry) (new : TillOf C J) → Wrote entries new.state → IsToldOnce earlier → IsSound (entries ++ earlier) new → IsToldOnce (entries ++ earlier)
  once_after entries earlier new (inl none) once sound = subst (λ (it : List Entry). IsToldOnce (it ++ earlier)) (sym none) once
  once_after entries earlier new (inr (inl (began, is))) once sound =
      subst (λ (it : List Entry). IsToldOnce (it ++ earlier)) (sym is) (record { after = once.after; alike = λ numbers. told_alike_after_begin began earlier (once.alike numbers.1) })
  once_after entries earlier new (inr (inr (last, is, state))) once sound =
      subst (λ (it : List Entry). IsToldOnce (it ++ earlier)) (sym is)
      (told_once_more earlier new last once (subst (λ (it : List Entry). IsSound (it ++ earlier) new) is sound) state)

  told_once_in_lifetime : (calls : List Call) (history : List Entry) (till : TillOf C J) → IsLifetime cell book calls history till → IsToldOnce history
  told_once_in_lifetime [] history till (made, none) = subst IsToldOnce (sym none) (record { after = tt; alike = λ numbers one other in_one. absurd (none_in (Told one) in_one) })
  told_once_in_lifetime (call ∷ before) history till (old, earlier, lifetime, is, history_is) =
      subst IsToldOnce (sym history_is)
      (once_after (written call old) earlier till (wrote call old till is) (told_once_in_lifetime before earlier old lifetime) (called earlier call old till (sound_lifetime before earlier old lifetime) is))

  -- ---- the laws

  pub kept_in_lifetime : (calls : List Call) (history : List Entry) (till : TillOf C J) (last : Option Last) → IsLifetime cell book calls history till → till.state ≡ Running last → ToldIsKept history last
  kept_in_lifetime calls history till last lifetime runs = ((sound_lifetime calls history till lifetime).runs last runs).0

  pub found_in_lifetime : (calls : List Call) (history : List Entry) (till : TillOf C J) (kept : Kept) → IsLifetime cell book calls history till → (book.state_of till.book).found kept
      → (last : Option Last) × (kept ≡ kept_of last) × NothingElseTold history last
  found_in_lifetime calls history till kept lifetime found =
      let is = (sound_lifetime calls history till lifetime).found kept found in
      (is.last, is.kept_is, is.told)

  pub begun_in_lifetime : (calls : List Call) (history : List Entry) (till : TillOf C J) → IsLifetime cell book calls history till → IsToldOfBegun history
  begun_in_lifetime calls history till lifetime = begun_of_told history (told_once_in_lifetime calls history till lifetime).after

  pub alike_in_lifetime : (calls : List Call) (history : List Entry) (till : TillOf C J) → IsLifetime cell book calls history till → TookNewNumbers history → IsToldAlike history
  alike_in_lifetime calls history till lifetime = (told_once_in_lifetime calls history till lifetime).alike

  pub ever_in_lifetime : (calls : List Call) (history : List Entry) (till : TillOf C J) (last : Last) → IsLifetime cell book calls history till → TookNewNumbers history → till.state ≡ Running (Some last)
      → IsEverToldAs history last
  ever_in_lifetime calls history till last lifetime numbers runs =
      ever_told_as history last numbers (told_once_in_lifetime calls history till lifetime).after (nothing_else history (Some last) (kept_in_lifetime calls history till (Some last) lifetime runs))
