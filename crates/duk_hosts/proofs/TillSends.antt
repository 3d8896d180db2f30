-- What holds of a till holds after it began a purchase or sent a reversal, or did not.
use Rattle.std.proofs.Common.{◌≡◌, ◌++◌, ◌∷◌, [], ℕ, List, Option, Some, Ok, Err, IfSome, Contains, inl, inr, refl, sym, ap, subst, ◌∙◌, arith}
use Rattle.std.proofs.lemmas.List.Elements.{Contains-append_right}
use Rattle.duk_frame.specs.Payment.{request_of}
use Rattle.duk_frame.specs.Request.{IsRequest}
use Rattle.duk_reversal.specs.Authentic.{reversal_of}
use Rattle.duk_reversal.specs.Reversal.{IsReversal}
use Rattle.duk_store.specs.Cell.{CellMeaning, Kept}
use Rattle.duk_store.specs.declared.fault.StoreFault.{StoreFault}
use Rattle.duk_term.specs.Begin.{IsBegun}
use Rattle.duk_term.specs.Reply.{IsPending}
use Rattle.duk_term.specs.Reversal.{IsReversalBegun, ReversalRefused, numbers_of}
use Rattle.duk_term.specs.Terminal.{TerminalOf, next_of, serial_of}
use Rattle.duk_term.specs.declared.answer.Begun.{Begun}
use Rattle.duk_term.specs.declared.answer.Next.{Next}
use Rattle.duk_term.specs.declared.answer.Next.TheVariants as next
use Rattle.duk_term.specs.declared.fault.TermFault.{TermFault}
use Rattle.duk_term.specs.declared.fault.TermFault.TheVariants as term_fault
use Rattle.duk_term.specs.declared.purchase.Purchase.{Purchase}
use Rattle.duk_term.specs.declared.state.Pending.{Pending}
use Rattle.duk_term.specs.declared.state.State.{State}
use Rattle.duk_term.specs.declared.state.State.TheVariants as term_state
use Rattle.duk_till.specs.Begin.{IsTillBegun, NumberIsLost, TillBeginRefused, opened}
use Rattle.duk_till.specs.History.{Began, Entry, IsEverToldAs, IsToldOfBegun, ToldIsKept, TookNewNumbers, payment_of}
use Rattle.duk_till.specs.Image.{kept_of, last_bytes}
use Rattle.duk_till.specs.Last.{AreLastFields, number_of}
use Rattle.duk_till.specs.Lifetime.{Begin, Call, IsLifetime, Reverse, begun_at, written}
use Rattle.duk_till.specs.Reversal.{IsTillReversing, TillReverseRefused}
use Rattle.duk_till.specs.Till.{SameBook, TillOf}
use Rattle.duk_till.specs.declared.fault.TillFault.{TillFault}
use Rattle.duk_till.specs.declared.fault.TillFault.TheVariants as fault
use Rattle.duk_till.specs.declared.last.Last.{Last}
use Rattle.duk_till.specs.declared.last.Last.TheVariants.{Open}
use Rattle.duk_till.specs.declared.last.Payment.{Payment}
use Rattle.duk_till.specs.declared.state.TillState.TheVariants.{Running}
use Rattle.duk_tree.specs.Serial.{IsSerial, Serial}
use Rattle.duk_hosts.specs.Tills.{all_sent, sent_by}
use Rattle.duk_hosts.proofs.Members.{first_in, later_in}
use Rattle.duk_hosts.proofs.Sent.{FrameLaws, IsCalledBack, IsKnown, asked_before, asked_by_no_reversal, asked_or_now, back_before, back_by_no_request, back_or_now, known_on}
use Rattle.duk_hosts.proofs.TillHolds.{Holds, IsInDoubt, OneReading, found_then, goes_on, known_alone, not_open_at_rest, one_last, same_last, same_open, stays_honest, stopped_is_not_running, told_before_begin, told_on, unchanged}

-- ---- terminals

stopped_pends_nothing : (state : State) (pending : Pending) → state ≡ term_state.Stopped → ¬ IsPending state pending
stopped_pends_nothing state pending stopped (set, is) = absurd (cc)

same_pending : (state : State) (set : _) (one other : Pending) → state ≡ term_state.Loaded set (Some one) → IsPending state other → one ≡ other
same_pending state set one other is (more, waits) = cc

reversal_pends : {C : Type 0} (cell : CellMeaning C) (reversed : Serial) (why : TermFault) (old new : TerminalOf C) (pending : Pending) → ReversalRefused cell reversed old new why → IsPending new.state pending → IsPending old.state pending
reversal_pends cell reversed term_fault.Stopped old new pending is waits = subst (λ it. IsPending it.state pending) is.1 waits
reversal_pends cell reversed term_fault.NotLoaded old new pending is waits = subst (λ it. IsPending it.state pending) is.1 waits
reversal_pends cell reversed term_fault.Spent old new pending is waits = subst (λ it. IsPending it.state pending) is.1 waits
reversal_pends cell reversed term_fault.NotMine old new pending is waits = subst (λ it. IsPending it.state pending) is.1 waits
reversal_pends cell reversed (term_fault.Store why) old new pending is waits = absurd (stopped_pends_nothing new.state pending is.stopped.stops.stopped waits)
reversal_pends cell reversed _ old new pending is waits = absurd is

-- what is known of tills and of their frames
pub record TillLaws {C J : Type 0} (cell : CellMeaning C) (book : CellMeaning J) : Type 0 where
  pub frames : FrameLaws
  pub reading : OneReading
  pub kept : (calls : List Call) (history : List Entry) (till : TillOf C J) (last : Option Last) → IsLifetime cell book calls history till → till.state ≡ Running last → ToldIsKept history last
  pub begun : (calls : List Call) (history : List Entry) (till : TillOf C J) → IsLifetime cell book calls history till → IsToldOfBegun history
  pub numbers : (calls : List Call) (history : List Entry) (till : TillOf C J) → IsLifetime cell book calls history till → TookNewNumbers history
  pub ever : (calls : List Call) (history : List Entry) (till : TillOf C J) (last : Last) → IsLifetime cell book calls history till → till.state ≡ Running (Some last) → IsEverToldAs history last
  pub request : (purchase : Purchase) (old new : TerminalOf C) (frame : List ℕ) → (begun : IsBegun cell purchase old new frame)
      → IsRequest frame (request_of begun.key (serial_of begun.set) purchase.pan purchase.pin purchase.amount)
  pub reversal : (reversed ksn : Serial) (frame : List ℕ) (old new : TerminalOf C) → (begun : IsReversalBegun cell reversed ksn frame old new) → IsReversal frame (reversal_of begun.key (numbers_of begun.set reversed))

module _ {C J : Type 0} (cell : CellMeaning C) (book : CellMeaning J) (laws : TillLaws cell book) where
  abbrev After : List Call → List Entry → TillOf C J → Type 0
  After calls history till = Holds laws.reading book calls history till

  -- ---- a purchase begins

  begun_fields : (purchase : Purchase) (ksn : Serial) (frame : List ℕ) (old new : TillOf C J) → IsTillBegun cell book purchase ksn frame old new → AreLastFields (opened ksn purchase)
  begun_fields purchase ksn frame old new is =
      let request = laws.request purchase old.terminal new.terminal frame is.terminal.begun in
      (subst IsSerial (sym is.terminal.ksn_is) request.fields.ksn_is, request.fields.amount_fits)

  pub begins : (purchase : Purchase) (it : Begun) (calls : List Call) (history : List Entry) (old new : TillOf C J) → TookNewNumbers (Began (payment_of it.ksn purchase.amount) ∷ history) → After calls history old
      → IsTillBegun cell book purchase it.ksn it.frame.items old new → After (Begin purchase (Ok it) ∷ calls) (Began (payment_of it.ksn purchase.amount) ∷ history) new
  begins purchase it calls history old new fresh holds is =
      let call = Begin purchase (Ok it) in
      let frame = it.frame.items in
      let began : Payment = payment_of it.ksn purchase.amount in
      let request = laws.request purchase old.terminal new.terminal frame is.terminal.begun in
      let fields : AreLastFields (opened it.ksn purchase) = begun_fields purchase it.ksn frame old new is in
      let before = λ (ksn : Serial) (back : IsCalledBack (all_sent (call ∷ calls)) ksn). back_by_no_request laws.frames call calls frame refl _ ksn request back in
      let not_back : ¬ IsCalledBack (all_sent calls) it.ksn = λ back. let was = holds.called_back it.ksn back in fresh.0 (payment_of it.ksn was.0) was.1 refl in
      let only = λ (kept : Kept) (found : (book.state_of new.book).found kept). (is.kept.settles.finds holds.honest kept).0 found in
      record {
        honest = is.kept.settles.nature.honest.0 holds.honest;
        told = λ last told. let was = holds.told last (told_before_begin began last history told) in (was.0, known_on call calls last (λ ksn amount same. before ksn) was.1);
        runs = λ last runs. subst (λ (it : Option Last). IfSome it AreLastFields × IfSome it (IsKnown (call ∷ calls))) (same_last new.state (Some (opened it.ksn purchase)) last is.state_is runs) (fields, tt);
        only = λ last runs kept found. only kept found ∙ ap kept_of (same_last new.state (Some (opened it.ksn purchase)) last is.state_is runs);
        found = λ last known found. known_alone laws.reading (call ∷ calls) (Some (opened it.ksn purchase)) last fields tt known (only (Some (last_bytes last)) found);
        waits = λ ksn amount pending opens waits number back.
            let same = same_open it.ksn ksn purchase.amount amount (same_last new.state (Some (opened it.ksn purchase)) (Some (Open ksn amount)) is.state_is opens) in
            not_back (subst (λ (number : Serial). IsCalledBack (all_sent calls) number) (sym same.0) (before ksn back));
        asked = λ ksn amount asked. elim (asked_or_now laws.frames call calls frame refl _ ksn amount request asked) [
          | inl was ↦ later_in (Began began) history (Began (payment_of ksn amount)) (holds.asked ksn amount was)
          | inr now ↦
              let same : began ≡ payment_of ksn amount = ap (λ (number : Serial). payment_of number purchase.amount) (is.terminal.ksn_is ∙ now.0) ∙ ap (λ sum. payment_of ksn sum) now.1 in
              subst (λ (payment : Payment). Contains (Began began ∷ history) (Began payment)) same (first_in (Began began) history)
        ];
        called_back = λ ksn back. let was = holds.called_back ksn (before ksn back) in (was.0, later_in (Began began) history (Began (payment_of ksn was.0)) was.1);
        known = λ ksn amount asked. elim (asked_or_now laws.frames call calls frame refl _ ksn amount request asked) [
          | inl was ↦ elim (holds.known ksn amount was) [
            | inl told ↦ inl (told_on (Began began) history ksn amount told)
            | inr doubt ↦ absurd (is.was_at_rest.closed ksn amount (doubt.runs is.was_at_rest.last is.was_at_rest.runs))
          ]
          | inr now ↦
              let same_ksn = is.terminal.ksn_is ∙ now.0 in
              inr (subst (λ (number : Serial). IsInDoubt laws.reading book number amount new) same_ksn (subst (λ sum. IsInDoubt laws.reading book it.ksn sum new) now.1 (record {
                runs = λ last runs. same_last new.state last (Some (opened it.ksn purchase)) runs is.state_is;
                found = λ kept found. record { last = opened it.ksn purchase; fields = fields; kept_is = only kept found; is_of = refl };
              })))
        ];
      }

  -- one more purchase took a number, and sent nothing
  more_begun : (began : Payment) (calls : List Call) (history : List Entry) (till : TillOf C J) → After calls history till → After calls (Began began ∷ history) till
  more_begun began calls history till holds = record {
    honest = holds.honest;
    told = λ last told. holds.told last (told_before_begin began last history told);
    runs = holds.runs;
    only = holds.only;
    found = holds.found;
    waits = holds.waits;
    asked = λ ksn amount asked. later_in (Began began) history (Began (payment_of ksn amount)) (holds.asked ksn amount asked);
    called_back = λ ksn back. let was = holds.called_back ksn back in (was.0, later_in (Began began) history (Began (payment_of ksn was.0)) was.1);
    known = λ ksn amount asked. elim (holds.known ksn amount asked) [
      | inl told ↦ inl (told_on (Began began) history ksn amount told)
      | inr doubt ↦ inr doubt
    ];
  }

  perhaps_begun : (it : Next) (amount : ℕ) (calls : List Call) (history : List Entry) (till : TillOf C J) → After calls history till → After calls (begun_at it amount ++ history) till
  perhaps_begun (next.At ksn) amount calls history till holds = more_begun (payment_of ksn amount) calls history till holds
  perhaps_begun next.Stopped amount calls history till holds = holds
  perhaps_begun next.Empty amount calls history till holds = holds
  perhaps_begun next.Spent amount calls history till holds = holds

  number_lost : (purchase : Purchase) (why : StoreFault) (calls : List Call) (history : List Entry) (old new : TillOf C J) → After calls history old → NumberIsLost cell book purchase old new why
      → After (Begin purchase (Err (fault.Store why)) ∷ calls) history new
  number_lost purchase why calls history old new holds is =
      let call = Begin purchase (Err (fault.Store why)) in
      let request = laws.request purchase old.terminal new.terminal is.frame is.terminal.begun in
      let fields : AreLastFields (opened is.ksn purchase) = (subst IsSerial (sym is.terminal.ksn_is) request.fields.ksn_is, request.fields.amount_fits) in
      let failed = is.not_kept.not_kept in
      let stopped = is.not_kept.stopped in
      record {
        honest = stays_honest book old.book new.book (last_bytes (opened is.ksn purchase)) why failed holds.honest;
        told = λ last told. let was = holds.told last told in (was.0, known_on call calls last (λ ksn amount same. back_before call calls ksn refl) was.1);
        runs = λ last runs. absurd (stopped_is_not_running new.state last stopped runs);
        only = λ last runs. absurd (stopped_is_not_running new.state last stopped runs);
        found = λ last known found. elim (found_then book old.book new.book (last_bytes (opened is.ksn purchase)) why holds.honest failed (Some (last_bytes last)) found) [
          | inl before ↦ known_on call calls last (λ ksn amount same. back_before call calls ksn refl) (holds.found last known before)
          | inr here ↦ subst (IsKnown (call ∷ calls)) (one_last laws.reading (opened is.ksn purchase) last fields known (sym here)) tt
        ];
        waits = λ ksn amount pending opens. absurd (stopped_is_not_running new.state (Some (Open ksn amount)) stopped opens);
        asked = λ ksn amount asked. holds.asked ksn amount (asked_before call calls ksn amount refl asked);
        called_back = λ ksn back. holds.called_back ksn (back_before call calls ksn refl back);
        known = λ ksn amount asked. elim (holds.known ksn amount (asked_before call calls ksn amount refl asked)) [
          | inl told ↦ inl told
          | inr doubt ↦ absurd (is.was_at_rest.closed ksn amount (doubt.runs is.was_at_rest.last is.was_at_rest.runs))
        ];
      }

  -- the book stays, and the till goes on
  pub same_book : (call : Call) (calls : List Call) (history : List Entry) (old new : TillOf C J) → After calls history old → sent_by call ≡ [] → SameBook old new
      → ((ksn : Serial) (amount : ℕ) (pending : Pending) → old.state ≡ Running (Some (Open ksn amount)) → IsPending new.terminal.state pending → IsPending old.terminal.state pending)
      → After (call ∷ calls) history new
  same_book call calls history old new holds none same pends =
      goes_on laws.reading book call calls history old new holds none (subst (λ it. (book.state_of it).honest) (sym same.book_is) holds.honest)
      (λ kept found. subst (λ it. (book.state_of it).found kept) same.book_is found) (inl (same.state_is, pends))

  pub begin_refused : (purchase : Purchase) (why : TillFault) (calls : List Call) (history : List Entry) (old new : TillOf C J) → After calls history old → TillBeginRefused cell book purchase old new why
      → After (Begin purchase (Err why) ∷ calls) (written (Begin purchase (Err why)) old ++ history) new
  begin_refused purchase fault.Stopped calls history old new holds is = unchanged laws.reading book (Begin purchase (Err fault.Stopped)) calls history old new holds refl is.1
  begin_refused purchase fault.Open calls history old new holds is = unchanged laws.reading book (Begin purchase (Err fault.Open)) calls history old new holds refl is.1
  begin_refused purchase fault.NothingOpen calls history old new holds is = absurd is
  begin_refused purchase (fault.Terminal why) calls history old new holds is = elim is.1 [
    | inl spent ↦ unchanged laws.reading book (Begin purchase (Err (fault.Terminal why))) calls history old new holds refl spent.2
    | inr refused ↦ same_book (Begin purchase (Err (fault.Terminal why))) calls history old new holds refl refused.1
        (λ ksn amount pending opens. absurd (not_open_at_rest old.state ksn amount is.0 opens))
  ]
  begin_refused purchase (fault.Store why) calls history old new holds is =
      perhaps_begun (next_of old.terminal.state) purchase.amount (Begin purchase (Err (fault.Store why)) ∷ calls) history new (number_lost purchase why calls history old new holds is)

  -- ---- a reversal goes out

  pub reverses : (it : Begun) (calls : List Call) (history : List Entry) (old new : TillOf C J) → IsLifetime cell book calls history old → After calls history old → IsTillReversing cell it.ksn it.frame.items old new
      → After (Reverse (Ok it) ∷ calls) history new
  reverses it calls history old new life holds is =
      let call = Reverse (Ok it) in
      let frame = it.frame.items in
      let reversal = laws.reversal is.reversed it.ksn frame old.terminal new.terminal is.terminal in
      let open_one : Last = Open is.reversed is.amount in
      let opened_on : new.state ≡ Running (Some open_one) = is.same_book.state_is ∙ is.was_open in
      let fields = (holds.runs (Some open_one) is.was_open).0 in
      let ever = laws.ever calls history old open_one life is.was_open in
      let only = λ (kept : Kept) (found : (book.state_of new.book).found kept). holds.only (Some open_one) is.was_open kept (subst (λ it. (book.state_of it).found kept) is.same_book.book_is found) in
      let began = laws.kept calls history old (Some open_one) life is.was_open in
      record {
        honest = subst (λ it. (book.state_of it).honest) (sym is.same_book.book_is) holds.honest;
        told = λ last told. let was = holds.told last told in (
          was.0,
          known_on call calls last (λ ksn amount same back. elim (back_or_now laws.frames call calls frame refl _ ksn reversal back) [
            | inl before ↦ before
            | inr now ↦ absurd (ever last told (ap number_of same ∙ sym now))
          ]) was.1,
        );
        runs = λ last runs. subst (λ (it : Option Last). IfSome it AreLastFields × IfSome it (IsKnown (call ∷ calls))) (same_last new.state (Some open_one) last opened_on runs) (fields, tt);
        only = λ last runs kept found. only kept found ∙ ap kept_of (same_last new.state (Some open_one) last opened_on runs);
        found = λ last known found. known_alone laws.reading (call ∷ calls) (Some open_one) last fields tt known (only (Some (last_bytes last)) found);
        waits = λ ksn amount pending opens waits number.
            let same = same_open is.reversed ksn is.amount amount (same_last new.state (Some open_one) (Some (Open ksn amount)) opened_on opens) in
            let counter : (serial_of is.terminal.set).counter ≡ is.reversed.counter =
            ap (λ (it : Pending). it.ksn.counter) (same_pending new.terminal.state _ _ pending is.terminal.state_is waits) ∙ ap (λ (it : Serial). it.counter) (number ∙ sym same.0) in
            absurd (omega (arith, counter, is.terminal.used.below));
        asked = λ ksn amount asked. holds.asked ksn amount (asked_by_no_reversal laws.frames call calls frame refl _ ksn amount reversal asked);
        called_back = λ ksn back. elim (back_or_now laws.frames call calls frame refl _ ksn reversal back) [
          | inl before ↦ holds.called_back ksn before
          | inr now ↦ (
            is.amount,
            subst (λ (number : Serial). Contains history (Began (payment_of number is.amount))) now
                (subst (λ (list : List Entry). Contains list (Began (payment_of is.reversed is.amount))) (sym began.begun.history_is)
                (Contains-append_right began.since (Began began.begun.began ∷ began.begun.earlier) (Began (payment_of is.reversed is.amount))
                (subst (λ (payment : Payment). Contains (Began began.begun.began ∷ began.begun.earlier) (Began payment)) began.begun.is_of (first_in (Began began.begun.began) began.begun.earlier)))),
          )
        ];
        known = λ ksn amount asked. elim (holds.known ksn amount (asked_by_no_reversal laws.frames call calls frame refl _ ksn amount reversal asked)) [
          | inl told ↦ inl told
          | inr doubt ↦ inr (record {
            runs = λ last runs. doubt.runs last (sym is.same_book.state_is ∙ runs);
            found = λ kept found. doubt.found kept (subst (λ it. (book.state_of it).found kept) is.same_book.book_is found);
          })
        ];
      }

  pub reverse_refused : (why : TillFault) (calls : List Call) (history : List Entry) (old new : TillOf C J) → After calls history old → TillReverseRefused cell old new why → After (Reverse (Err why) ∷ calls) history new
  reverse_refused fault.Stopped calls history old new holds is = unchanged laws.reading book (Reverse (Err fault.Stopped)) calls history old new holds refl is.1
  reverse_refused fault.NothingOpen calls history old new holds is = unchanged laws.reading book (Reverse (Err fault.NothingOpen)) calls history old new holds refl is.1
  reverse_refused (fault.Terminal why) calls history old new holds is =
      same_book (Reverse (Err (fault.Terminal why))) calls history old new holds refl is.1 (λ ksn amount pending opens waits. reversal_pends cell is.0.0 why old.terminal new.terminal pending is.0.3 waits)
  reverse_refused fault.Open calls history old new holds is = absurd is
  reverse_refused (fault.Store why) calls history old new holds is = absurd is
