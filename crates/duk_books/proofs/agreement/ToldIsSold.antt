-- What stands in the merchants' book was told, and what was told stands there.
use Rattle.std.proofs.Common.{◌≡◌, ◌⊎◌, ◌++◌, ◌∷◌, [], ℕ, List, Some, None, Contains, inl, inr, refl, sym, ap, subst, ◌∙◌}
use Rattle.std.proofs.lemmas.List.Elements.{Contains-append_cases, Contains-append_left, Contains-append_right}
use Rattle.duk_frame.specs.Answer.{IsAnswer}
use Rattle.duk_frame.specs.declared.answer.AnswerFrame.{AnswerFrame}
use Rattle.duk_frame.specs.declared.answer.AnswerFrame.TheVariants as answer_frame
use Rattle.duk_frame.specs.declared.code.Code.{Code}
use Rattle.duk_frame.specs.declared.code.Code.TheVariants as code
use Rattle.duk_store.specs.Cell.{CellMeaning}
use Rattle.duk_till.specs.History.{payment_of}
use Rattle.duk_till.specs.Last.{outcome_of}
use Rattle.duk_till.specs.Reply.{TillReplyRefused}
use Rattle.duk_till.specs.Restart.{TillRestartRefused}
use Rattle.duk_till.specs.Reversal.{TillReversalReplyRefused}
use Rattle.duk_till.specs.Till.{TillOf, approved_in}
use Rattle.duk_till.specs.declared.fault.TillFault.{TillFault}
use Rattle.duk_till.specs.declared.fault.TillFault.TheVariants as fault
use Rattle.duk_till.specs.declared.last.Last.TheVariants.{Open, Approved, Declined, Undone}
use Rattle.duk_till.specs.declared.last.Payment.{Payment}
use Rattle.duk_till.specs.declared.state.TillState.{TillState}
use Rattle.duk_till.specs.declared.state.TillState.TheVariants.{Stopped, Running}
use Rattle.duk_tree.specs.Serial.{Serial}
use Rattle.duk_books.specs.Arm.{ArmsHost, ArmsTill, ArmsTillBook, ArmsTerminalCell}
use Rattle.duk_books.specs.Begin.{Begins}
use Rattle.duk_books.specs.Books.{BooksOf, FindsNoTill, Frame, Meanings}
use Rattle.duk_books.specs.CallLeads.{CallLeads}
use Rattle.duk_books.specs.Down.{TakesAnswer, TakesReply, TakesReversalReply}
use Rattle.duk_books.specs.Load.{TakesLoad}
use Rattle.duk_books.specs.Reached.{IsLeft, Reached}
use Rattle.duk_books.specs.Restart.{RestartsHost, TakesRestart}
use Rattle.duk_books.specs.Reverse.{Reverses}
use Rattle.duk_books.specs.Sales.{TakesSale, sale_of}
use Rattle.duk_books.specs.Step.{Step}
use Rattle.duk_books.specs.Told.{HasWhatWasTold, IsToldApproved, TellsApproved, TellsPayment}
use Rattle.duk_books.specs.Up.{ReachesHost}
use Rattle.duk_books.specs.declared.event.End.{End}
use Rattle.duk_books.specs.declared.event.End.TheVariants as end
use Rattle.duk_books.specs.declared.event.Event.{Event}
use Rattle.duk_books.specs.declared.event.Event.TheVariants as event
use Rattle.duk_books.specs.declared.outcome.Outcome.{Outcome}
use Rattle.duk_books.specs.declared.outcome.Outcome.TheVariants as came
use Rattle.duk_books.specs.declared.sales.Sale.{Sale}
use Rattle.duk_books.specs.inner.Known.{BookLaws}
use Rattle.duk_books.proofs.agreement.Agreement.{reached_holds}
use Rattle.duk_stations.proofs.PlacesInLists.{before_at}
use Rattle.duk_books.proofs.agreement.Facts.{none_in, the_one, the_only}
use Rattle.duk_books.proofs.agreement.TellingCalls.{approved_entered, sales_stay}
use Rattle.duk_books.proofs.accepted.RepliedBefore.{same_ksn}
use Rattle.duk_books.proofs.moves.CallsLead.{leads_all}

-- ---- what an outcome tells of one till

-- whenever the till has a payment as approved, the outcome tells so, or the till had it before; and
-- what the outcome tells, the till has, with the amount that it tells
record TellsTill {C B : Type 0} (outcome : Outcome) (t : ℕ) (before after : TillOf C B) : Type 0 where
  accounts : (ksn : Serial) (amount : ℕ) → after.state ≡ Running (Some (Approved ksn amount))
      → TellsApproved outcome t ksn ⊎ (before.state ≡ Running (Some (Approved ksn amount)))
  shows : (u : ℕ) (ksn : Serial) → TellsApproved outcome u ksn → (u ≡ t) × ((amount : ℕ) × (after.state ≡ Running (Some (Approved ksn amount))))
  amount_is : (u : ℕ) (payment : Payment) → TellsPayment outcome u payment → after.state ≡ Running (Some (Approved payment.ksn payment.amount))

-- who is told a payment is told that its number is approved
tells_number : (outcome : Outcome) (t : ℕ) (payment : Payment) → TellsPayment outcome t payment → TellsApproved outcome t payment.ksn
tells_number (came.TillNext u next state) t payment tells = (tells.0, (payment.amount, tells.1))
tells_number _ t payment tells = absurd tells

stopped_has_none : (state : TillState) (ksn : Serial) (amount : ℕ) → state ≡ Stopped → state ≡ Running (Some (Approved ksn amount)) → ⊥
stopped_has_none state ksn amount stopped has = absurd (cc)

undone_has_none : (state : TillState) (ksn other : Serial) (amount : ℕ) → state ≡ Running (Some (Undone other)) → state ≡ Running (Some (Approved ksn amount)) → ⊥
undone_has_none state ksn other amount undone has = absurd (cc)

-- an outcome that tells nothing, of a till that is as it was, or stopped
module _ {C B : Type 0} (outcome : Outcome) (t : ℕ) (before after : TillOf C B) (silent : (u : ℕ) (ksn : Serial) → ¬ TellsApproved outcome u ksn) where
  as_before : after ≡ before → TellsTill outcome t before after
  as_before same = record {
    accounts = λ ksn amount has. inr (ap (λ (it : TillOf C B). it.state) (sym same) ∙ has);
    shows = λ u ksn tells. absurd (silent u ksn tells);
    amount_is = λ u payment tells. absurd (silent u payment.ksn (tells_number outcome u payment tells));
  }

  when_stopped : after.state ≡ Stopped → TellsTill outcome t before after
  when_stopped stopped = record {
    accounts = λ ksn amount has. absurd (stopped_has_none after.state ksn amount stopped has);
    shows = λ u ksn tells. absurd (silent u ksn tells);
    amount_is = λ u payment tells. absurd (silent u payment.ksn (tells_number outcome u payment tells));
  }

  when_undone : (reversed : Serial) → after.state ≡ Running (Some (Undone reversed)) → TellsTill outcome t before after
  when_undone reversed undone = record {
    accounts = λ ksn amount has. absurd (undone_has_none after.state ksn reversed amount undone has);
    shows = λ u ksn tells. absurd (silent u ksn tells);
    amount_is = λ u payment tells. absurd (silent u payment.ksn (tells_number outcome u payment tells));
  }

-- the outcome of a purchase is an approval where its code is that
approval : (ksn told : Serial) (amount sum : ℕ) (why : Code) → Running (Some (outcome_of told sum why)) ≡ Running (Some (Approved ksn amount)) → (told ≡ ksn) × (why ≡ code.Approved)
approval ksn told amount sum code.Approved same = (cc, refl)
approval ksn told amount sum code.NoCard same = absurd (cc)
approval ksn told amount sum code.WrongPin same = absurd (cc)
approval ksn told amount sum code.OverLimit same = absurd (cc)
approval ksn told amount sum code.Unreadable same = absurd (cc)

module _ {C B : Type 0} (one_answer : (bytes : List ℕ) (one other : AnswerFrame) → IsAnswer bytes one → IsAnswer bytes other → one ≡ other) (cell : CellMeaning C) (book : CellMeaning B) (t : ℕ) where
  reply_refused : (u : ℕ) (bytes : List ℕ) (why : TillFault) (before after : TillOf C B) → TillReplyRefused book bytes before after why → TellsTill (came.TillFaulted u why) t before after
  reply_refused u bytes fault.Stopped before after is = as_before _ t before after (λ v ksn tells. tells) is.1
  reply_refused u bytes fault.Open before after is = absurd is
  reply_refused u bytes fault.NothingOpen before after is = as_before _ t before after (λ v ksn tells. tells) is.1
  reply_refused u bytes (fault.Terminal why) before after is = as_before _ t before after (λ v ksn tells. tells) is.1
  reply_refused u bytes (fault.Store why) before after is = when_stopped _ t before after (λ v ksn tells. tells) is.not_kept.stopped

  reversal_refused : (u : ℕ) (bytes : List ℕ) (why : TillFault) (before after : TillOf C B) → TillReversalReplyRefused book bytes before after why → TellsTill (came.TillFaulted u why) t before after
  reversal_refused u bytes fault.Stopped before after is = as_before _ t before after (λ v ksn tells. tells) is.1
  reversal_refused u bytes fault.Open before after is = absurd is
  reversal_refused u bytes fault.NothingOpen before after is = as_before _ t before after (λ v ksn tells. tells) is.1
  reversal_refused u bytes (fault.Terminal why) before after is = as_before _ t before after (λ v ksn tells. tells) is.1
  reversal_refused u bytes (fault.Store why) before after is = when_stopped _ t before after (λ v ksn tells. tells) is.not_kept.stopped

  restart_refused : (u : ℕ) (why : TillFault) (before after : TillOf C B) → TillRestartRefused cell book before after why → TellsTill (came.TillFaulted u why) t before after
  restart_refused u fault.Stopped before after is = absurd is
  restart_refused u fault.Open before after is = absurd is
  restart_refused u fault.NothingOpen before after is = absurd is
  restart_refused u (fault.Terminal why) before after is = when_stopped _ t before after (λ v ksn tells. tells) is.2
  restart_refused u (fault.Store why) before after is = when_stopped _ t before after (λ v ksn tells. tells) is.2

  by_reply : (frame : Frame) (outcome : Outcome) (before after : TillOf C B) → TakesReply cell book t frame outcome before after → TellsTill outcome t before after
  by_reply frame (came.Done u ksn why) before after is =
      let kept = is.2 in
      let from = kept.reply.from_host in
      let number : ksn ≡ kept.ksn =
      same_ksn ksn kept.reply.pending.ksn why why is.1.0 from.mac
      (one_answer frame.items (answer_frame.Reply ksn why is.1.0) (answer_frame.Reply kept.reply.pending.ksn why from.mac) is.1.1 from.reply)
      ∙ kept.reply.number_is in
      record {
        accounts = λ used amount has.
            let it = approval used kept.ksn amount kept.amount why (sym kept.state_is ∙ has) in
            inl (is.0, number ∙ it.0, it.1);
        shows = λ v used tells. (
          sym tells.0 ∙ is.0,
          (
            kept.amount,
            kept.state_is ∙ ap (λ (it : Code). Running (Some (outcome_of kept.ksn kept.amount it))) tells.2
                ∙ ap (λ (it : Serial). Running (Some (Approved it kept.amount))) (sym number ∙ tells.1),
          ),
        );
        amount_is = λ v payment tells. absurd tells;
      }
  by_reply frame (came.GotRefusal u ksn reason) before after is = as_before _ t before after (λ v used tells. tells) is.2.same
  by_reply frame (came.TillFaulted u why) before after is = reply_refused u frame.items why before after is.1
  by_reply frame _ before after is = absurd is

  by_reversal : (frame : Frame) (outcome : Outcome) (before after : TillOf C B) → TakesReversalReply cell book t frame outcome before after → TellsTill outcome t before after
  by_reversal frame (came.Undone u ksn state) before after is = when_undone _ t before after (λ v used tells. tells) is.2.reversed is.2.state_is
  by_reversal frame (came.GotRefusal u ksn reason) before after is = as_before _ t before after (λ v used tells. tells) is.2.same
  by_reversal frame (came.TillFaulted u why) before after is = reversal_refused u frame.items why before after is.1
  by_reversal frame _ before after is = absurd is

  by_answer : (frame : Frame) (outcome : Outcome) (before after : TillOf C B) → TakesAnswer cell book t frame outcome before after → TellsTill outcome t before after
  by_answer frame outcome before after (inl is) = by_reply frame outcome before after is.takes
  by_answer frame outcome before after (inr is) = by_reversal frame outcome before after is.1

  by_restart : (outcome : Outcome) (before after : TillOf C B) → TakesRestart cell book t outcome before after → TellsTill outcome t before after
  by_restart (came.TillNext u next state) before after is = record {
    accounts = λ ksn amount has. inl (is.0, (amount, is.2.1 ∙ has));
    shows = λ v ksn tells. (sym tells.0 ∙ is.0, (tells.1.0, sym is.2.1 ∙ tells.1.1));
    amount_is = λ v payment tells. sym is.2.1 ∙ tells.1;
  }
  by_restart (came.TillFaulted u why) before after is = restart_refused u why before after is.1
  by_restart _ before after is = absurd is

-- ---- the book after one event

is_that : (t : ℕ) (payment : Payment) (sale : Sale) → sale ≡ sale_of t payment → (sale.t ≡ t) × (sale.payment ≡ payment)
is_that t payment sale same = (ap (λ (it : Sale). it.t) same, ap (λ (it : Sale). it.payment) same)

-- what is new in the book is the payment that the till has as approved
new_is_approved : (t : ℕ) (old new : List Sale) (state : TillState) (sale : Sale) → TakesSale old t (approved_in state) new → Contains new sale
    → Contains old sale ⊎ ((sale.t ≡ t) × (state ≡ Running (Some (Approved sale.payment.ksn sale.payment.amount))))
new_is_approved t old new Stopped sale takes is_in = inl (subst (λ sales. Contains sales sale) takes is_in)
new_is_approved t old new (Running None) sale takes is_in = inl (subst (λ sales. Contains sales sale) takes is_in)
new_is_approved t old new (Running (Some (Open ksn amount))) sale takes is_in = inl (subst (λ sales. Contains sales sale) takes is_in)
new_is_approved t old new (Running (Some (Declined ksn why))) sale takes is_in = inl (subst (λ sales. Contains sales sale) takes is_in)
new_is_approved t old new (Running (Some (Undone ksn))) sale takes is_in = inl (subst (λ sales. Contains sales sale) takes is_in)
new_is_approved t old new (Running (Some (Approved ksn amount))) sale (inl there) is_in = inl (subst (λ sales. Contains sales sale) there.1 is_in)
new_is_approved t old new (Running (Some (Approved ksn amount))) sale (inr joins) is_in =
    elim (Contains-append_cases old (sale_of t (payment_of ksn amount) ∷ []) sale (subst (λ sales. Contains sales sale) joins.1 is_in)) [
      | inl before ↦ inl before
      | inr here ↦
          let it = is_that t (payment_of ksn amount) sale (the_only (sale_of t (payment_of ksn amount)) sale here) in
          inr (it.0, ap (λ (it : Payment). Running (Some (Approved it.ksn it.amount))) (sym it.1))
    ]

-- the book after an event that tells a till something
told_one : {C B : Type 0} (t : ℕ) (old new : List Sale) (outcome : Outcome) (before after : TillOf C B) → TellsTill outcome t before after → TakesSale old t (approved_in after.state) new
    → ((ksn : Serial) (amount : ℕ) → before.state ≡ Running (Some (Approved ksn amount)) → Contains old (sale_of t (payment_of ksn amount)))
    → HasWhatWasTold old (outcome ∷ []) new
told_one t old new outcome before after tells takes entered = record {
  stays = λ sale is_in. sales_stay t old new (approved_in after.state) sale takes is_in;
  told = λ u ksn told.
      let shown = tells.shows u ksn (subst (λ (it : Outcome). TellsApproved it u ksn) (the_only outcome told.outcome told.came) told.tells) in
      record {
        payment = payment_of ksn shown.1.0;
        ksn_is = refl;
        stands = subst (λ n. Contains new (sale_of n (payment_of ksn shown.1.0))) (sym shown.0) (approved_entered t old new after.state ksn shown.1.0 takes shown.1.1);
      };
  told_amount = λ u payment told.
      let says = subst (λ (it : Outcome). TellsPayment it u payment) (the_only outcome told.outcome told.came) told.tells in
      let shown = tells.shows u payment.ksn (tells_number outcome u payment says) in
      subst (λ n. Contains new (sale_of n payment)) (sym shown.0) (approved_entered t old new after.state payment.ksn payment.amount takes (tells.amount_is u payment says));
  only = λ sale is_in. elim (new_is_approved t old new after.state sale takes is_in) [
    | inl before_it ↦ inl before_it
    | inr has ↦ elim (tells.accounts sale.payment.ksn sale.payment.amount has.1) [
      | inl it ↦ inr (record { outcome = outcome; came = the_one outcome; tells = subst (λ n. TellsApproved outcome n sale.payment.ksn) (sym has.0) it })
      | inr had ↦ inl (subst (λ n. Contains old (sale_of n sale.payment)) (sym has.0) (entered sale.payment.ksn sale.payment.amount had))
    ]
  ];
}

-- the book after an event that tells nothing
told_none : (old new : List Sale) (outcome : Outcome) → ((u : ℕ) (ksn : Serial) → ¬ TellsApproved outcome u ksn) → new ≡ old → HasWhatWasTold old (outcome ∷ []) new
told_none old new outcome silent same = record {
  stays = λ sale is_in. subst (λ sales. Contains sales sale) (sym same) is_in;
  told = λ u ksn told. absurd (silent u ksn (subst (λ (it : Outcome). TellsApproved it u ksn) (the_only outcome told.outcome told.came) told.tells));
  told_amount = λ u payment told.
      absurd (silent u payment.ksn (tells_number outcome u payment (subst (λ (it : Outcome). TellsPayment it u payment) (the_only outcome told.outcome told.came) told.tells)));
  only = λ sale is_in. inl (subst (λ sales. Contains sales sale) same is_in);
}

silent_as : (outcome it : Outcome) → outcome ≡ it → ((u : ℕ) (ksn : Serial) → ¬ TellsApproved it u ksn) → (u : ℕ) (ksn : Serial) → ¬ TellsApproved outcome u ksn
silent_as outcome it same silent u ksn tells = silent u ksn (subst (λ (one : Outcome). TellsApproved one u ksn) same tells)

module _ {C B J I : Type 0} (m : Meanings C B J I) (old : BooksOf C B J I) where
  abbrev Told : Outcome → BooksOf C B J I → Type 0
  Told outcome new = HasWhatWasTold old.sales (outcome ∷ []) new.sales

  no_till_told : (t : ℕ) (outcome : Outcome) (new : BooksOf C B J I) → FindsNoTill old t outcome new → Told outcome new
  no_till_told t outcome new none = told_none old.sales new.sales outcome (silent_as outcome came.NoSuchTill none.outcome_is (λ u ksn tells. tells)) (ap (λ books. books.sales) none.same)

  load_silent : (t : ℕ) (asked : _) (outcome : Outcome) (before after : TillOf C B) → TakesLoad m.cell m.book t asked outcome before after → (u : ℕ) (ksn : Serial) → ¬ TellsApproved outcome u ksn
  load_silent t asked (came.Loaded v iksn) before after is u ksn tells = tells
  load_silent t asked (came.TillFaulted v why) before after is u ksn tells = tells
  load_silent t asked _ before after is u ksn tells = absurd is

  begin_told : (t : ℕ) (purchase : _) (outcome : Outcome) (new : BooksOf C B J I) → Begins m old t purchase outcome new → Told outcome new
  begin_told t purchase (came.Sent u k ksn) new is = told_none old.sales new.sales _ (λ v used tells. tells) (ap (λ books. books.sales) is.1.rest)
  begin_told t purchase (came.TillFaulted u why) new is = told_none old.sales new.sales _ (λ v used tells. tells) (ap (λ books. books.sales) is.1.rest)
  begin_told t purchase came.NoSuchTill new is = told_none old.sales new.sales _ (λ v used tells. tells) (ap (λ books. books.sales) is.1)
  begin_told t purchase _ new is = absurd is

  reverse_told : (t : ℕ) (outcome : Outcome) (new : BooksOf C B J I) → Reverses m old t outcome new → Told outcome new
  reverse_told t (came.Reversing u k ksn reversed) new is = told_none old.sales new.sales _ (λ v used tells. tells) (ap (λ books. books.sales) is.1.rest)
  reverse_told t (came.TillFaulted u why) new is = told_none old.sales new.sales _ (λ v used tells. tells) (ap (λ books. books.sales) is.1.rest)
  reverse_told t came.NoSuchTill new is = told_none old.sales new.sales _ (λ v used tells. tells) (ap (λ books. books.sales) is.1)
  reverse_told t _ new is = absurd is

  up_told : (k : ℕ) (outcome : Outcome) (new : BooksOf C B J I) → ReachesHost m old k outcome new → Told outcome new
  up_told k came.NoSuchFrame new is = told_none old.sales new.sales _ (λ v used tells. tells) (ap (λ books. books.sales) is.1)
  up_told k (came.HostFaulted why) new is = told_none old.sales new.sales _ (λ v used tells. tells) (ap (λ books. books.sales) is.rest)
  up_told k (came.Accepted n ksn why) new is = told_none old.sales new.sales _ (λ v used tells. tells) (ap (λ books. books.sales) is.rest)
  up_told k (came.Repeated n ksn why) new is = told_none old.sales new.sales _ (λ v used tells. tells) (ap (λ books. books.sales) is.rest)
  up_told k (came.Refused n ksn reason) new is = told_none old.sales new.sales _ (λ v used tells. tells) (ap (λ books. books.sales) is.rest)
  up_told k (came.Reversed n ksn reversed state) new is = told_none old.sales new.sales _ (λ v used tells. tells) (ap (λ books. books.sales) is.rest)
  up_told k _ new is = absurd is.says

  arm_host_told : (steps : ℕ) (outcome : Outcome) (new : BooksOf C B J I) → ArmsHost m old steps outcome new → Told outcome new
  arm_host_told steps (came.Armed armed passed) new is = told_none old.sales new.sales _ (λ v used tells. tells) (ap (λ books. books.sales) is.3)
  arm_host_told steps _ new is = absurd is

  arm_till_told : (it : End) (t : ℕ) (change : TillOf C B → TillOf C B → Type 0) (steps : ℕ) (outcome : Outcome) (new : BooksOf C B J I) → ArmsTill it t change old steps outcome new → Told outcome new
  arm_till_told it t change steps came.NoSuchTill new is = told_none old.sales new.sales _ (λ v used tells. tells) (ap (λ books. books.sales) is.1)
  arm_till_told it t change steps (came.Armed armed passed) new is = told_none old.sales new.sales _ (λ v used tells. tells) (ap (λ books. books.sales) is.2.rest)
  arm_till_told it t change steps _ new is = absurd is

  restart_host_told : (outcome : Outcome) (new : BooksOf C B J I) → RestartsHost m old outcome new → Told outcome new
  restart_host_told (came.HostKeeps kept) new is = told_none old.sales new.sales _ (λ v used tells. tells) (ap (λ books. books.sales) is.rest)
  restart_host_told (came.HostFaulted why) new is = told_none old.sales new.sales _ (λ v used tells. tells) (ap (λ books. books.sales) is.rest)
  restart_host_told _ new is = absurd is

  -- each step
  step_told : BookLaws m → Reached m old → (event : Event) (outcome : Outcome) (new : BooksOf C B J I) → Step m old event outcome new → Told outcome new
  step_told laws reached (event.Load t iksn) outcome new step = elim step [
    | inl none ↦ no_till_told t outcome new none
    | inr there ↦ elim there [
      | inl owned ↦ told_none old.sales new.sales outcome (silent_as outcome (came.IksnElsewhere t) owned.outcome_is (λ u ksn tells. tells)) (ap (λ books. books.sales) owned.same)
      | inr free ↦ elim free [
        | inl no_keys ↦ told_none old.sales new.sales outcome (silent_as outcome (came.NoKeySet t) no_keys.outcome_is (λ u ksn tells. tells)) (ap (λ books. books.sales) no_keys.same)
        | inr is ↦ told_none old.sales new.sales outcome (load_silent t is.asked outcome is.till.before is.till.after is.till.changed) (ap (λ books. books.sales) is.rest)
      ]
    ]
  ]
  step_told laws reached (event.Begin t purchase) outcome new step = begin_told t purchase outcome new step
  step_told laws reached (event.Reverse t) outcome new step = reverse_told t outcome new step
  step_told laws reached (event.Up k) outcome new step = up_told k outcome new step
  step_told laws reached (event.Down k t) outcome new step = elim step [
    | inl none ↦ no_till_told t outcome new none
    | inr there ↦ elim there [
      | inl missing ↦ told_none old.sales new.sales outcome (silent_as outcome came.NoSuchFrame missing.outcome_is (λ u ksn tells. tells)) (ap (λ books. books.sales) missing.same)
      | inr is ↦
          told_one t old.sales new.sales outcome is.till.before is.till.after (by_answer laws.host.one_answer m.cell m.book t is.frame outcome is.till.before is.till.after is.till.changed) is.sales
          (((reached_holds m laws old reached).1.tills t is.till.before (before_at t _ old.tills new.tills is.till)).entered)
    ]
  ]
  step_told laws reached (event.RestartTill t) outcome new step = elim step [
    | inl none ↦ no_till_told t outcome new none
    | inr is ↦
        told_one t old.sales new.sales outcome is.till.before is.till.after (by_restart laws.host.one_answer m.cell m.book t outcome is.till.before is.till.after is.till.changed) is.sales
        (((reached_holds m laws old reached).1.tills t is.till.before (before_at t _ old.tills new.tills is.till)).entered)
  ]
  step_told laws reached event.RestartHost outcome new step = restart_host_told outcome new step
  step_told laws reached (event.Arm end.Host steps) outcome new step = arm_host_told steps outcome new step
  step_told laws reached (event.Arm (end.Terminal t) steps) outcome new step = arm_till_told (end.Terminal t) t (ArmsTerminalCell m steps) steps outcome new step
  step_told laws reached (event.Arm (end.Book t) steps) outcome new step = arm_till_told (end.Book t) t (ArmsTillBook m steps) steps outcome new step

-- ---- the book after a call

told_in : (one other : List Outcome) (t : ℕ) (ksn : Serial) → ((outcome : Outcome) → Contains one outcome → Contains other outcome) → IsToldApproved one t ksn → IsToldApproved other t ksn
told_in one other t ksn within told = record { outcome = told.outcome; came = within told.outcome told.came; tells = told.tells }

-- one more outcome
told_more : (first old new : List Sale) (outcomes : List Outcome) (outcome : Outcome) → HasWhatWasTold first outcomes old → HasWhatWasTold old (outcome ∷ []) new → HasWhatWasTold first (outcomes ++ outcome ∷ []) new
told_more first old new outcomes outcome before after = record {
  stays = λ sale is_in. after.stays sale (before.stays sale is_in);
  told = λ t ksn told. elim (Contains-append_cases outcomes (outcome ∷ []) told.outcome told.came) [
    | inl earlier ↦
        let sold = before.told t ksn (record { outcome = told.outcome; came = earlier; tells = told.tells }) in
        record { payment = sold.payment; ksn_is = sold.ksn_is; stands = after.stays (sale_of t sold.payment) sold.stands }
    | inr now ↦ after.told t ksn (record { outcome = told.outcome; came = now; tells = told.tells })
  ];
  told_amount = λ t payment told. elim (Contains-append_cases outcomes (outcome ∷ []) told.outcome told.came) [
    | inl earlier ↦ after.stays (sale_of t payment) (before.told_amount t payment (record { outcome = told.outcome; came = earlier; tells = told.tells }))
    | inr now ↦ after.told_amount t payment (record { outcome = told.outcome; came = now; tells = told.tells })
  ];
  only = λ sale is_in. elim (after.only sale is_in) [
    | inl there ↦ elim (before.only sale there) [
      | inl at_first ↦ inl at_first
      | inr told ↦ inr (told_in outcomes (outcomes ++ outcome ∷ []) sale.t sale.payment.ksn (λ it has. Contains-append_left outcomes (outcome ∷ []) it has) told)
    ]
    | inr told ↦ inr (told_in (outcome ∷ []) (outcomes ++ outcome ∷ []) sale.t sale.payment.ksn (λ it has. Contains-append_right outcomes (outcome ∷ []) it has) told)
  ];
}

nothing_told : (sales : List Sale) → HasWhatWasTold sales [] sales
nothing_told sales = record {
  stays = λ sale is_in. is_in;
  told = λ t ksn told. absurd (none_in told.outcome told.came);
  told_amount = λ t payment told. absurd (none_in told.outcome told.came);
  only = λ sale is_in. inl is_in;
}

left_sales : {C B J I : Type 0} (m : Meanings C B J I) (old new : BooksOf C B J I) → IsLeft m old new → new.sales ≡ old.sales
left_sales m old new (inl left) = ap (λ books. books.sales) left.rest
left_sales m old new (inr (k, out)) = ap (λ books. books.sales) out.rest

pub call_told : {C B J I : Type 0} (m : Meanings C B J I) → BookLaws m → (old new : BooksOf C B J I) (outcomes : List Outcome) → Reached m old → CallLeads m old outcomes new → HasWhatWasTold old.sales outcomes new.sales
call_told {C} {B} {J} {I} m laws old new outcomes reached leads =
    leads_all m (λ done (it : BooksOf C B J I). HasWhatWasTold old.sales done it.sales)
    (λ done before after event outcome was holds step. told_more old.sales before.sales after.sales done outcome holds (step_told m before laws was event outcome after step))
    (λ done before after was holds left. subst (λ sales. HasWhatWasTold old.sales done sales) (sym (left_sales m before after left)) holds)
    old new outcomes reached (nothing_told old.sales) leads
