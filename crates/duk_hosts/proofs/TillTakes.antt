-- What holds of a till holds after it took a frame, and after a restart.
use Rattle.std.proofs.Common.{◌≡◌, ◌⊎◌, ◌++◌, ◌∷◌, [], ℕ, List, Option, Some, None, Ok, Err, IfSome, Contains, inl, inr, refl, sym, ap, subst, ◌∙◌}
use Rattle.std.proofs.lemmas.List.Elements.{Contains-append_right}
use Rattle.duk_frame.specs.Answer.{IsReply}
use Rattle.duk_frame.specs.declared.code.Code.{Code}
use Rattle.duk_frame.specs.declared.code.Code.TheVariants as code
use Rattle.duk_reversal.specs.declared.state.ReversalState.{ReversalState}
use Rattle.duk_store.specs.Cell.{CellMeaning, Kept}
use Rattle.duk_term.specs.declared.answer.Answer.TheVariants as answer
use Rattle.duk_term.specs.declared.answer.ReversalAnswer.TheVariants as reversal
use Rattle.duk_term.specs.Reply.{IsPending}
use Rattle.duk_term.specs.Restart.{Opens}
use Rattle.duk_term.specs.Reversal.{ReportsReversal}
use Rattle.duk_term.specs.declared.state.Pending.{Pending}
use Rattle.duk_term.specs.declared.state.State.{State}
use Rattle.duk_term.specs.declared.state.State.TheVariants as term_state
use Rattle.duk_till.specs.History.{Began, Entry, IsOf, Told, payment_of}
use Rattle.duk_till.specs.Image.{kept_of, last_bytes}
use Rattle.duk_till.specs.Last.{AreLastFields, outcome_of}
use Rattle.duk_till.specs.Lifetime.{Call, Reply, ReversalReply, last_told, outcome_told, undone_told}
use Rattle.duk_till.specs.Reply.{IsOutcomeKept, IsReplyTo, TillReplyRefused}
use Rattle.duk_till.specs.Restart.{FoundLast, IsTillRestarted, TillRestartRefused}
use Rattle.duk_till.specs.Reversal.{IsUndoneKept, TillReversalReplyRefused}
use Rattle.duk_till.specs.Till.{TillOf}
use Rattle.duk_till.specs.declared.fault.TillFault.{TillFault}
use Rattle.duk_till.specs.declared.fault.TillFault.TheVariants as fault
use Rattle.duk_till.specs.declared.last.Last.{Last}
use Rattle.duk_till.specs.declared.last.Last.TheVariants.{Open, Approved, Declined, Undone}
use Rattle.duk_till.specs.declared.last.Payment.{Payment}
use Rattle.duk_till.specs.declared.state.TillState.{TillState}
use Rattle.duk_till.specs.declared.state.TillState.TheVariants.{Running}
use Rattle.duk_tree.specs.Serial.{Serial}
use Rattle.duk_hosts.specs.Tills.{all_sent, all_taken, sent_by, taken_by}
use Rattle.duk_hosts.proofs.Members.{first_in}
use Rattle.duk_hosts.proofs.Sent.{IsCalledBack, IsClosed, IsKnown, IsReplied, IsUndoneBy, asked_before, back_before, known_on}
use Rattle.duk_hosts.proofs.TillHolds.{Holds, IsKeptOf, IsTold, goes_on, known_alone, lost, none_is_kept, one_last, same_last, tells, told_or_before, unchanged}
use Rattle.duk_hosts.proofs.TillSends.{TillLaws}

-- ---- outcomes

outcome_fields : (ksn : Serial) (amount : ℕ) (why : Code) → AreLastFields (Open ksn amount) → AreLastFields (outcome_of ksn amount why)
outcome_fields ksn amount code.Approved fields = fields
outcome_fields ksn amount code.NoCard fields = (fields.0, λ same. absurd (cc))
outcome_fields ksn amount code.WrongPin fields = (fields.0, λ same. absurd (cc))
outcome_fields ksn amount code.OverLimit fields = (fields.0, λ same. absurd (cc))
outcome_fields ksn amount code.Unreadable fields = (fields.0, λ same. absurd (cc))

outcome_known : (calls : List Call) (ksn : Serial) (amount : ℕ) (why : Code) → IsReplied (all_taken calls) ksn why → ¬ IsCalledBack (all_sent calls) ksn → IsKnown calls (outcome_of ksn amount why)
outcome_known calls ksn amount code.Approved replied not_back = (replied, not_back)
outcome_known calls ksn amount code.NoCard replied not_back = ((λ same. absurd (cc)), replied)
outcome_known calls ksn amount code.WrongPin replied not_back = ((λ same. absurd (cc)), replied)
outcome_known calls ksn amount code.OverLimit replied not_back = ((λ same. absurd (cc)), replied)
outcome_known calls ksn amount code.Unreadable replied not_back = ((λ same. absurd (cc)), replied)

outcome_is_of : (ksn : Serial) (amount : ℕ) (why : Code) → IsOf (payment_of ksn amount) (outcome_of ksn amount why)
outcome_is_of ksn amount code.Approved = refl
outcome_is_of ksn amount code.NoCard = refl
outcome_is_of ksn amount code.WrongPin = refl
outcome_is_of ksn amount code.OverLimit = refl
outcome_is_of ksn amount code.Unreadable = refl

outcome_closed : (ksn : Serial) (amount : ℕ) (why : Code) → IsClosed (outcome_of ksn amount why)
outcome_closed ksn amount code.Approved = tt
outcome_closed ksn amount code.NoCard = tt
outcome_closed ksn amount code.WrongPin = tt
outcome_closed ksn amount code.OverLimit = tt
outcome_closed ksn amount code.Unreadable = tt

-- ---- a restart

loaded_pends_nothing : (state : State) (set : _) (pending : Pending) → state ≡ term_state.Loaded set None → ¬ IsPending state pending
loaded_pends_nothing state set pending loaded (other, is) = absurd (cc)

after_restart : (kept : Kept) (state : State) (pending : Pending) → Opens kept state → ¬ IsPending state pending
after_restart None state pending opens (set, is) = absurd (cc)
after_restart (Some body) state pending opens waits = loaded_pends_nothing state _ pending opens.1 waits

module _ {C J : Type 0} (cell : CellMeaning C) (book : CellMeaning J) (laws : TillLaws cell book) where
  abbrev After : List Call → List Entry → TillOf C J → Type 0
  After calls history till = Holds laws.reading book calls history till

  -- ---- replies

  replied_now : (call : Call) (calls : List Call) (bytes : List ℕ) (ksn : Serial) (why : Code) (state : State) → taken_by call ≡ bytes ∷ [] → IsReplyTo state ksn bytes why → IsReplied (all_taken (call ∷ calls)) ksn why
  replied_now call calls bytes ksn why state takes is = record {
    frame = bytes;
    mac = is.from_host.mac;
    taken = subst (λ (taken : List (List ℕ)). Contains (taken ++ all_taken calls) bytes) (sym takes) (first_in bytes (all_taken calls));
    reply = subst (λ (number : Serial). IsReply bytes number why is.from_host.mac) is.number_is is.from_host.reply;
  }

  -- what is known of the outcome that a reply tells
  told_by_reply : (call : Call) (calls : List Call) (history : List Entry) (old : TillOf C J) (bytes : List ℕ) (ksn : Serial) (amount : ℕ) (why : Code) → After calls history old → sent_by call ≡ [] → taken_by call ≡ bytes ∷ []
      → old.state ≡ Running (Some (Open ksn amount)) → IsReplyTo old.terminal.state ksn bytes why → IsKnown (call ∷ calls) (outcome_of ksn amount why)
  told_by_reply call calls history old bytes ksn amount why holds none takes opens reply =
      outcome_known (call ∷ calls) ksn amount why (replied_now call calls bytes ksn why old.terminal.state takes reply)
      (λ back. holds.waits ksn amount reply.pending opens reply.waits reply.number_is (back_before call calls ksn none back))

  open_fields : (calls : List Call) (history : List Entry) (old : TillOf C J) (ksn : Serial) (amount : ℕ) → After calls history old → old.state ≡ Running (Some (Open ksn amount)) → AreLastFields (Open ksn amount)
  open_fields calls history old ksn amount holds opens = (holds.runs (Some (Open ksn amount)) opens).0

  pub reply_kept : (bytes : List ℕ) (why : Code) (calls : List Call) (history : List Entry) (old new : TillOf C J) → After calls history old → IsOutcomeKept book bytes why old new
      → After (Reply bytes (Ok (answer.Done why)) ∷ calls) (outcome_told old.state why ++ history) new
  reply_kept bytes why calls history old new holds is =
      let call = Reply bytes (Ok (answer.Done why)) in
      let last : Last = outcome_of is.ksn is.amount why in
      subst (λ (it : TillState). After (call ∷ calls) (outcome_told it why ++ history) new) (sym is.was_open)
      (tells laws.reading book call calls history old new is.ksn is.amount last holds refl is.was_open is.kept is.state_is
      (outcome_fields is.ksn is.amount why (open_fields calls history old is.ksn is.amount holds is.was_open)) (outcome_closed is.ksn is.amount why)
      (told_by_reply call calls history old bytes is.ksn is.amount why holds refl refl is.was_open is.reply) (outcome_is_of is.ksn is.amount why))

  pub reply_refused : (bytes : List ℕ) (why : TillFault) (calls : List Call) (history : List Entry) (old new : TillOf C J) → After calls history old → TillReplyRefused book bytes old new why
      → After (Reply bytes (Err why) ∷ calls) history new
  reply_refused bytes fault.Stopped calls history old new holds is = unchanged laws.reading book (Reply bytes (Err fault.Stopped)) calls history old new holds refl is.1
  reply_refused bytes fault.Open calls history old new holds is = absurd is
  reply_refused bytes fault.NothingOpen calls history old new holds is = unchanged laws.reading book (Reply bytes (Err fault.NothingOpen)) calls history old new holds refl is.1
  reply_refused bytes (fault.Terminal why) calls history old new holds is = unchanged laws.reading book (Reply bytes (Err (fault.Terminal why))) calls history old new holds refl is.1
  reply_refused bytes (fault.Store why) calls history old new holds is =
      let call = Reply bytes (Err (fault.Store why)) in
      lost laws.reading book call calls history old new is.ksn is.amount (outcome_of is.ksn is.amount is.code) why holds refl is.was_open is.not_kept.not_kept is.not_kept.stopped
      (outcome_fields is.ksn is.amount is.code (open_fields calls history old is.ksn is.amount holds is.was_open))
      (told_by_reply call calls history old bytes is.ksn is.amount is.code holds refl refl is.was_open is.reply) (outcome_is_of is.ksn is.amount is.code)

  undone_now : (call : Call) (calls : List Call) (bytes : List ℕ) (reversed : Serial) (found : ReversalState) (state : State) → taken_by call ≡ bytes ∷ [] → ReportsReversal state reversed bytes (reversal.Done found)
      → IsUndoneBy (all_taken (call ∷ calls)) reversed
  undone_now call calls bytes reversed found state takes is = record {
    frame = bytes;
    reply = is.2.reply;
    taken = subst (λ (taken : List (List ℕ)). Contains (taken ++ all_taken calls) bytes) (sym takes) (first_in bytes (all_taken calls));
    is_reply = is.2.is_reply;
    reversed_is = is.2.is_of.reversed_is;
  }

  pub undone_kept : (bytes : List ℕ) (found : ReversalState) (calls : List Call) (history : List Entry) (old new : TillOf C J) → After calls history old → IsUndoneKept book bytes found old new
      → After (ReversalReply bytes (Ok (reversal.Done found)) ∷ calls) (undone_told old.state ++ history) new
  undone_kept bytes found calls history old new holds is =
      let call = ReversalReply bytes (Ok (reversal.Done found)) in
      subst (λ (it : TillState). After (call ∷ calls) (undone_told it ++ history) new) (sym is.was_open)
      (tells laws.reading book call calls history old new is.reversed is.amount (Undone is.reversed) holds refl is.was_open is.kept is.state_is
      (open_fields calls history old is.reversed is.amount holds is.was_open).0 tt (undone_now call calls bytes is.reversed found old.terminal.state refl is.reply) refl)

  pub undone_refused : (bytes : List ℕ) (why : TillFault) (calls : List Call) (history : List Entry) (old new : TillOf C J) → After calls history old → TillReversalReplyRefused book bytes old new why
      → After (ReversalReply bytes (Err why) ∷ calls) history new
  undone_refused bytes fault.Stopped calls history old new holds is = unchanged laws.reading book (ReversalReply bytes (Err fault.Stopped)) calls history old new holds refl is.1
  undone_refused bytes fault.Open calls history old new holds is = absurd is
  undone_refused bytes fault.NothingOpen calls history old new holds is = unchanged laws.reading book (ReversalReply bytes (Err fault.NothingOpen)) calls history old new holds refl is.1
  undone_refused bytes (fault.Terminal why) calls history old new holds is = unchanged laws.reading book (ReversalReply bytes (Err (fault.Terminal why))) calls history old new holds refl is.1
  undone_refused bytes (fault.Store why) calls history old new holds is =
      let call = ReversalReply bytes (Err (fault.Store why)) in
      lost laws.reading book call calls history old new is.reversed is.amount (Undone is.reversed) why holds refl is.was_open is.not_kept.not_kept is.not_kept.stopped
      (open_fields calls history old is.reversed is.amount holds is.was_open).0 (undone_now call calls bytes is.reversed is.found old.terminal.state refl is.reply) refl

  -- ---- restarts

  -- a restart tells a closed purchase, and nothing of another
  told_of : (last : Last) → IsClosed last → last_told (Running (Some last)) ≡ Told last ∷ []
  told_of (Open ksn amount) closed = absurd closed
  told_of (Approved ksn amount) closed = refl
  told_of (Declined ksn why) closed = refl
  told_of (Undone ksn) closed = refl

  -- what a restart tells is this
  told_then : (last : Option Last) (other : Last) (history : List Entry) → Contains (last_told (Running last) ++ history) (Told other) → (IsClosed other × (last ≡ Some other)) ⊎ Contains history (Told other)
  told_then None other history told = inr told
  told_then (Some (Open ksn amount)) other history told = inr told
  told_then (Some (Approved ksn amount)) other history told = elim (told_or_before (Approved ksn amount) other history told) [
    | inl same ↦ inl (subst IsClosed (sym same) tt, ap Some (sym same))
    | inr before ↦ inr before
  ]
  told_then (Some (Declined ksn why)) other history told = elim (told_or_before (Declined ksn why) other history told) [
    | inl same ↦ inl (subst IsClosed (sym same) tt, ap Some (sym same))
    | inr before ↦ inr before
  ]
  told_then (Some (Undone ksn)) other history told = elim (told_or_before (Undone ksn) other history told) [
    | inl same ↦ inl (subst IsClosed (sym same) tt, ap Some (sym same))
    | inr before ↦ inr before
  ]

  -- a purchase that was in doubt is told, or is open again
  told_or_open : (ksn : Serial) (amount : ℕ) (last : Last) (history : List Entry) → IsOf (payment_of ksn amount) last → IsTold (last_told (Running (Some last)) ++ history) ksn amount ⊎ (last ≡ Open ksn amount)
  told_or_open ksn amount (Open number sum) history is_of = inr (ap (λ (it : Payment). Open it.ksn it.amount) (sym is_of))
  told_or_open ksn amount (Approved number sum) history is_of = inl (record { last = Approved number sum; told = first_in (Told (Approved number sum)) history; is_of = is_of })
  told_or_open ksn amount (Declined number why) history is_of = inl (record { last = Declined number why; told = first_in (Told (Declined number why)) history; is_of = is_of })
  told_or_open ksn amount (Undone number) history is_of = inl (record { last = Undone number; told = first_in (Told (Undone number)) history; is_of = is_of })

  -- what a restart found was known
  found_known : (call : Call) (calls : List Call) (history : List Entry) (old : TillOf C J) (new : J) (last : Option Last) → sent_by call ≡ [] → After calls history old → FoundLast book old.book new last → IfSome last (IsKnown (call ∷ calls))
  found_known call calls history old new None none holds found = tt
  found_known call calls history old new (Some last) none holds found =
      known_on call calls last (λ ksn amount same. back_before call calls ksn none) (holds.found last found.fields (found.cell.was_found holds.honest))

  -- what it found of a purchase in doubt
  found_of : (last : Option Last) (ksn : Serial) (amount : ℕ) → IfSome last AreLastFields → IsKeptOf ksn amount (kept_of last) → (it : Last) × (last ≡ Some it) × IsOf (payment_of ksn amount) it
  found_of None ksn amount fields is = absurd (none_is_kept is.last (sym is.kept_is))
  found_of (Some last) ksn amount fields is = (last, refl, subst (IsOf (payment_of ksn amount)) (sym (one_last laws.reading last is.last fields is.fields is.kept_is)) is.is_of)

  pub restart_done : (call : Call) (calls : List Call) (history : List Entry) (old new : TillOf C J) → sent_by call ≡ [] → After calls history old → (is : IsTillRestarted cell book old new)
      → After (call ∷ calls) (last_told (Running is.last) ++ history) new
  restart_done call calls history old new none holds is =
      let tells_now = last_told (Running is.last) in
      let known = found_known call calls history old new.book is.last none holds is.found in
      let only = λ (kept : Kept) (found : (book.state_of new.book).found kept). (is.found.cell.settles.finds holds.honest kept).0 found in
      record {
        honest = is.found.cell.settles.nature.honest.0 holds.honest;
        told = λ other told. elim (told_then is.last other history told) [
          | inl now ↦ (now.0, subst (λ (it : Option Last). IfSome it (IsKnown (call ∷ calls))) now.1 known)
          | inr before ↦ let was = holds.told other before in (was.0, known_on call calls other (λ ksn amount same. back_before call calls ksn none) was.1)
        ];
        runs = λ last runs. subst (λ (it : Option Last). IfSome it AreLastFields × IfSome it (IsKnown (call ∷ calls))) (same_last new.state is.last last is.state_is runs) (is.found.fields, known);
        only = λ last runs kept found. only kept found ∙ ap kept_of (same_last new.state is.last last is.state_is runs);
        found = λ last fields found. known_alone laws.reading (call ∷ calls) is.last last is.found.fields known fields (only (Some (last_bytes last)) found);
        waits = λ ksn amount pending opens waits. absurd (after_restart is.terminal.kept new.terminal.state pending is.terminal.opens waits);
        asked = λ ksn amount asked. Contains-append_right tells_now history (Began (payment_of ksn amount)) (holds.asked ksn amount (asked_before call calls ksn amount none asked));
        called_back = λ ksn back. let was = holds.called_back ksn (back_before call calls ksn none back) in (was.0, Contains-append_right tells_now history (Began (payment_of ksn was.0)) was.1);
        known = λ ksn amount asked. elim (holds.known ksn amount (asked_before call calls ksn amount none asked)) [
          | inl told ↦ inl (record { last = told.last; told = Contains-append_right tells_now history (Told told.last) told.told; is_of = told.is_of })
          | inr doubt ↦
              let kept = doubt.found (kept_of is.last) (is.found.cell.was_found holds.honest) in
              let it = found_of is.last ksn amount is.found.fields kept in
              elim (told_or_open ksn amount it.0 history it.2) [
                | inl told ↦ inl (subst (λ (last : Option Last). IsTold (last_told (Running last) ++ history) ksn amount) (sym it.1) told)
                | inr opened ↦ inr (record {
                  runs = λ last runs. same_last new.state last is.last runs is.state_is ∙ it.1 ∙ ap Some opened;
                  found = λ other found. subst (IsKeptOf ksn amount) (sym (only other found)) kept;
                })
              ]
        ];
      }

  pub restart_refused : (call : Call) (why : TillFault) (calls : List Call) (history : List Entry) (old new : TillOf C J) → sent_by call ≡ [] → After calls history old → TillRestartRefused cell book old new why
      → After (call ∷ calls) history new
  restart_refused call (fault.Terminal why) calls history old new none holds is =
      goes_on laws.reading book call calls history old new holds none (subst (λ it. (book.state_of it).honest) (sym is.1) holds.honest)
      (λ kept found. subst (λ it. (book.state_of it).found kept) is.1 found) (inr is.2)
  restart_refused call (fault.Store why) calls history old new none holds is = elim is.1 [
    | inl failed ↦
        let stops = failed.cell.stops in
        goes_on laws.reading book call calls history old new holds none (stops.nature.honest.0 holds.honest) (λ kept found. stops.within holds.honest kept found) (inr is.2)
    | inr damaged ↦
        let again = damaged.1.cell in
        goes_on laws.reading book call calls history old new holds none (again.settles.nature.honest.0 holds.honest)
        (λ kept found. subst (λ it. (book.state_of old.book).found it) (sym ((again.settles.finds holds.honest kept).0 found)) (again.was_found holds.honest)) (inr is.2)
  ]
  restart_refused call fault.Stopped calls history old new none holds is = absurd is
  restart_refused call fault.Open calls history old new none holds is = absurd is
  restart_refused call fault.NothingOpen calls history old new none holds is = absurd is
