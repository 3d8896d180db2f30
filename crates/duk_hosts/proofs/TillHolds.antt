-- What holds of a till through its lifetime, by what it sent and took.
use Rattle.std.proofs.Common.{◌≡◌, ◌≢◌, ◌⊎◌, ◌∷◌, [], ℕ, List, Option, Some, None, IfSome, Contains, inl, inr, refl, sym, ap, subst, ◌∙◌}
use Rattle.duk_store.specs.Cell.{CellMeaning, IsPut, Kept, PutFailed}
use Rattle.duk_store.specs.declared.fault.StoreFault.{StoreFault}
use Rattle.duk_store.specs.declared.fault.StoreFault.TheVariants as store_fault
use Rattle.duk_term.specs.Reply.{IsPending}
use Rattle.duk_term.specs.declared.state.Pending.{Pending}
use Rattle.duk_till.specs.History.{Began, Entry, IsOf, Told, payment_of}
use Rattle.duk_till.specs.Image.{IsLastBody, kept_of, last_bytes}
use Rattle.duk_till.specs.Last.{AreLastFields}
use Rattle.duk_till.specs.Lifetime.{Call}
use Rattle.duk_till.specs.Till.{IsAtRest, TillOf}
use Rattle.duk_till.specs.declared.last.Last.{Last}
use Rattle.duk_till.specs.declared.last.Last.TheVariants.{Open}
use Rattle.duk_till.specs.declared.state.TillState.{TillState}
use Rattle.duk_till.specs.declared.state.TillState.TheVariants.{Stopped, Running}
use Rattle.duk_tree.specs.Serial.{Serial}
use Rattle.duk_hosts.specs.Tills.{all_sent, sent_by}
use Rattle.duk_hosts.proofs.Members.{first_in, front_or, later_in}
use Rattle.duk_hosts.proofs.Sent.{IsAsked, IsCalledBack, IsClosed, IsKnown, asked_before, back_before, known_on}

-- bytes are the body of at most one last purchase
abbrev pub OneReading : Type 0
OneReading = (body : List ℕ) (one other : Last) → IsLastBody body one → IsLastBody body other → one ≡ other

-- ---- states and bodies

pub stopped_is_not_running : (state : TillState) (last : Option Last) → state ≡ Stopped → state ≢ Running last
stopped_is_not_running state last stopped runs = cc

pub same_last : (state : TillState) (one other : Option Last) → state ≡ Running one → state ≡ Running other → one ≡ other
same_last state one other is_one is_other = cc

pub not_open_at_rest : (state : TillState) (ksn : Serial) (amount : ℕ) → IsAtRest state → state ≢ Running (Some (Open ksn amount))
not_open_at_rest state ksn amount rest is = rest.closed ksn amount (same_last state rest.last (Some (Open ksn amount)) rest.runs is)

pub same_open : (ksn other : Serial) (amount more : ℕ) → Some (Open ksn amount) ≡ Some (Open other more) → (ksn ≡ other) × (amount ≡ more)
same_open ksn other amount more same = (cc, cc)

some_last : (last other : Last) → Some last ≡ Some other → last ≡ other
some_last last other same = cc

not_closed : (last : Last) (ksn : Serial) (amount : ℕ) → IsClosed last → Some last ≢ Some (Open ksn amount)
not_closed last ksn amount closed same = subst IsClosed (some_last last (Open ksn amount) same) closed

same_kept : (one other : Last) → Some (last_bytes one) ≡ Some (last_bytes other) → last_bytes one ≡ last_bytes other
same_kept one other same = cc

pub none_is_kept : (last : Last) → Some (last_bytes last) ≡ kept_of None → ⊥
none_is_kept last same = absurd (cc)

-- what is kept has one reading
pub one_last : OneReading → (one other : Last) → AreLastFields one → AreLastFields other → Some (last_bytes one) ≡ Some (last_bytes other) → one ≡ other
one_last reading one other a b same =
    reading (last_bytes one) one other (record { fields = a; laid_out = refl }) (record { fields = b; laid_out = same_kept one other same })

pub known_alone : OneReading → (calls : List Call) (last : Option Last) (other : Last) → IfSome last AreLastFields → IfSome last (IsKnown calls) → AreLastFields other → Some (last_bytes other) ≡ kept_of last → IsKnown calls other
known_alone reading calls None other fields known is same = absurd (none_is_kept other same)
known_alone reading calls (Some last) other fields known is same = subst (IsKnown calls) (one_last reading last other fields is (sym same)) known

-- after a write that failed a restart finds what it would have found, or the new body
pub found_then : {J : Type 0} (meaning : CellMeaning J) (old new : J) (body : List ℕ) (why : StoreFault) → (meaning.state_of old).honest → PutFailed meaning old new body why
    → (kept : Kept) → (meaning.state_of new).found kept → (meaning.state_of old).found kept ⊎ (kept ≡ Some body)
found_then meaning old new body store_fault.Device honest failed kept found = failed.stops.within honest kept found
found_then meaning old new body store_fault.Stopped honest failed kept found = inl ((failed.stays.found honest kept).0 found)
found_then meaning old new body store_fault.Worn honest failed kept found = inl ((failed.stays.found honest kept).0 found)
found_then meaning old new body _ honest failed kept found = absurd failed

pub stays_honest : {J : Type 0} (meaning : CellMeaning J) (old new : J) (body : List ℕ) (why : StoreFault) → PutFailed meaning old new body why
    → (meaning.state_of old).honest → (meaning.state_of new).honest
stays_honest meaning old new body store_fault.Device failed honest = failed.stops.nature.honest.0 honest
stays_honest meaning old new body store_fault.Stopped failed honest = failed.stays.nature.honest.0 honest
stays_honest meaning old new body store_fault.Worn failed honest = failed.stays.nature.honest.0 honest
stays_honest meaning old new body _ failed honest = absurd failed

-- ---- what became of a purchase

-- it was told
pub record IsTold (history : List Entry) (ksn : Serial) (amount : ℕ) : Type 0 where
  pub last : Last
  pub told : Contains history (Told last)
  pub is_of : IsOf (payment_of ksn amount) last

pub told_on : (entry : Entry) (history : List Entry) (ksn : Serial) (amount : ℕ) → IsTold history ksn amount → IsTold (entry ∷ history) ksn amount
told_on entry history ksn amount is = record { last = is.last; told = later_in entry history (Told is.last) is.told; is_of = is.is_of }

-- a cell may keep this of the purchase alone
pub record IsKeptOf (ksn : Serial) (amount : ℕ) (kept : Kept) : Type 0 where
  pub last : Last
  pub fields : AreLastFields last
  pub kept_is : kept ≡ Some (last_bytes last)
  pub is_of : IsOf (payment_of ksn amount) last

same_told : (last other : Last) → Told last ≡ Told other → last ≡ other
same_told last other same = cc

began_is_not_told : (last : Last) (began : _) → Told last ≡ Began began → ⊥
began_is_not_told last began same = cc

pub told_or_before : (last other : Last) (history : List Entry) → Contains (Told last ∷ history) (Told other) → (other ≡ last) ⊎ Contains history (Told other)
told_or_before last other history is_in = elim (front_or (Told last) history (Told other) is_in) [
  | inl same ↦ inl (same_told other last same)
  | inr before ↦ inr before
]

pub told_before_begin : (began : _) (other : Last) (history : List Entry) → Contains (Began began ∷ history) (Told other) → Contains history (Told other)
told_before_begin began other history is_in = elim (front_or (Began began) history (Told other) is_in) [
  | inl same ↦ absurd (began_is_not_told other began same)
  | inr before ↦ before
]

-- what is known stays known by a call that sends nothing
if_known_on : (call : Call) (calls : List Call) (last : Option Last) → sent_by call ≡ [] → IfSome last (IsKnown calls) → IfSome last (IsKnown (call ∷ calls))
if_known_on call calls None none known = tt
if_known_on call calls (Some last) none known = known_on call calls last (λ ksn amount is. back_before call calls ksn none) known

still_known : (call : Call) (calls : List Call) (last : Last) → sent_by call ≡ [] → IsKnown calls last → IsKnown (call ∷ calls) last
still_known call calls last none known = known_on call calls last (λ ksn amount is. back_before call calls ksn none) known

module _ {C J : Type 0} (reading : OneReading) (book : CellMeaning J) where
  -- its outcome is not known: it is open, or the till is stopped, and its second cell keeps it
  pub record IsInDoubt (ksn : Serial) (amount : ℕ) (till : TillOf C J) : Type 0 where
    pub runs : (last : Option Last) → till.state ≡ Running last → last ≡ Some (Open ksn amount)
    pub found : (kept : Kept) → (book.state_of till.book).found kept → IsKeptOf ksn amount kept

  -- what the second cell may find is known by the frames that were taken, and so is what was told; the
  -- purchase for whose reply the till waits was not called back; and each purchase that was asked for
  -- was told, or is in doubt
  pub record Holds (calls : List Call) (history : List Entry) (till : TillOf C J) : Type 0 where
    pub honest : (book.state_of till.book).honest
    pub told : (last : Last) → Contains history (Told last) → IsClosed last × IsKnown calls last
    pub runs : (last : Option Last) → till.state ≡ Running last → IfSome last AreLastFields × IfSome last (IsKnown calls)
    pub only : (last : Option Last) → till.state ≡ Running last → (kept : Kept) → (book.state_of till.book).found kept → kept ≡ kept_of last
    pub found : (last : Last) → AreLastFields last → (book.state_of till.book).found (Some (last_bytes last)) → IsKnown calls last
    pub waits : (ksn : Serial) (amount : ℕ) (pending : Pending) → till.state ≡ Running (Some (Open ksn amount)) → IsPending till.terminal.state pending → pending.ksn ≡ ksn → ¬ IsCalledBack (all_sent calls) ksn
    pub asked : (ksn : Serial) (amount : ℕ) → IsAsked (all_sent calls) ksn amount → Contains history (Began (payment_of ksn amount))
    pub called_back : (ksn : Serial) → IsCalledBack (all_sent calls) ksn → (amount : ℕ) × Contains history (Began (payment_of ksn amount))
    pub known : (ksn : Serial) (amount : ℕ) → IsAsked (all_sent calls) ksn amount → IsTold history ksn amount ⊎ IsInDoubt ksn amount till

  -- a till that is told nothing goes on as it was, and waits for no other reply, or it is stopped
  abbrev pub GoesOn : TillOf C J → TillOf C J → Type 0
  GoesOn old new =
      ((new.state ≡ old.state)
      × ((ksn : Serial) (amount : ℕ) (pending : Pending) → old.state ≡ Running (Some (Open ksn amount)) → IsPending new.terminal.state pending → IsPending old.terminal.state pending))
      ⊎ (new.state ≡ Stopped)

  runs_on : (old new : TillOf C J) (last : Option Last) → GoesOn old new → new.state ≡ Running last → old.state ≡ Running last
  runs_on old new last (inl same) runs = sym same.0 ∙ runs
  runs_on old new last (inr stopped) runs = absurd (stopped_is_not_running new.state last stopped runs)

  waits_on : (calls : List Call) (history : List Entry) (old new : TillOf C J) (ksn : Serial) (amount : ℕ) (pending : Pending) → Holds calls history old → GoesOn old new → new.state ≡ Running (Some (Open ksn amount))
      → IsPending new.terminal.state pending → pending.ksn ≡ ksn → ¬ IsCalledBack (all_sent calls) ksn
  waits_on calls history old new ksn amount pending holds (inl same) opens waits number =
      let opened = sym same.0 ∙ opens in
      holds.waits ksn amount pending opened (same.1 ksn amount pending opened waits) number
  waits_on calls history old new ksn amount pending holds (inr stopped) opens waits number = absurd (stopped_is_not_running new.state (Some (Open ksn amount)) stopped opens)

  -- a call that sends and tells nothing, after which no more may be found
  pub goes_on : (call : Call) (calls : List Call) (history : List Entry) (old new : TillOf C J) → Holds calls history old → sent_by call ≡ [] → (book.state_of new.book).honest
      → ((kept : Kept) → (book.state_of new.book).found kept → (book.state_of old.book).found kept) → GoesOn old new → Holds (call ∷ calls) history new
  goes_on call calls history old new holds none honest fewer on = record {
    honest = honest;
    told = λ last told. let was = holds.told last told in (was.0, still_known call calls last none was.1);
    runs = λ last runs. let was = holds.runs last (runs_on old new last on runs) in (was.0, if_known_on call calls last none was.1);
    only = λ last runs kept found. holds.only last (runs_on old new last on runs) kept (fewer kept found);
    found = λ last fields found. still_known call calls last none (holds.found last fields (fewer (Some (last_bytes last)) found));
    waits = λ ksn amount pending opens waits number back. waits_on calls history old new ksn amount pending holds on opens waits number (back_before call calls ksn none back);
    asked = λ ksn amount asked. holds.asked ksn amount (asked_before call calls ksn amount none asked);
    called_back = λ ksn back. holds.called_back ksn (back_before call calls ksn none back);
    known = λ ksn amount asked. elim (holds.known ksn amount (asked_before call calls ksn amount none asked)) [
      | inl told ↦ inl told
      | inr doubt ↦ inr (record {
        runs = λ last runs. doubt.runs last (runs_on old new last on runs);
        found = λ kept found. doubt.found kept (fewer kept found);
      })
    ];
  }

  -- a call that changes nothing
  pub unchanged : (call : Call) (calls : List Call) (history : List Entry) (old new : TillOf C J) → Holds calls history old → sent_by call ≡ [] → new ≡ old → Holds (call ∷ calls) history new
  unchanged call calls history old new holds none same =
      goes_on call calls history old new holds none (subst (λ (it : TillOf C J). (book.state_of it.book).honest) (sym same) holds.honest)
      (λ kept found. subst (λ (it : TillOf C J). (book.state_of it.book).found kept) same found)
      (inl (ap (λ (it : TillOf C J). it.state) same, λ ksn amount pending opens waits. subst (λ (it : TillOf C J). IsPending it.terminal.state pending) same waits))

  -- what became of the purchase that is open was taken, and the second cell did not keep it
  pub lost : (call : Call) (calls : List Call) (history : List Entry) (old new : TillOf C J) (ksn : Serial) (amount : ℕ) (last : Last) (why : StoreFault) → Holds calls history old → sent_by call ≡ []
      → old.state ≡ Running (Some (Open ksn amount)) → PutFailed book old.book new.book (last_bytes last) why → new.state ≡ Stopped → AreLastFields last → IsKnown (call ∷ calls) last → IsOf (payment_of ksn amount) last
      → Holds (call ∷ calls) history new
  lost call calls history old new ksn amount last why holds none opens failed stopped fields known is_of = record {
    honest = stays_honest book old.book new.book (last_bytes last) why failed holds.honest;
    told = λ other told. let was = holds.told other told in (was.0, still_known call calls other none was.1);
    runs = λ other runs. absurd (stopped_is_not_running new.state other stopped runs);
    only = λ other runs. absurd (stopped_is_not_running new.state other stopped runs);
    found = λ other is found. elim (found_then book old.book new.book (last_bytes last) why holds.honest failed (Some (last_bytes other)) found) [
      | inl before ↦ still_known call calls other none (holds.found other is before)
      | inr here ↦ subst (IsKnown (call ∷ calls)) (one_last reading last other fields is (sym here)) known
    ];
    waits = λ other more pending runs. absurd (stopped_is_not_running new.state (Some (Open other more)) stopped runs);
    asked = λ other more asked. holds.asked other more (asked_before call calls other more none asked);
    called_back = λ other back. holds.called_back other (back_before call calls other none back);
    known = λ other more asked. elim (holds.known other more (asked_before call calls other more none asked)) [
      | inl told ↦ inl told
      | inr doubt ↦
          let same = same_open ksn other amount more (doubt.runs (Some (Open ksn amount)) opens) in
          inr (record {
            runs = λ it runs. absurd (stopped_is_not_running new.state it stopped runs);
            found = λ kept found. elim (found_then book old.book new.book (last_bytes last) why holds.honest failed kept found) [
              | inl before ↦ doubt.found kept before
              | inr here ↦ record { last = last; fields = fields; kept_is = here; is_of = subst (λ (it : Serial). IsOf (payment_of it more) last) same.0 (subst (λ sum. IsOf (payment_of ksn sum) last) same.1 is_of) }
            ];
          })
    ];
  }

  -- it was taken, kept and told
  pub tells : (call : Call) (calls : List Call) (history : List Entry) (old new : TillOf C J) (ksn : Serial) (amount : ℕ) (last : Last) → Holds calls history old → sent_by call ≡ [] → old.state ≡ Running (Some (Open ksn amount))
      → IsPut book old.book new.book (last_bytes last) → new.state ≡ Running (Some last) → AreLastFields last → IsClosed last → IsKnown (call ∷ calls) last → IsOf (payment_of ksn amount) last
      → Holds (call ∷ calls) (Told last ∷ history) new
  tells call calls history old new ksn amount last holds none opens put runs_with fields closed known is_of =
      let only = λ (kept : Kept) (found : (book.state_of new.book).found kept). (put.settles.finds holds.honest kept).0 found in
      record {
        honest = put.settles.nature.honest.0 holds.honest;
        told = λ other told. elim (told_or_before last other history told) [
          | inl same ↦ subst (λ it. IsClosed it × IsKnown (call ∷ calls) it) (sym same) (closed, known)
          | inr before ↦ let was = holds.told other before in (was.0, still_known call calls other none was.1)
        ];
        runs = λ other runs. subst (λ (it : Option Last). IfSome it AreLastFields × IfSome it (IsKnown (call ∷ calls))) (same_last new.state (Some last) other runs_with runs) (fields, known);
        only = λ other runs kept found. only kept found ∙ ap kept_of (same_last new.state (Some last) other runs_with runs);
        found = λ other is found. known_alone reading (call ∷ calls) (Some last) other fields known is (only (Some (last_bytes other)) found);
        waits = λ other more pending runs. absurd (not_closed last other more closed (same_last new.state (Some last) (Some (Open other more)) runs_with runs));
        asked = λ other more asked. later_in (Told last) history (Began (payment_of other more)) (holds.asked other more (asked_before call calls other more none asked));
        called_back = λ other back. let was = holds.called_back other (back_before call calls other none back) in (was.0, later_in (Told last) history (Began (payment_of other was.0)) was.1);
        known = λ other more asked. elim (holds.known other more (asked_before call calls other more none asked)) [
          | inl told ↦ inl (told_on (Told last) history other more told)
          | inr doubt ↦
              let same = same_open ksn other amount more (doubt.runs (Some (Open ksn amount)) opens) in
              inl (record { last = last; told = first_in (Told last) history; is_of = subst (λ (it : Serial). IsOf (payment_of it more) last) same.0 (subst (λ sum. IsOf (payment_of ksn sum) last) same.1 is_of) })
        ];
      }
