-- Whatever happened, what was judged may be settled, and what was settled may be answered.
use Rattle.std.proofs.Common.{◌≡◌, ◌≢◌, ◌⊎◌, ℕ, zero, suc, List, [], ◌∷◌, ◌++◌, Contains, flat_map, inl, inr, map, refl, sym, ap, subst, ◌∙◌, append_assoc, arith}
use Rattle.std.proofs.lemmas.List.{append-nil}
use Rattle.duk_frame.specs.declared.code.Code.{Code}
use Rattle.duk_frame.specs.declared.code.Code.TheVariants.{Approved, NoCard, OverLimit, Unreadable, WrongPin}
use Rattle.duk_journal.specs.Groups.{Entries}
use Rattle.duk_journal.specs.Standing.{payment_entry, reversed_numbers, used_by}
use Rattle.duk_journal.specs.declared.entry.Decided.{Decided}
use Rattle.duk_journal.specs.declared.entry.Decided.TheVariants.{Payment, Reversal}
use Rattle.duk_journal.specs.declared.entry.Entry.{Entry}
use Rattle.duk_reversal.specs.declared.reversal.Reversal as reversal_frame
use Rattle.duk_reversal.specs.declared.state.ReversalState.{ReversalState}
use Rattle.duk_reversal.specs.declared.state.ReversalState.TheVariants.{NoneStands, Undone}
use Rattle.duk_store.specs.Log.{Numbers}
use Rattle.duk_tree.specs.Serial.{Serial}
use Rattle.duk_journal_host.specs.Candidate.{IsCandidate}
use Rattle.duk_journal_host.specs.Judgement.{FindsState, reversal_entry, room_for_payments}
use Rattle.duk_journal_host.specs.Steps.{IsAnswerOf, IsDismissed, IsSettlement, IsUnknown, added_by}
use Rattle.duk_journal_host.specs.declared.authentic.Purchase.{Purchase}
use Rattle.duk_journal_host.specs.declared.settlement.Settled.{Settled}
use Rattle.duk_journal_host.specs.declared.settlement.Settled.TheVariants as settled
use Rattle.duk_journal_host.specs.declared.settlement.Settlement.{Settlement}
use Rattle.duk_journal_host.specs.declared.settlement.Settlement.TheVariants.{Full, Kept, KnownAgain, Used}
use Rattle.duk_journal_host.specs.declared.candidate.Candidate.{Candidate}
use Rattle.duk_journal_host.specs.declared.candidate.Candidate.TheVariants as sent
use Rattle.duk_hosts.specs.Book.{AreSettledInTurn, Book, Bound, IsSettledIn, KnowsPurchase, KnowsReversal, answerable, capacity_of, room_of}
use Rattle.duk_hosts.specs.Events.{Answers, AreSettledIn, Ask, Event, Hosts, IsHistory, IsHistoryFrom, Judged, Judges, MayHappen, Outcome, Refuses, Settles, all_outcomes, entries_of, kept_after}
use Rattle.duk_hosts.proofs.Histories.{kept_more}
use Rattle.duk_hosts.proofs.Members.{first_in, front_or, later_in, map_in, none_in}

-- ---- one thing or another

pub nat_or : (one other : ℕ) → (one ≡ other) ⊎ (one ≢ other)
nat_or zero zero = inl refl
nat_or zero (suc other) = inr (λ same. absurd (omega (arith, same)))
nat_or (suc one) zero = inr (λ same. absurd (omega (arith, same)))
nat_or (suc one) (suc other) = elim (nat_or one other) [
  | inl same ↦ inl (ap suc same)
  | inr differ ↦ inr (λ same. differ (omega (arith, same)))
]

no_head : (first : ℕ) (rest : List ℕ) → [] ≡ first ∷ rest → ⊥
no_head first rest same = cc

same_head : (one other : ℕ) (ones others : List ℕ) → one ∷ ones ≡ other ∷ others → one ≡ other
same_head one other ones others same = cc

same_rest : (one other : ℕ) (ones others : List ℕ) → one ∷ ones ≡ other ∷ others → ones ≡ others
same_rest one other ones others same = cc

bytes_or : (one other : List ℕ) → (one ≡ other) ⊎ (one ≢ other)
bytes_or [] [] = inl refl
bytes_or [] (other ∷ others) = inr (λ same. no_head other others same)
bytes_or (one ∷ ones) [] = inr (λ same. no_head one ones (sym same))
bytes_or (one ∷ ones) (other ∷ others) = elim (nat_or one other) [
  | inr differ ↦ inr (λ same. differ (same_head one other ones others same))
  | inl same ↦ elim (bytes_or ones others) [
    | inr differ ↦ inr (λ all. differ (same_rest one other ones others all))
    | inl rest ↦ inl (ap (λ first. first ∷ ones) same ∙ ap (λ rest. other ∷ rest) rest)
  ]
]

pub number_or : (one other : Serial) → (one ≡ other) ⊎ (one ≢ other)
number_or one other = elim (nat_or one.iksn other.iksn) [
  | inr differ ↦ inr (λ same. differ (ap (λ (number : Serial). number.iksn) same))
  | inl same ↦ elim (nat_or one.counter other.counter) [
    | inr differ ↦ inr (λ all. differ (ap (λ (number : Serial). number.counter) all))
    | inl counter ↦ inl (ap (λ iksn. record { iksn = iksn; counter = one.counter }) same ∙ ap (λ counter. record { iksn = other.iksn; counter = counter }) counter)
  ]
]

-- a list has a thing of a kind, or none
find_or : {A : Type 0} (Is : A → Type 0) → ((thing : A) → Is thing ⊎ (¬ Is thing)) → (things : List A) → ((thing : A) × Contains things thing × Is thing) ⊎ ((thing : A) → Contains things thing → ¬ Is thing)
find_or Is decide [] = inr (λ thing is_in. absurd (none_in thing is_in))
find_or Is decide (first ∷ things) = elim (decide first) [
  | inl is ↦ inl (first, first_in first things, is)
  | inr not ↦ elim (find_or Is decide things) [
    | inl found ↦ inl (found.0, later_in first things found.0 found.1, found.2)
    | inr none ↦ inr (λ thing is_in. elim (front_or first things thing is_in) [
      | inl same ↦ subst (λ thing. ¬ Is thing) (sym same) not
      | inr later ↦ none thing later
    ])
  ]
]

contains_or : (numbers : Numbers) (number : Serial) → Contains numbers number ⊎ (¬ Contains numbers number)
contains_or numbers number = elim (find_or (λ other. other ≡ number) (λ other. number_or other number) numbers) [
  | inl found ↦ inl (subst (λ number. Contains numbers number) found.2 found.1)
  | inr none ↦ inr (λ is_in. none number is_in refl)
]

-- ---- entries of a payment, and of a reversal

no_reversal : (amount : ℕ) (code : Code) (counter : ℕ) (state : ReversalState) → Payment amount code ≡ Reversal counter state → ⊥
no_reversal amount code counter state same = cc

same_counter : (counter other : ℕ) (state told : ReversalState) → Reversal counter state ≡ Reversal other told → counter ≡ other
same_counter counter other state told same = cc

same_code : (amount other : ℕ) (code given : Code) → Payment amount code ≡ Payment other given → code ≡ given
same_code amount other code given same = cc

abbrev IsPaymentOf : Serial → List ℕ → Entry → Type 0
IsPaymentOf number mac entry = (amount : ℕ) × (code : Code) × (entry ≡ payment_entry number amount code mac)

payment_by : (number own : Serial) (mac also : List ℕ) (decided : Decided)
    → IsPaymentOf number mac (record { number = own; decided = decided; mac = also }) ⊎ (¬ IsPaymentOf number mac (record { number = own; decided = decided; mac = also }))
payment_by number own mac also (Reversal counter state) = inr (λ is. no_reversal is.0 is.1 counter state (sym (ap (λ (entry : Entry). entry.decided) is.2)))
payment_by number own mac also (Payment amount code) = elim (number_or own number) [
  | inr differ ↦ inr (λ is. differ (ap (λ (entry : Entry). entry.number) is.2))
  | inl same ↦ elim (bytes_or also mac) [
    | inr differ ↦ inr (λ is. differ (ap (λ (entry : Entry). entry.mac) is.2))
    | inl macs ↦ inl (amount, code, ap (λ number. payment_entry number amount code also) same ∙ ap (λ mac. payment_entry number amount code mac) macs)
  ]
]

abbrev IsReversalOf : reversal_frame.Reversal → Entry → Type 0
IsReversalOf reversal entry = (state : ReversalState) × (entry ≡ reversal_entry reversal state)

reversal_by : (reversal : reversal_frame.Reversal) (own : Serial) (also : List ℕ) (decided : Decided)
    → IsReversalOf reversal (record { number = own; decided = decided; mac = also }) ⊎ (¬ IsReversalOf reversal (record { number = own; decided = decided; mac = also }))
reversal_by reversal own also (Payment amount code) = inr (λ is. no_reversal amount code reversal.numbers.reversed.counter is.0 (ap (λ (entry : Entry). entry.decided) is.1))
reversal_by reversal own also (Reversal counter state) = elim (number_or own reversal.numbers.ksn) [
  | inr differ ↦ inr (λ is. differ (ap (λ (entry : Entry). entry.number) is.1))
  | inl same ↦ elim (bytes_or also reversal.mac) [
    | inr differ ↦ inr (λ is. differ (ap (λ (entry : Entry). entry.mac) is.1))
    | inl macs ↦ elim (nat_or counter reversal.numbers.reversed.counter) [
      | inr differ ↦ inr (λ is. differ (same_counter counter reversal.numbers.reversed.counter state is.0 (ap (λ (entry : Entry). entry.decided) is.1)))
      | inl counters ↦ inl (
        state,
        ap (λ number. record { number = number; decided = Reversal counter state; mac = also }) same
            ∙ ap (λ mac. record { number = reversal.numbers.ksn; decided = Reversal counter state; mac = mac }) macs
            ∙ ap (λ counter. record { number = reversal.numbers.ksn; decided = Reversal counter state; mac = reversal.mac }) counters,
      )
    ]
  ]
]

abbrev IsApprovedOf : Serial → Entry → Type 0
IsApprovedOf number entry = (amount : ℕ) × (mac : List ℕ) × (entry ≡ payment_entry number amount Approved mac)

no_card : NoCard ≡ Approved → ⊥
no_card same = cc

wrong_pin : WrongPin ≡ Approved → ⊥
wrong_pin same = cc

over_limit : OverLimit ≡ Approved → ⊥
over_limit same = cc

unreadable : Unreadable ≡ Approved → ⊥
unreadable same = cc

approved_or : (code : Code) → (code ≡ Approved) ⊎ (code ≢ Approved)
approved_or Approved = inl refl
approved_or NoCard = inr no_card
approved_or WrongPin = inr wrong_pin
approved_or OverLimit = inr over_limit
approved_or Unreadable = inr unreadable

approved_by : (number own : Serial) (also : List ℕ) (decided : Decided)
    → IsApprovedOf number (record { number = own; decided = decided; mac = also }) ⊎ (¬ IsApprovedOf number (record { number = own; decided = decided; mac = also }))
approved_by number own also (Reversal counter state) = inr (λ is. no_reversal is.0 Approved counter state (sym (ap (λ (entry : Entry). entry.decided) is.2)))
approved_by number own also (Payment amount code) = elim (number_or own number) [
  | inr differ ↦ inr (λ is. differ (ap (λ (entry : Entry). entry.number) is.2))
  | inl same ↦ elim (approved_or code) [
    | inr differ ↦ inr (λ is. differ (same_code amount is.0 code Approved (ap (λ (entry : Entry). entry.decided) is.2)))
    | inl approved ↦ inl (amount, also, ap (λ number. payment_entry number amount code also) same ∙ ap (λ code. payment_entry number amount code also) approved)
  ]
]

-- ---- a candidate is settled by any entries

settled_so : {T : Type 0} (entries : Entries) (number : Serial) (room : ℕ) (known comes : T → Type 0) → ((outcome : T) × known outcome) ⊎ IsUnknown known → Contains (used_by entries) number ⊎ (¬ Contains (used_by entries) number)
    → ((outcome : T) × comes outcome) → (settlement : Settlement T) × IsSettlement entries number room known comes settlement
settled_so entries number room known comes (inl (outcome, is)) used gives = (KnownAgain outcome, is)
settled_so entries number room known comes (inr unknown) (inl used) gives = (Used, (unknown, used))
settled_so entries number zero known comes (inr unknown) (inr new) gives = (Full, (unknown, new, refl))
settled_so entries number (suc room) known comes (inr unknown) (inr new) gives = (Kept gives.0, (record { new = new; room_left = omega arith }, gives.1))

purchase_known_or : (bound : Bound) (entries : Entries) (purchase : Purchase) → ((code : Code) × KnowsPurchase bound entries purchase code) ⊎ IsUnknown (KnowsPurchase bound entries purchase)
purchase_known_or bound entries purchase = elim (contains_or (reversed_numbers entries) purchase.number) [
  | inl reversed ↦ inr (λ code knows. knows.not_undone reversed)
  | inr not_undone ↦ elim (find_or (IsPaymentOf purchase.number purchase.mac) (λ (entry : Entry). payment_by purchase.number entry.number purchase.mac entry.mac entry.decided) (answerable bound entries)) [
    | inl found ↦
        let is = found.2 in
        inl (is.1, record { amount = is.0; kept = subst (λ entry. Contains (answerable bound entries) entry) is.2 found.1; not_undone = not_undone })
    | inr none ↦ inr (λ code knows. none (payment_entry purchase.number knows.amount code purchase.mac) knows.kept (knows.amount, code, refl))
  ]
]

reversal_known_or : (bound : Bound) (entries : Entries) (reversal : reversal_frame.Reversal) → ((state : ReversalState) × KnowsReversal bound entries reversal state) ⊎ IsUnknown (KnowsReversal bound entries reversal)
reversal_known_or bound entries reversal = elim (find_or (IsReversalOf reversal) (λ (entry : Entry). reversal_by reversal entry.number entry.mac entry.decided) (answerable bound entries)) [
  | inl found ↦ let is = found.2 in inl (is.0, subst (λ entry. Contains (answerable bound entries) entry) is.1 found.1)
  | inr none ↦ inr (λ state knows. none (reversal_entry reversal state) knows (state, refl))
]

finds_some : (entries : Entries) (number : Serial) → (state : ReversalState) × FindsState entries number state
finds_some entries number = elim (find_or (IsApprovedOf number) (λ (entry : Entry). approved_by number entry.number entry.mac entry.decided) entries) [
  | inl found ↦ let is = found.2 in (Undone, record { amount = is.0; mac = is.1; kept = subst (λ entry. Contains entries entry) is.2 found.1 })
  | inr none ↦ (NoneStands, λ has. none (payment_entry number has.amount Approved has.mac) has.kept (has.amount, has.mac, refl))
]

pub settled_somehow : (bound : Bound) (entries : Entries) (candidate : Candidate) → (done : Settled) × IsSettledIn bound entries candidate done
settled_somehow bound entries (sent.Payment purchase code) =
    let comes : (given : Code) × (given ≡ code) = (code, refl) in
    let so = settled_so entries purchase.number (room_for_payments (capacity_of bound) (room_of bound entries)) (KnowsPurchase bound entries purchase) (λ given. given ≡ code)
    (purchase_known_or bound entries purchase) (contains_or (used_by entries) purchase.number) comes in
    (settled.Payment purchase so.0, (refl, so.1))
settled_somehow bound entries (sent.Reversal reversal) =
    let so = settled_so entries reversal.numbers.ksn (room_of bound entries) (KnowsReversal bound entries reversal) (FindsState entries reversal.numbers.reversed)
    (reversal_known_or bound entries reversal) (contains_or (used_by entries) reversal.numbers.ksn) (finds_some entries reversal.numbers.reversed) in
    (settled.Reversal reversal so.0, (refl, so.1))

-- ---- one event more

pub one_more : (hosts : Hosts) (book : Book) (before events : List Event) (event : Event) → IsHistoryFrom hosts book before events → MayHappen hosts book (before ++ events) event → IsHistoryFrom hosts book before (events ++ event ∷ [])
one_more hosts book before [] event history may = (subst (λ events. MayHappen hosts book events event) (append-nil before) may, tt)
one_more hosts book before (first ∷ events) event history may =
    (history.0, one_more hosts book (before ++ first ∷ []) events event history.1 (subst (λ events. MayHappen hosts book events event) (sym (append_assoc before (first ∷ []) events)) may))

-- any frame may be judged, and any may be refused
pub refused_now : (hosts : Hosts) (book : Book) (events : List Event) (ask : Ask) (answer : List ℕ) → IsHistory hosts book events → IsDismissed hosts.keys ask.frame answer → IsHistory hosts book (events ++ Refuses ask answer ∷ [])
refused_now hosts book events ask answer history is = one_more hosts book [] events (Refuses ask answer) history is

pub judged_now : (hosts : Hosts) (book : Book) (events : List Event) (judged : Judged) → IsHistory hosts book events → IsCandidate hosts.keys (hosts.decides judged.ask.host) judged.ask.frame judged.candidate
    → IsHistory hosts book (events ++ Judges judged ∷ [])
judged_now hosts book events judged history is = one_more hosts book [] events (Judges judged) history is

-- judged candidates are settled in turn, somehow
abbrev with_settled : Judged → Settled → Outcome
with_settled judged done = record { judged = judged; settled = done }

all_somehow : (bound : Bound) (entries : Entries) (group : List Judged) → (outcomes : List Outcome) × (map (λ (outcome : Outcome). outcome.judged) outcomes ≡ group) × AreSettledIn bound entries outcomes
all_somehow bound entries [] = ([], refl, tt)
all_somehow bound entries (judged ∷ group) =
    let done = settled_somehow bound entries judged.candidate in
    let others = all_somehow bound (entries ++ added_by done.0) group in
    (with_settled judged done.0 ∷ others.0, ap (λ (rest : List Judged). judged ∷ rest) others.1, (done.1, others.2))

pub settled_now : (hosts : Hosts) (book : Book) (events : List Event) (group : List Judged) → IsHistory hosts book events → ((judged : Judged) → Contains group judged → Contains events (Judges judged))
    → (outcomes : List Outcome) × (map (λ (outcome : Outcome). outcome.judged) outcomes ≡ group) × IsHistory hosts book (events ++ Settles outcomes ∷ [])
settled_now hosts book events group history were =
    let all = all_somehow book.bound (kept_after book events) group in (
      all.0,
      all.1,
      one_more hosts book [] events (Settles all.0) history (
        λ outcome is_in. were outcome.judged (subst (λ (group : List Judged). Contains group outcome.judged) all.1 (map_in (λ (it : Outcome). it.judged) all.0 outcome is_in)),
        all.2,
      ),
    )

pub answered_now : (hosts : Hosts) (book : Book) (events : List Event) (outcome : Outcome) (answer : List ℕ) → IsHistory hosts book events → Contains (all_outcomes events) outcome → IsAnswerOf hosts.keys outcome.settled answer
    → IsHistory hosts book (events ++ Answers outcome answer ∷ [])
answered_now hosts book events outcome answer history was answers = one_more hosts book [] events (Answers outcome answer) history (was, answers)

-- ---- what is settled in turn

pub happens_in_turn : (hosts : Hosts) (book : Book) (events : List Event) (group : List Outcome) → IsHistory hosts book events → ((outcome : Outcome) → Contains group outcome → Contains events (Judges outcome.judged))
    → AreSettledInTurn book.bound (kept_after book events) (map (λ (outcome : Outcome). outcome.judged.candidate) group) (map (λ (outcome : Outcome). outcome.settled) group) → IsHistory hosts book (events ++ Settles group ∷ [])
happens_in_turn hosts book events group history were settles = one_more hosts book [] events (Settles group) history (were, settles)

added_in : (group : List Outcome) → flat_map added_by (map (λ (outcome : Outcome). outcome.settled) group) ≡ entries_of group
added_in [] = refl
added_in (outcome ∷ group) = ap (λ (others : Entries). added_by outcome.settled ++ others) (added_in group)

pub keeps_in_turn : (book : Book) (events : List Event) (group : List Outcome) → kept_after book (events ++ Settles group ∷ []) ≡ kept_after book events ++ flat_map added_by (map (λ (outcome : Outcome). outcome.settled) group)
keeps_in_turn book events group =
    kept_more book events (Settles group ∷ [])
    ∙ ap (λ (outcomes : List Outcome). kept_after book events ++ entries_of outcomes) (append-nil group)
    ∙ ap (λ (entries : Entries). kept_after book events ++ entries) (sym (added_in group))
