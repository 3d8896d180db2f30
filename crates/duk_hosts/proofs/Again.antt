-- All that is settled, in its order; and what is settled again.
use Rattle.std.proofs.Common.{◌≡◌, ◌⊎◌, ◌≤◌, ℕ, List, [], ◌∷◌, ◌++◌, Contains, inl, inr, refl, sym, ap, subst, ◌∙◌, append_assoc, arith, length-append}
use Rattle.std.proofs.lemmas.Bool.Decides.{nat_tests}
use Rattle.std.proofs.lemmas.List.{append-nil}
use Rattle.std.proofs.lemmas.List.Concat.{flat_map-append}
use Rattle.std.proofs.lemmas.List.Elements.{Contains-append_left, Contains-append_right}
use Rattle.duk_journal.specs.Groups.{Entries}
use Rattle.duk_journal.specs.Standing.{numbers_in, payment_entry, reversed_in, used_by}
use Rattle.duk_journal.specs.declared.entry.Entry.{Entry}
use Rattle.duk_reversal.specs.declared.reversal.Reversal.{Reversal}
use Rattle.duk_tree.specs.Serial.{Serial}
use Rattle.duk_journal_host.specs.Judgement.{reversal_entry, room_for_payments}
use Rattle.duk_journal_host.specs.Steps.{added_by, number_in}
use Rattle.duk_journal_host.specs.declared.authentic.Purchase.{Purchase}
use Rattle.duk_journal_host.specs.declared.settlement.Settled.{Settled}
use Rattle.duk_journal_host.specs.declared.settlement.Settled.TheVariants as settled
use Rattle.duk_journal_host.specs.declared.settlement.Settlement.{Settlement}
use Rattle.duk_journal_host.specs.declared.settlement.Settlement.TheVariants.{Full, Kept, KnownAgain, Used}
use Rattle.duk_journal_host.specs.declared.candidate.Candidate.{Candidate}
use Rattle.duk_journal_host.specs.declared.candidate.Candidate.TheVariants as sent
use Rattle.duk_hosts.specs.Book.{AtMost, Book, Bound, IsSettledIn, NoBound, capacity_of, room_of}
use Rattle.duk_hosts.specs.Events.{Answers, AreSettledIn, Event, Hosts, IsHistory, IsHistoryFrom, Judges, MayHappen, Outcome, Refuses, Settles, all_outcomes, entries_of, kept_after, outcomes_of}
use Rattle.duk_hosts.specs.Told.{FindsNoRoom, HasNoRoom, IsSettledAgain}
use Rattle.duk_hosts.proofs.Members.{flat_end, flat_in, front_or, none_in, the_one}
use Rattle.duk_hosts.proofs.Settling.{answers_kept}

-- ---- groups that follow one another are one

pub settled_join : (bound : Bound) (entries : Entries) (outcomes more : List Outcome) → AreSettledIn bound entries outcomes → AreSettledIn bound (entries ++ entries_of outcomes) more → AreSettledIn bound entries (outcomes ++ more)
settled_join bound entries [] more first then = subst (λ entries. AreSettledIn bound entries more) (append-nil entries) then
settled_join bound entries (outcome ∷ others) more first then = (
  first.0,
  settled_join bound (entries ++ added_by outcome.settled) others more first.1
      (subst (λ entries. AreSettledIn bound entries more) (sym (append_assoc entries (added_by outcome.settled) (entries_of others))) then),
)

pub settled_after : (bound : Bound) (entries : Entries) (outcomes more : List Outcome) → AreSettledIn bound entries (outcomes ++ more) → AreSettledIn bound (entries ++ entries_of outcomes) more
settled_after bound entries [] more all = subst (λ entries. AreSettledIn bound entries more) (sym (append-nil entries)) all
settled_after bound entries (outcome ∷ others) more all =
    subst (λ entries. AreSettledIn bound entries more) (append_assoc entries (added_by outcome.settled) (entries_of others))
    (settled_after bound (entries ++ added_by outcome.settled) others more all.1)

pub settled_before : (bound : Bound) (entries : Entries) (outcomes more : List Outcome) → AreSettledIn bound entries (outcomes ++ more) → AreSettledIn bound entries outcomes
settled_before bound entries [] more all = tt
settled_before bound entries (outcome ∷ others) more all = (all.0, settled_before bound (entries ++ added_by outcome.settled) others more all.1)

settled_in_event : (hosts : Hosts) (book : Book) (before : List Event) (event : Event) → MayHappen hosts book before event → AreSettledIn book.bound (kept_after book before) (outcomes_of event)
settled_in_event hosts book before (Refuses ask answer) may = tt
settled_in_event hosts book before (Judges judged) may = tt
settled_in_event hosts book before (Settles group) may = may.1
settled_in_event hosts book before (Answers outcome answer) may = tt

-- all that is settled is settled in turn
pub all_settled : (hosts : Hosts) (book : Book) (before events : List Event) → AreSettledIn book.bound book.first (all_outcomes before) → IsHistoryFrom hosts book before events
    → AreSettledIn book.bound book.first (all_outcomes (before ++ events))
all_settled hosts book before [] first history = subst (λ events. AreSettledIn book.bound book.first (all_outcomes events)) (sym (append-nil before)) first
all_settled hosts book before (event ∷ events) first history =
    let both = settled_join book.bound book.first (all_outcomes before) (outcomes_of event) first (settled_in_event hosts book before event history.0) in
    let then = subst (λ outcomes. AreSettledIn book.bound book.first outcomes) (sym (flat_end outcomes_of before event)) both in
    subst (λ events. AreSettledIn book.bound book.first (all_outcomes events)) (append_assoc before (event ∷ []) events)
    (all_settled hosts book (before ++ event ∷ []) events then history.1)

pub settled_in : (hosts : Hosts) (book : Book) (events : List Event) → IsHistory hosts book events → AreSettledIn book.bound book.first (all_outcomes events)
settled_in hosts book events history = all_settled hosts book [] events tt history

-- ---- a number that was settled is used

pub used_more : (entries more : Entries) (number : Serial) → Contains (used_by entries) number → Contains (used_by (entries ++ more)) number
used_more entries more number used =
    subst (λ numbers. Contains numbers number) (sym (flat_map-append numbers_in entries more)) (Contains-append_left (used_by entries) (used_by more) number used)

pub own_used : (entries : Entries) (entry : Entry) → Contains entries entry → Contains (used_by entries) entry.number
own_used entries entry is_in =
    flat_in numbers_in entries entry entry.number is_in (Contains-append_left (entry.number ∷ []) (reversed_in entry.number entry.decided) entry.number (the_one entry.number))

own_added : (entries : Entries) (entry : Entry) → Contains (used_by (entries ++ entry ∷ [])) entry.number
own_added entries entry = own_used (entries ++ entry ∷ []) entry (Contains-append_right entries (entry ∷ []) entry (the_one entry))

used_by_one : (bound : Bound) (entries : Entries) (candidate : Candidate) (done : Settled) → IsSettledIn bound entries candidate done → ¬ FindsNoRoom done → Contains (used_by (entries ++ added_by done)) (number_in done)
used_by_one bound entries candidate (settled.Payment same (Kept given)) settles room = own_added entries (payment_entry same.number same.amount given same.mac)
used_by_one bound entries candidate (settled.Payment same (KnownAgain given)) settles room =
    let entry = payment_entry same.number settles.1.amount given same.mac in
    used_more entries [] same.number (own_used entries entry (answers_kept bound entries entry settles.1.kept))
used_by_one bound entries candidate (settled.Payment same Used) settles room = used_more entries [] same.number settles.1.1
used_by_one bound entries candidate (settled.Payment same Full) settles room = absurd (room tt)
used_by_one bound entries candidate (settled.Reversal same (Kept state)) settles room = own_added entries (reversal_entry same state)
used_by_one bound entries candidate (settled.Reversal same (KnownAgain state)) settles room =
    let entry = reversal_entry same state in
    used_more entries [] same.numbers.ksn (own_used entries entry (answers_kept bound entries entry settles.1))
used_by_one bound entries candidate (settled.Reversal same Used) settles room = used_more entries [] same.numbers.ksn settles.1.1
used_by_one bound entries candidate (settled.Reversal same Full) settles room = absurd (room tt)

used_since : (bound : Bound) (entries : Entries) (outcomes : List Outcome) (earlier : Outcome) → AreSettledIn bound entries outcomes → Contains outcomes earlier → ¬ FindsNoRoom earlier.settled
    → Contains (used_by (entries ++ entries_of outcomes)) (number_in earlier.settled)
used_since bound entries [] earlier settles is_in room = absurd (none_in earlier is_in)
used_since bound entries (outcome ∷ others) earlier settles is_in room =
    let first = added_by outcome.settled in
    let number = number_in earlier.settled in
    subst (λ entries. Contains (used_by entries) number) (append_assoc entries first (entries_of others)) (elim (front_or outcome others earlier is_in) [
      | inl same ↦ used_more (entries ++ first) (entries_of others) number
          (subst (λ (outcome : Outcome). Contains (used_by (entries ++ first)) (number_in outcome.settled)) (sym same)
          (used_by_one bound entries outcome.judged.candidate outcome.settled settles.0 (subst (λ (outcome : Outcome). ¬ FindsNoRoom outcome.settled) same room)))
      | inr later ↦ used_since bound (entries ++ first) others earlier settles.1 later room
    ])

-- what has a used number is known again or used
of_used : (bound : Bound) (entries : Entries) (candidate : Candidate) (done : Settled) → IsSettledIn bound entries candidate done → Contains (used_by entries) (number_in done) → IsSettledAgain done
of_used bound entries candidate (settled.Payment same (Kept given)) settles used = absurd (settles.1.0.new used)
of_used bound entries candidate (settled.Payment same (KnownAgain given)) settles used = tt
of_used bound entries candidate (settled.Payment same Used) settles used = tt
of_used bound entries candidate (settled.Payment same Full) settles used = absurd (settles.1.1 used)
of_used bound entries candidate (settled.Reversal same (Kept state)) settles used = absurd (settles.1.0.new used)
of_used bound entries candidate (settled.Reversal same (KnownAgain state)) settles used = tt
of_used bound entries candidate (settled.Reversal same Used) settles used = tt
of_used bound entries candidate (settled.Reversal same Full) settles used = absurd (settles.1.1 used)

pub known_again : (bound : Bound) (entries : Entries) (before after : List Outcome) (earlier again : Outcome) → AreSettledIn bound entries (before ++ again ∷ after) → Contains before earlier → number_in earlier.settled ≡ number_in again.settled
    → ¬ FindsNoRoom earlier.settled → IsSettledAgain again.settled
known_again bound entries before after earlier again settles is_in same room =
    let used = used_since bound entries before earlier (settled_before bound entries before (again ∷ after) settles) is_in room in
    let then = settled_after bound entries before (again ∷ after) settles in
    of_used bound (entries ++ entries_of before) again.judged.candidate again.settled then.0 (subst (λ number. Contains (used_by (entries ++ entries_of before)) number) same used)

-- ---- where there was no room

-- there is none for a candidate
abbrev HasNone : Bound → Entries → Candidate → Type 0
HasNone bound entries (sent.Payment purchase code) = room_for_payments (capacity_of bound) (room_of bound entries) ≡ 0
HasNone bound entries (sent.Reversal reversal) = room_of bound entries ≡ 0

no_payments_later : (capacity room less : ℕ) → less ≤ room → room_for_payments capacity room ≡ 0 → room_for_payments capacity less ≡ 0
no_payments_later capacity room less below none = grind (arith, nat_tests)

less_room : (bound : Bound) (entries more : Entries) → room_of bound (entries ++ more) ≤ room_of bound entries
less_room (AtMost capacity) entries more = omega (arith, length-append entries more)
less_room NoBound entries more = omega arith

none_later : (bound : Bound) (entries more : Entries) (candidate : Candidate) → HasNone bound entries candidate → HasNone bound (entries ++ more) candidate
none_later bound entries more (sent.Payment purchase code) none =
    no_payments_later (capacity_of bound) (room_of bound entries) (room_of bound (entries ++ more)) (less_room bound entries more) none
none_later bound entries more (sent.Reversal reversal) none = omega (arith, less_room bound entries more, none)

none_for_one : (bound : Bound) (entries : Entries) (candidate : Candidate) (done : Settled) → IsSettledIn bound entries candidate done → FindsNoRoom done → HasNone bound entries candidate
none_for_one bound entries (sent.Payment purchase code) (settled.Payment same Full) settles full = settles.1.2
none_for_one bound entries (sent.Payment purchase code) (settled.Payment same Used) settles full = absurd full
none_for_one bound entries (sent.Payment purchase code) (settled.Payment same (Kept given)) settles full = absurd full
none_for_one bound entries (sent.Payment purchase code) (settled.Payment same (KnownAgain given)) settles full = absurd full
none_for_one bound entries (sent.Payment purchase code) (settled.Reversal same settlement) settles full = absurd settles.0
none_for_one bound entries (sent.Reversal reversal) (settled.Payment same settlement) settles full = absurd settles.0
none_for_one bound entries (sent.Reversal reversal) (settled.Reversal same Full) settles full = settles.1.2
none_for_one bound entries (sent.Reversal reversal) (settled.Reversal same Used) settles full = absurd full
none_for_one bound entries (sent.Reversal reversal) (settled.Reversal same (Kept state)) settles full = absurd full
none_for_one bound entries (sent.Reversal reversal) (settled.Reversal same (KnownAgain state)) settles full = absurd full

none_since : (bound : Bound) (entries : Entries) (outcomes : List Outcome) (earlier : Outcome) → AreSettledIn bound entries outcomes → Contains outcomes earlier → FindsNoRoom earlier.settled
    → HasNone bound (entries ++ entries_of outcomes) earlier.judged.candidate
none_since bound entries [] earlier settles is_in full = absurd (none_in earlier is_in)
none_since bound entries (outcome ∷ others) earlier settles is_in full =
    let first = added_by outcome.settled in
    elim (front_or outcome others earlier is_in) [
      | inl same ↦ none_later bound entries (first ++ entries_of others) earlier.judged.candidate
          (subst (λ (outcome : Outcome). HasNone bound entries outcome.judged.candidate) (sym same)
          (none_for_one bound entries outcome.judged.candidate outcome.settled settles.0 (subst (λ (outcome : Outcome). FindsNoRoom outcome.settled) same full)))
      | inr later ↦ subst (λ entries. HasNone bound entries earlier.judged.candidate) (append_assoc entries first (entries_of others))
          (none_since bound (entries ++ first) others earlier settles.1 later full)
    ]

-- without room nothing is added
none_added : (bound : Bound) (entries : Entries) (candidate : Candidate) (done : Settled) → IsSettledIn bound entries candidate done → HasNone bound entries candidate → added_by done ≡ []
none_added bound entries (sent.Payment purchase code) (settled.Payment same (Kept given)) settles none = absurd (omega (arith, settles.1.0.room_left, none))
none_added bound entries (sent.Payment purchase code) (settled.Payment same (KnownAgain given)) settles none = refl
none_added bound entries (sent.Payment purchase code) (settled.Payment same Used) settles none = refl
none_added bound entries (sent.Payment purchase code) (settled.Payment same Full) settles none = refl
none_added bound entries (sent.Payment purchase code) (settled.Reversal same settlement) settles none = absurd settles.0
none_added bound entries (sent.Reversal reversal) (settled.Payment same settlement) settles none = absurd settles.0
none_added bound entries (sent.Reversal reversal) (settled.Reversal same (Kept state)) settles none = absurd (omega (arith, settles.1.0.room_left, none))
none_added bound entries (sent.Reversal reversal) (settled.Reversal same (KnownAgain state)) settles none = refl
none_added bound entries (sent.Reversal reversal) (settled.Reversal same Used) settles none = refl
none_added bound entries (sent.Reversal reversal) (settled.Reversal same Full) settles none = refl

-- what is settled again adds nothing
again_added : (done : Settled) → IsSettledAgain done → added_by done ≡ []
again_added (settled.Payment purchase (KnownAgain code)) is = refl
again_added (settled.Payment purchase Used) is = refl
again_added (settled.Payment purchase (Kept code)) is = absurd is
again_added (settled.Payment purchase Full) is = absurd is
again_added (settled.Reversal reversal (KnownAgain state)) is = refl
again_added (settled.Reversal reversal Used) is = refl
again_added (settled.Reversal reversal (Kept state)) is = absurd is
again_added (settled.Reversal reversal Full) is = absurd is

room_or : {T : Type 0} (settlement : Settlement T) → HasNoRoom settlement ⊎ (¬ HasNoRoom settlement)
room_or Full = inl tt
room_or Used = inr (λ full. full)
room_or (Kept outcome) = inr (λ full. full)
room_or (KnownAgain outcome) = inr (λ full. full)

no_room_or : (done : Settled) → FindsNoRoom done ⊎ (¬ FindsNoRoom done)
no_room_or (settled.Payment purchase settlement) = room_or settlement
no_room_or (settled.Reversal reversal settlement) = room_or settlement

-- the number of a candidate
abbrev number_of : Candidate → Serial
number_of (sent.Payment purchase code) = purchase.number
number_of (sent.Reversal reversal) = reversal.numbers.ksn

number_is : (bound : Bound) (entries : Entries) (candidate : Candidate) (done : Settled) → IsSettledIn bound entries candidate done → number_in done ≡ number_of candidate
number_is bound entries (sent.Payment purchase code) (settled.Payment same settlement) settles = ap (λ (purchase : Purchase). purchase.number) settles.0
number_is bound entries (sent.Payment purchase code) (settled.Reversal same settlement) settles = absurd settles.0
number_is bound entries (sent.Reversal reversal) (settled.Payment same settlement) settles = absurd settles.0
number_is bound entries (sent.Reversal reversal) (settled.Reversal same settlement) settles = ap (λ (reversal : Reversal). reversal.numbers.ksn) settles.0

numbers_since : (bound : Bound) (entries : Entries) (outcomes : List Outcome) (earlier : Outcome) → AreSettledIn bound entries outcomes → Contains outcomes earlier → number_in earlier.settled ≡ number_of earlier.judged.candidate
numbers_since bound entries [] earlier settles is_in = absurd (none_in earlier is_in)
numbers_since bound entries (outcome ∷ others) earlier settles is_in = elim (front_or outcome others earlier is_in) [
  | inl same ↦ subst (λ (outcome : Outcome). number_in outcome.settled ≡ number_of outcome.judged.candidate) (sym same) (number_is bound entries outcome.judged.candidate outcome.settled settles.0)
  | inr later ↦ numbers_since bound (entries ++ added_by outcome.settled) others earlier settles.1 later
]

pub nothing_again : (bound : Bound) (entries : Entries) (before after : List Outcome) (earlier again : Outcome) → AreSettledIn bound entries (before ++ again ∷ after) → Contains before earlier
    → earlier.judged.candidate ≡ again.judged.candidate → added_by again.settled ≡ []
nothing_again bound entries before after earlier again settles is_in same =
    let first = settled_before bound entries before (again ∷ after) settles in
    let then = settled_after bound entries before (again ∷ after) settles in
    let kept = entries ++ entries_of before in
    elim (no_room_or earlier.settled) [
      | inl full ↦ none_added bound kept again.judged.candidate again.settled then.0 (subst (λ candidate. HasNone bound kept candidate) same (none_since bound entries before earlier first is_in full))
      | inr room ↦
          let numbers : number_in earlier.settled ≡ number_in again.settled =
          numbers_since bound entries before earlier first is_in ∙ ap number_of same ∙ sym (number_is bound kept again.judged.candidate again.settled then.0) in
          again_added again.settled (known_again bound entries before after earlier again settles is_in numbers room)
    ]
