-- What becomes of a number once it is reversed.
use Rattle.std.proofs.Common.{◌≡◌, ◌⊎◌, ℕ, List, [], ◌∷◌, ◌++◌, Contains, inl, inr, refl, sym, subst, append_assoc}
use Rattle.std.proofs.lemmas.List.{append-nil}
use Rattle.std.proofs.lemmas.List.Concat.{flat_map-append}
use Rattle.std.proofs.lemmas.List.Elements.{Contains-append_cases, Contains-append_left, Contains-append_right}
use Rattle.duk_host.specs.Lifetime.{AcceptsNumber}
use Rattle.duk_journal.specs.Groups.{Entries}
use Rattle.duk_journal.specs.Standing.{Stands, numbers_in, reversed_in, reversed_numbers, used_by}
use Rattle.duk_journal.specs.declared.entry.Entry.{Entry}
use Rattle.duk_tree.specs.Serial.{Serial}
use Rattle.duk_journal_host.specs.Steps.{IsAnswerOf, IsAsked, IsDismissed, added_by}
use Rattle.duk_journal_host.specs.declared.settlement.Settled.{Settled}
use Rattle.duk_journal_host.specs.declared.settlement.Settled.TheVariants as settled
use Rattle.duk_journal_host.specs.declared.settlement.Settlement.TheVariants.{Full, Kept, KnownAgain, Used}
use Rattle.duk_journal_host.specs.declared.candidate.Candidate.{Candidate}
use Rattle.duk_hosts.specs.Book.{Book, Bound, IsSettledIn}
use Rattle.duk_hosts.specs.Events.{Answers, AreSettledIn, Event, Hosts, IsCandidateOf, IsHistory, IsHistoryFrom, Judges, MayHappen, Outcome, Refuses, Settles, Turn, all_answers, all_given, all_outcomes, entries_of, given_in, kept_after, outcomes_of, turn}
use Rattle.duk_hosts.specs.Told.{AcceptsPayment, RefusesPayment, WasAccepted}
use Rattle.duk_hosts.proofs.Accepted.{accepted_payment, not_dismissed}
use Rattle.duk_hosts.proofs.Again.{settled_after, settled_in}
use Rattle.duk_hosts.proofs.Histories.{kept_more}
use Rattle.duk_hosts.proofs.Members.{first_in, flat_from, flat_in, front_or, later_in, made_of, none_in, the_only}
use Rattle.duk_hosts.proofs.Settling.{asked_of}
use Rattle.duk_hosts.proofs.Standing.{KeepsReplies, founded_run}
use Rattle.duk_hosts.proofs.Turns.{StepLaws}

reversed_more : (entries more : Entries) (number : Serial) → Contains (reversed_numbers entries) number → Contains (reversed_numbers (entries ++ more)) number
reversed_more entries more number reversed =
    subst (λ numbers. Contains numbers number) (sym (flat_map-append (λ (entry : Entry). reversed_in entry.number entry.decided) entries more))
    (Contains-append_left (reversed_numbers entries) (reversed_numbers more) number reversed)

reversed_used : (entries : Entries) (number : Serial) → Contains (reversed_numbers entries) number → Contains (used_by entries) number
reversed_used entries number contains =
    let from = flat_from (λ (entry : Entry). reversed_in entry.number entry.decided) entries number contains in
    flat_in numbers_in entries from.0 number from.1 (Contains-append_right (from.0.number ∷ []) (reversed_in from.0.number from.0.decided) number from.2)

-- a payment of a reversed number is refused
refused_one : (bound : Bound) (entries : Entries) (candidate : Candidate) (done : Settled) (number : Serial) → IsSettledIn bound entries candidate done → Contains (reversed_numbers entries) number → RefusesPayment number done
refused_one bound entries candidate (settled.Payment same Used) number settles reversed = λ is. refl
refused_one bound entries candidate (settled.Payment same (Kept given)) number settles reversed =
    λ is. absurd (settles.1.0.new (subst (λ number. Contains (used_by entries) number) (sym is) (reversed_used entries number reversed)))
refused_one bound entries candidate (settled.Payment same Full) number settles reversed =
    λ is. absurd (settles.1.1 (subst (λ number. Contains (used_by entries) number) (sym is) (reversed_used entries number reversed)))
refused_one bound entries candidate (settled.Payment same (KnownAgain given)) number settles reversed =
    λ is. absurd (settles.1.not_undone (subst (λ number. Contains (reversed_numbers entries) number) (sym is) reversed))
refused_one bound entries candidate (settled.Reversal same settlement) number settles reversed = tt

refused_since : (bound : Bound) (entries : Entries) (outcomes : List Outcome) (number : Serial) (outcome : Outcome) → AreSettledIn bound entries outcomes → Contains (reversed_numbers entries) number → Contains outcomes outcome
    → RefusesPayment number outcome.settled
refused_since bound entries [] number outcome settles reversed is_in = absurd (none_in outcome is_in)
refused_since bound entries (first ∷ others) number outcome settles reversed is_in = elim (front_or first others outcome is_in) [
  | inl same ↦ subst (λ (outcome : Outcome). RefusesPayment number outcome.settled) (sym same) (refused_one bound entries first.judged.candidate first.settled number settles.0 reversed)
  | inr later ↦ refused_since bound (entries ++ added_by first.settled) others number outcome settles.1 (reversed_more entries (added_by first.settled) number reversed) later
]

pub refused_later : (hosts : Hosts) (book : Book) (events later : List Event) (number : Serial) (outcome : Outcome) → IsHistory hosts book (events ++ later) → Contains (reversed_numbers (kept_after book events)) number
    → Contains (all_outcomes later) outcome → RefusesPayment number outcome.settled
refused_later hosts book events later number outcome history reversed is_in =
    let all = subst (λ outcomes. AreSettledIn book.bound book.first outcomes) (flat_map-append outcomes_of events later) (settled_in hosts book (events ++ later) history) in
    refused_since book.bound (kept_after book events) (all_outcomes later) number outcome (settled_after book.bound book.first (all_outcomes events) (all_outcomes later) all) reversed is_in

-- ---- what is answered was settled

from_middle : (hosts : Hosts) (book : Book) (before events later : List Event) → IsHistoryFrom hosts book before (events ++ later) → IsHistoryFrom hosts book (before ++ events) later
from_middle hosts book before [] later history = subst (λ events. IsHistoryFrom hosts book events later) (sym (append-nil before)) history
from_middle hosts book before (event ∷ events) later history =
    subst (λ events. IsHistoryFrom hosts book events later) (append_assoc before (event ∷ []) events) (from_middle hosts book (before ++ event ∷ []) events later history.1)

settled_more : (events later : List Event) (outcome : Outcome) → Contains (all_outcomes events) outcome → Contains (all_outcomes (events ++ later)) outcome
settled_more events later outcome is_in =
    subst (λ outcomes. Contains outcomes outcome) (sym (flat_map-append outcomes_of events later)) (Contains-append_left (all_outcomes events) (all_outcomes later) outcome is_in)

-- what a host gave is a refusal by the keys, or the answer to what was settled before
abbrev IsGiven : Hosts → List Event → Turn → Type 0
IsGiven hosts events one = IsDismissed hosts.keys one.ask.frame one.answer
    ⊎ ((outcome : Outcome) × Contains (all_outcomes events) outcome × IsAnswerOf hosts.keys outcome.settled one.answer)

given_by_event : (hosts : Hosts) (book : Book) (before : List Event) (event : Event) (one : Turn) → MayHappen hosts book before event → Contains (given_in event) one → IsGiven hosts before one
given_by_event hosts book before (Refuses ask answer) one may is_in = inl (subst (λ (one : Turn). IsDismissed hosts.keys one.ask.frame one.answer) (sym (the_only (turn ask answer) one is_in)) may)
given_by_event hosts book before (Judges judged) one may is_in = absurd (none_in one is_in)
given_by_event hosts book before (Settles group) one may is_in = absurd (none_in one is_in)
given_by_event hosts book before (Answers outcome answer) one may is_in =
    inr (outcome, may.0, subst (λ (one : Turn). IsAnswerOf hosts.keys outcome.settled one.answer) (sym (the_only (turn outcome.judged.ask answer) one is_in)) may.1)

given_more : (hosts : Hosts) (events later : List Event) (one : Turn) → IsGiven hosts events one → IsGiven hosts (events ++ later) one
given_more hosts events later one (inl dismissed) = inl dismissed
given_more hosts events later one (inr (outcome, is_in, answers)) = inr (outcome, settled_more events later outcome is_in, answers)

given_since : (hosts : Hosts) (book : Book) (before later : List Event) (one : Turn) → IsHistoryFrom hosts book before later → Contains (all_given later) one → IsGiven hosts (before ++ later) one
given_since hosts book before [] one history is_in = absurd (none_in one is_in)
given_since hosts book before (event ∷ later) one history is_in = elim (Contains-append_cases (given_in event) (all_given later) one is_in) [
  | inl now ↦ given_more hosts before (event ∷ later) one (given_by_event hosts book before event one history.0 now)
  | inr rest ↦ subst (λ events. IsGiven hosts events one) (append_assoc before (event ∷ []) later)
      (given_since hosts book (before ++ event ∷ []) later one history.1 rest)
]

not_kept : {T : Type 0} (outcome : T) → Kept outcome ≡ Used → ⊥
not_kept outcome same = cc

not_known : {T : Type 0} (outcome : T) → KnownAgain outcome ≡ Used → ⊥
not_known outcome same = cc

-- what is refused is not accepted
not_both : (number : Serial) (done : Settled) → RefusesPayment number done → ¬ AcceptsPayment number done
not_both number (settled.Payment purchase (Kept code)) refuses accepts = not_kept code (refuses accepts.0)
not_both number (settled.Payment purchase (KnownAgain code)) refuses accepts = not_known code (refuses accepts.0)
not_both number (settled.Payment purchase Used) refuses accepts = accepts.1
not_both number (settled.Payment purchase Full) refuses accepts = accepts.1
not_both number (settled.Reversal reversal settlement) refuses accepts = accepts

-- what is settled was asked
pub asked_in : (hosts : Hosts) (bound : Bound) (entries : Entries) (outcomes : List Outcome) (outcome : Outcome) → ((outcome : Outcome) → Contains outcomes outcome → IsCandidateOf hosts outcome.judged.ask outcome.judged.candidate)
    → AreSettledIn bound entries outcomes → Contains outcomes outcome → IsAsked hosts.keys outcome.judged.ask.frame outcome.settled
asked_in hosts bound entries [] outcome are settles is_in = absurd (none_in outcome is_in)
asked_in hosts bound entries (first ∷ others) outcome are settles is_in = elim (front_or first others outcome is_in) [
  | inl same ↦ subst (λ (outcome : Outcome). IsAsked hosts.keys outcome.judged.ask.frame outcome.settled) (sym same)
      (asked_of hosts bound entries first.judged.ask first.judged.candidate first.settled (are first (first_in first others)) settles.0)
  | inr later ↦ asked_in hosts bound (entries ++ added_by first.settled) others outcome (λ other is_in. are other (later_in first others other is_in)) settles.1 later
]

pub late_answer : (laws : StepLaws) (replies : KeepsReplies) (hosts : Hosts) (book : Book) (events later : List Event) (number : Serial) (answer : List ℕ) → IsHistory hosts book (events ++ later)
    → Contains (reversed_numbers (kept_after book events)) number → Contains (all_answers later) answer → AcceptsNumber number answer → WasAccepted hosts events number answer
late_answer laws replies hosts book events later number answer history reversed is_in accepts =
    let from = made_of (λ (one : Turn). one.answer) (all_given later) answer is_in in
    let one = from.0 in
    let own : AcceptsNumber number one.answer = subst (λ answer. AcceptsNumber number answer) from.2 accepts in
    let run = founded_run laws hosts book (events ++ later) history in
    subst (λ answer. WasAccepted hosts events number answer) (sym from.2) (elim (given_since hosts book events later one (from_middle hosts book [] events later history) from.1) [
      | inl dismissed ↦ absurd (not_dismissed laws replies hosts.keys (hosts.decides one.ask.host) one.ask.frame one.answer number own dismissed)
      | inr given ↦
          let outcome = given.0 in
          let asked = asked_in hosts book.bound book.first (all_outcomes (events ++ later)) outcome run.were (settled_in hosts book (events ++ later) history) given.1 in
          let takes = accepted_payment laws replies hosts.keys (hosts.decides outcome.judged.ask.host) outcome.judged.ask.frame one.answer number own outcome.settled asked given.2 in
          elim (Contains-append_cases (all_outcomes events) (all_outcomes later) outcome (subst (λ outcomes. Contains outcomes outcome) (flat_map-append outcomes_of events later) given.1)) [
            | inl before ↦ record { outcome = outcome; settled = before; accepts = takes; answers = given.2 }
            | inr since ↦ absurd (not_both number outcome.settled (refused_later hosts book events later number outcome history reversed since) takes)
          ]
    ])

pub never : (book : Book) (events later : List Event) (number : Serial) → Contains (reversed_numbers (kept_after book events)) number → ¬ Stands (kept_after book (events ++ later)) number
never book events later number reversed stands =
    stands.not_undone (subst (λ entries. Contains (reversed_numbers entries) number) (sym (kept_more book events later)) (reversed_more (kept_after book events) (entries_of (all_outcomes later)) number reversed))
