-- What a history says of a last purchase, as it grows.
use Rattle.std.proofs.Common.{◌≡◌, ◌≢◌, ◌⊎◌, ◌↔◌, inl, inr, ℕ, zero, suc, List, [], ◌∷◌, ◌++◌, Option, Some, None, Contains, ap, arith, refl, subst, sym, ◌∙◌}
use Rattle.std.proofs.lemmas.List.Elements.{Contains-append_cases, Contains-append_right}
use Rattle.duk_frame.specs.declared.code.Code.{Code}
use Rattle.duk_frame.specs.declared.code.Code.TheVariants as code
use Rattle.duk_tree.specs.Serial.{Serial}
use Rattle.duk_till.specs.History.{Began, Entry, HasBegun, IsEverToldAs, IsOf, IsToldAlike, IsToldAs, IsToldOfBegun, IsToldSince, NothingElseSince, NothingElseTold, NothingElseToldOf, Told, ToldIsKept, TookNewNumbers, payment_of}
use Rattle.duk_till.specs.Last.{number_of, outcome_of}
use Rattle.duk_till.specs.Lifetime.{last_told}
use Rattle.duk_till.specs.declared.last.Last.{Last}
use Rattle.duk_till.specs.declared.last.Last.TheVariants.{Open, Approved, Declined, Undone}
use Rattle.duk_till.specs.declared.last.Payment.{Payment}
use Rattle.duk_till.specs.declared.state.TillState.TheVariants.{Running}

-- ---- entries

pub none_in : {A : Type 0} (thing : A) → ¬ Contains [] thing
none_in thing (k, within, is) = omega (arith, within)

first_in : {A : Type 0} (first : A) (rest : List A) → Contains (first ∷ rest) first
first_in first rest = (0, omega arith, refl)

pub later_in : {A : Type 0} (first : A) (rest : List A) (thing : A) → Contains rest thing → Contains (first ∷ rest) thing
later_in first rest thing is_in = Contains-append_right (first ∷ []) rest thing is_in

first_or_later : {A : Type 0} (first : A) (rest : List A) (thing : A) → Contains (first ∷ rest) thing → (thing ≡ first) ⊎ Contains rest thing
first_or_later first rest thing (zero, within, is) = inl (sym is)
first_or_later first rest thing (suc k, within, is) = inr (k, omega (arith, within), is)

told_or_later : (last told : Last) (rest : List Entry) → Contains (Told last ∷ rest) (Told told) → (told ≡ last) ⊎ Contains rest (Told told)
told_or_later last told rest is_in = elim (first_or_later (Told last) rest (Told told) is_in) [
  | inl same ↦ inl (cc)
  | inr later ↦ inr later
]

told_later : (began : Payment) (told : Last) (rest : List Entry) → Contains (Began began ∷ rest) (Told told) → Contains rest (Told told)
told_later began told rest is_in = elim (first_or_later (Began began) rest (Told told) is_in) [
  | inl same ↦ absurd (cc)
  | inr later ↦ later
]

pub began_later : (last : Last) (began : Payment) (rest : List Entry) → Contains (Told last ∷ rest) (Began began) → Contains rest (Began began)
began_later last began rest is_in = elim (first_or_later (Told last) rest (Began began) is_in) [
  | inl same ↦ absurd (cc)
  | inr later ↦ later
]

pub began_or_later : (first began : Payment) (rest : List Entry) → Contains (Began first ∷ rest) (Began began) → (began ≡ first) ⊎ Contains rest (Began began)
began_or_later first began rest is_in = elim (first_or_later (Began first) rest (Began began) is_in) [
  | inl same ↦ inl (cc)
  | inr later ↦ inr later
]

-- ---- what is told again

-- it is known what became of the purchase
abbrev pub IsOutcome : Last → Type 0
IsOutcome (Open ksn amount) = ⊥
IsOutcome (Approved ksn amount) = Unit {0}
IsOutcome (Declined ksn why) = Unit {0}
IsOutcome (Undone ksn) = Unit {0}

told_too : (since : List Entry) (last : Last) → ((told : Last) → Contains since (Told told) → told ≡ last) → (told : Last) → Contains (Told last ∷ since) (Told told) ↔ (told ≡ last)
told_too since last nothing_else told = (
  λ is_in. elim (told_or_later last told since is_in) [ inl same ↦ same | inr later ↦ nothing_else told later ],
  λ same. subst (λ (it : Last). Contains (Told last ∷ since) (Told it)) (sym same) (first_in (Told last) since),
)

told_since : (since : List Entry) (last : Last) → IsOutcome last → NothingElseSince since last → IsToldSince (Told last ∷ since) last
told_since since (Open ksn amount) outcome nothing_else = absurd outcome
told_since since (Approved ksn amount) outcome nothing_else = told_too since (Approved ksn amount) nothing_else
told_since since (Declined ksn why) outcome nothing_else = told_too since (Declined ksn why) nothing_else
told_since since (Undone ksn) outcome nothing_else = told_too since (Undone ksn) nothing_else

has_begun_before : (entry : Entry) (history since : List Entry) (last : Last) → HasBegun history last since → HasBegun (entry ∷ history) last (entry ∷ since)
has_begun_before entry history since last begun = record {
  began = begun.began;
  earlier = begun.earlier;
  history_is = ap (λ (rest : List Entry). entry ∷ rest) begun.history_is;
  is_of = begun.is_of;
}

told_again : (history : List Entry) (last : Last) → IsOutcome last → NothingElseToldOf history last → IsToldAs (Told last ∷ history) last
told_again history last outcome nothing_else = record {
  since = Told last ∷ nothing_else.since;
  begun = has_begun_before (Told last) history nothing_else.since last nothing_else.begun;
  told = told_since nothing_else.since last outcome nothing_else.told;
}

-- a restart tells what it finds
pub told_by_restart : (history : List Entry) (last : Option Last) → NothingElseTold history last → ToldIsKept (last_told (Running last) ++ history) last
told_by_restart history None nothing = nothing
told_by_restart history (Some (Open ksn amount)) nothing_else = record { since = nothing_else.since; begun = nothing_else.begun; told = nothing_else.told }
told_by_restart history (Some (Approved ksn amount)) nothing_else = told_again history (Approved ksn amount) tt nothing_else
told_by_restart history (Some (Declined ksn why)) nothing_else = told_again history (Declined ksn why) tt nothing_else
told_by_restart history (Some (Undone ksn)) nothing_else = told_again history (Undone ksn) tt nothing_else

-- ---- what became of an open purchase

none_since : (since : List Entry) (last : Last) → since ≡ [] → IsOutcome last → NothingElseSince since last
none_since since (Open ksn amount) none outcome = absurd outcome
none_since since (Approved ksn amount) none outcome = λ told is_in. absurd (none_in (Told told) (subst (λ (l : List Entry). Contains l (Told told)) none is_in))
none_since since (Declined ksn why) none outcome = λ told is_in. absurd (none_in (Told told) (subst (λ (l : List Entry). Contains l (Told told)) none is_in))
none_since since (Undone ksn) none outcome = λ told is_in. absurd (none_in (Told told) (subst (λ (l : List Entry). Contains l (Told told)) none is_in))

-- where a purchase is open, nothing else was told of what may become of it
closed_of_open :
    (history : List Entry) (ksn : Serial) (amount : ℕ) (last : Last) → IsOutcome last → ((began : Payment) → began ≡ payment_of ksn amount → IsOf began last) → NothingElseToldOf history (Open ksn amount)
    → NothingElseToldOf history last
closed_of_open history ksn amount last outcome is_of was = record {
  since = was.since;
  begun = record { began = was.begun.began; earlier = was.begun.earlier; history_is = was.begun.history_is; is_of = is_of was.begun.began was.begun.is_of };
  told = none_since was.since last was.told outcome;
}

outcome_is : (ksn : Serial) (amount : ℕ) (why : Code) → IsOutcome (outcome_of ksn amount why)
outcome_is ksn amount code.Approved = tt
outcome_is ksn amount code.NoCard = tt
outcome_is ksn amount code.WrongPin = tt
outcome_is ksn amount code.OverLimit = tt
outcome_is ksn amount code.Unreadable = tt

is_of_outcome : (ksn : Serial) (amount : ℕ) (why : Code) (began : Payment) → began ≡ payment_of ksn amount → IsOf began (outcome_of ksn amount why)
is_of_outcome ksn amount code.Approved began is = is
is_of_outcome ksn amount code.NoCard began is = ap (λ (it : Payment). it.ksn) is
is_of_outcome ksn amount code.WrongPin began is = ap (λ (it : Payment). it.ksn) is
is_of_outcome ksn amount code.OverLimit began is = ap (λ (it : Payment). it.ksn) is
is_of_outcome ksn amount code.Unreadable began is = ap (λ (it : Payment). it.ksn) is

pub outcome_not_told : (history : List Entry) (ksn : Serial) (amount : ℕ) (why : Code) → NothingElseToldOf history (Open ksn amount) → NothingElseToldOf history (outcome_of ksn amount why)
outcome_not_told history ksn amount why = closed_of_open history ksn amount (outcome_of ksn amount why) (outcome_is ksn amount why) (is_of_outcome ksn amount why)

pub outcome_told_as : (history : List Entry) (ksn : Serial) (amount : ℕ) (why : Code) → NothingElseToldOf history (Open ksn amount)
    → IsToldAs (Told (outcome_of ksn amount why) ∷ history) (outcome_of ksn amount why)
outcome_told_as history ksn amount why was = told_again history (outcome_of ksn amount why) (outcome_is ksn amount why) (outcome_not_told history ksn amount why was)

pub undone_not_told : (history : List Entry) (ksn : Serial) (amount : ℕ) → NothingElseToldOf history (Open ksn amount) → NothingElseToldOf history (Undone ksn)
undone_not_told history ksn amount = closed_of_open history ksn amount (Undone ksn) tt (λ began is. ap (λ (it : Payment). it.ksn) is)

pub undone_told_as : (history : List Entry) (ksn : Serial) (amount : ℕ) → NothingElseToldOf history (Open ksn amount) → IsToldAs (Told (Undone ksn) ∷ history) (Undone ksn)
undone_told_as history ksn amount was = told_again history (Undone ksn) tt (undone_not_told history ksn amount was)

-- ---- a purchase begins

pub open_told_as : (history : List Entry) (ksn : Serial) (amount : ℕ) → IsToldAs (Began (payment_of ksn amount) ∷ history) (Open ksn amount)
open_told_as history ksn amount = record {
  since = [];
  begun = record { began = payment_of ksn amount; earlier = history; history_is = refl; is_of = refl };
  told = refl;
}

since_begin : (began : Payment) (since : List Entry) (last : Last) → IsOutcome last → NothingElseSince since last → NothingElseSince (Began began ∷ since) last
since_begin began since (Open ksn amount) outcome nothing_else = absurd outcome
since_begin began since (Approved ksn amount) outcome nothing_else = λ told is_in. nothing_else told (told_later began told since is_in)
since_begin began since (Declined ksn why) outcome nothing_else = λ told is_in. nothing_else told (told_later began told since is_in)
since_begin began since (Undone ksn) outcome nothing_else = λ told is_in. nothing_else told (told_later began told since is_in)

after_begin : (began : Payment) (history : List Entry) (last : Last) → IsOutcome last → NothingElseToldOf history last → NothingElseToldOf (Began began ∷ history) last
after_begin began history last outcome was = record {
  since = Began began ∷ was.since;
  begun = has_begun_before (Began began) history was.since last was.begun;
  told = since_begin began was.since last outcome was.told;
}

-- another begins while none is open
pub other_begins : (began : Payment) (history : List Entry) (last : Option Last) → ((ksn : Serial) (amount : ℕ) → last ≢ Some (Open ksn amount)) → NothingElseTold history last
    → NothingElseTold (Began began ∷ history) last
other_begins began history None closed nothing = λ told is_in. nothing told (told_later began told history is_in)
other_begins began history (Some (Open ksn amount)) closed was = absurd (closed ksn amount refl)
other_begins began history (Some (Approved ksn amount)) closed was = after_begin began history (Approved ksn amount) tt was
other_begins began history (Some (Declined ksn why)) closed was = after_begin began history (Declined ksn why) tt was
other_begins began history (Some (Undone ksn)) closed was = after_begin began history (Undone ksn) tt was

-- ---- what was told is nothing else

since_only : (since : List Entry) (last : Last) → IsToldSince since last → NothingElseSince since last
since_only since (Open ksn amount) told = told
since_only since (Approved ksn amount) told = λ it is_in. (told it).0 is_in
since_only since (Declined ksn why) told = λ it is_in. (told it).0 is_in
since_only since (Undone ksn) told = λ it is_in. (told it).0 is_in

pub nothing_else : (history : List Entry) (last : Option Last) → ToldIsKept history last → NothingElseTold history last
nothing_else history None nothing = nothing
nothing_else history (Some last) is = record { since = is.since; begun = is.begun; told = since_only is.since last is.told }

-- ---- numbers

number_is : (began : Payment) (last : Last) → IsOf began last → began.ksn ≡ number_of last
number_is began (Open ksn amount) is = ap (λ (it : Payment). it.ksn) is
number_is began (Approved ksn amount) is = ap (λ (it : Payment). it.ksn) is
number_is began (Declined ksn why) is = is
number_is began (Undone ksn) is = is

-- each thing that was told is of a purchase that had begun by then
abbrev pub AreToldAfterBegun : List Entry → Type 0
AreToldAfterBegun [] = Unit {0}
AreToldAfterBegun (Began began ∷ earlier) = AreToldAfterBegun earlier
AreToldAfterBegun (Told told ∷ earlier) = ((began : Payment) × Contains earlier (Began began) × IsOf began told) × AreToldAfterBegun earlier

pub begun_of_told : (history : List Entry) → AreToldAfterBegun history → IsToldOfBegun history
begun_of_told [] are told is_in = absurd (none_in (Told told) is_in)
begun_of_told (Began began ∷ earlier) are told is_in =
    let found = begun_of_told earlier are told (told_later began told earlier is_in) in
    (found.0, later_in (Began began) earlier (Began found.0) found.1, found.2)
begun_of_told (Told last ∷ earlier) are told is_in = elim (told_or_later last told earlier is_in) [
  | inl same ↦ (are.0.0, later_in (Told last) earlier (Began are.0.0) are.0.1, subst (IsOf are.0.0) (sym same) are.0.2)
  | inr later ↦ let found = begun_of_told earlier are.1 told later in (found.0, later_in (Told last) earlier (Began found.0) found.1, found.2)
]

new_numbers_before : (since earlier : List Entry) → TookNewNumbers (since ++ earlier) → TookNewNumbers earlier
new_numbers_before [] earlier are = are
new_numbers_before (Began began ∷ since) earlier are = new_numbers_before since earlier are.1
new_numbers_before (Told told ∷ since) earlier are = new_numbers_before since earlier are

told_before : (since earlier : List Entry) → AreToldAfterBegun (since ++ earlier) → AreToldAfterBegun earlier
told_before [] earlier are = are
told_before (Began began ∷ since) earlier are = told_before since earlier are
told_before (Told told ∷ since) earlier are = told_before since earlier are.1

-- what was told of a purchase was told since it began
told_since_begun :
    (history since : List Entry) (last told : Last) → TookNewNumbers history → AreToldAfterBegun history → HasBegun history last since → Contains history (Told told) → number_of told ≡ number_of last
    → Contains since (Told told)
told_since_begun history since last told new after begun is_in same_number =
    let rest : List Entry = Began begun.began ∷ begun.earlier in
    elim (Contains-append_cases since rest (Told told) (subst (λ (l : List Entry). Contains l (Told told)) begun.history_is is_in)) [
      | inl here ↦ here
      | inr older ↦
          let new_then : TookNewNumbers rest = new_numbers_before since rest (subst TookNewNumbers begun.history_is new) in
          let after_then : AreToldAfterBegun rest = told_before since rest (subst AreToldAfterBegun begun.history_is after) in
          let found = begun_of_told begun.earlier after_then told (told_later begun.began told begun.earlier older) in
          absurd (new_then.0 found.0 found.1 (number_is found.0 told found.2 ∙ same_number ∙ sym (number_is begun.began last begun.is_of)))
    ]

pub ever_told_as : (history : List Entry) (last : Last) → TookNewNumbers history → AreToldAfterBegun history → NothingElseToldOf history last → IsEverToldAs history last
ever_told_as history (Open ksn amount) new after is = λ told is_in same_number.
    none_in (Told told) (subst (λ (l : List Entry). Contains l (Told told)) is.told (told_since_begun history is.since (Open ksn amount) told new after is.begun is_in same_number))
ever_told_as history (Approved ksn amount) new after is = λ told is_in same_number. is.told told (told_since_begun history is.since (Approved ksn amount) told new after is.begun is_in same_number)
ever_told_as history (Declined ksn why) new after is = λ told is_in same_number. is.told told (told_since_begun history is.since (Declined ksn why) told new after is.begun is_in same_number)
ever_told_as history (Undone ksn) new after is = λ told is_in same_number. is.told told (told_since_begun history is.since (Undone ksn) told new after is.begun is_in same_number)

-- the last thing told is of a purchase that had begun
pub begun_before_told : (earlier : List Entry) (last : Last) → IsToldAs (Told last ∷ earlier) last → (began : Payment) × Contains earlier (Began began) × IsOf began last
begun_before_told earlier last is =
    let began = is.begun.began in
    let in_all : Contains (Told last ∷ earlier) (Began began) =
    subst (λ (l : List Entry). Contains l (Began began)) (sym is.begun.history_is) (Contains-append_right is.since (Began began ∷ is.begun.earlier) (Began began) (first_in (Began began) is.begun.earlier)) in
    (began, began_later last began earlier in_all, is.begun.is_of)

pub told_alike_after_begin : (began : Payment) (earlier : List Entry) → IsToldAlike earlier → IsToldAlike (Began began ∷ earlier)
told_alike_after_begin began earlier alike one other in_one in_other same = alike one other (told_later began one earlier in_one) (told_later began other earlier in_other) same

pub told_alike_after_told : (last : Last) (earlier : List Entry) → ((told : Last) → Contains (Told last ∷ earlier) (Told told) → number_of told ≡ number_of last → told ≡ last) → IsToldAlike earlier
    → IsToldAlike (Told last ∷ earlier)
told_alike_after_told last earlier ever alike one other in_one in_other same = elim (told_or_later last one earlier in_one) [
  | inl first ↦ first ∙ sym (ever other in_other (sym same ∙ ap number_of first))
  | inr later ↦ elim (told_or_later last other earlier in_other) [
    | inl first ↦ ever one in_one (same ∙ ap number_of first) ∙ sym first
    | inr older ↦ alike one other later older same
  ]
]

pub same_as_ever : (history : List Entry) (last : Last) → IsEverToldAs history last → (told : Last) → Contains history (Told told) → number_of told ≡ number_of last → told ≡ last
same_as_ever history (Open ksn amount) ever told is_in same = absurd (ever told is_in same)
same_as_ever history (Approved ksn amount) ever told is_in same = ever told is_in same
same_as_ever history (Declined ksn why) ever told is_in same = ever told is_in same
same_as_ever history (Undone ksn) ever told is_in same = ever told is_in same
