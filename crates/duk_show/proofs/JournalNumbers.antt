-- The numbers that the entries of a journal use.
use Rattle.std.proofs.Common.{◌≡◌, ◌⊎◌, ℕ, zero, suc, ◌<◌, ◌+◌, List, [], ◌∷◌, ◌++◌, Contains, flat_map, length, get_or, take, inl, inr, refl, sym, ap, ◌∙◌, subst, arith, length-append}
use Rattle.std.proofs.lemmas.Grind.{flat_map-append}
use Rattle.std.proofs.lemmas.List.{append-nil, take_more}
use Rattle.std.proofs.lemmas.List.Elements.{All-append, All-cons, All-nil, Contains-append_cases, Contains-append_left, Contains-append_right, Contains-get_or}
use Rattle.std.proofs.lemmas.List.Quantifiers.{all_pairs_push}
use Rattle.duk_host.specs.Used.{IsOneMore}
use Rattle.duk_journal.specs.Entry.{MayStandUnder}
use Rattle.duk_journal.specs.Groups.{Entries}
use Rattle.duk_journal.specs.Standing.{UseNewNumbers, numbers_in, reversed_in, reversed_numbers, used_by}
use Rattle.duk_journal.specs.declared.entry.Entry.{Entry}
use Rattle.duk_store.specs.Log.{Numbers}
use Rattle.duk_tree.specs.Path.{IsUsable}
use Rattle.duk_tree.specs.Serial.{Serial}
use Rattle.duk_show.specs.inner.Journal.{AddsAll, AreThose, AreUsedBy}

pub none_in : {A : Type 0} (thing : A) → ¬ Contains [] thing
none_in thing (k, within, is) = omega (arith, within)

the_only : {A : Type 0} (thing other : A) → Contains (thing ∷ []) other → other ≡ thing
the_only thing other (zero, within, is) = sym is
the_only thing other (suc k, within, is) = absurd (omega (arith, within))

pub the_one : {A : Type 0} (thing : A) → Contains (thing ∷ []) thing
the_one thing = (0, omega arith, refl)

-- a member of a list with one thing in front is that thing or was one
pub front_or : {A : Type 0} (first : A) (things : List A) (other : A) → Contains (first ∷ things) other → (other ≡ first) ⊎ Contains things other
front_or first things other contains = elim (Contains-append_cases (first ∷ []) things other contains) [
  | inl is ↦ inl (the_only first other is)
  | inr rest ↦ inr rest
]

-- what one thing of a list has is in what all have
flat_in : {A B : Type 0} (f : A → List B) (things : List A) (thing : A) (other : B) → Contains things thing → Contains (f thing) other → Contains (flat_map f things) other
flat_in f [] thing other is_in has = absurd (none_in thing is_in)
flat_in f (first ∷ things) thing other is_in has = elim (front_or first things thing is_in) [
  | inl is ↦ Contains-append_left (f first) (flat_map f things) other (subst (λ thing. Contains (f thing) other) is has)
  | inr later ↦ Contains-append_right (f first) (flat_map f things) other (flat_in f things thing other later has)
]

-- what all have, one thing at a place has
flat_at : {A B : Type 0} (f : A → List B) (things : List A) (d : A) (other : B) → Contains (flat_map f things) other → (k : ℕ) × (k < length things) × Contains (f (get_or things k d)) other
flat_at f [] d other contains = absurd (none_in other contains)
flat_at f (first ∷ things) d other contains = elim (Contains-append_cases (f first) (flat_map f things) other contains) [
  | inl here ↦ (0, omega arith, here)
  | inr later ↦ let rest = flat_at f things d other later in (suc rest.0, omega (arith, rest.1), rest.2)
]

-- ---- entries with one more at their end

pub new_more : (entries : Entries) (entry : Entry) → UseNewNumbers entries → IsUsable entry.number.counter → MayStandUnder entry.number entry.decided → ¬ Contains (used_by entries) entry.number
    → UseNewNumbers (entries ++ entry ∷ [])
new_more entries entry are usable stands new = record {
  usable = All-append (λ entry. IsUsable entry.number.counter) entries (entry ∷ []) are.usable
      (All-cons (λ entry. IsUsable entry.number.counter) entry [] usable (All-nil (λ entry. IsUsable entry.number.counter)));
  stand = All-append (λ entry. MayStandUnder entry.number entry.decided) entries (entry ∷ []) are.stand
      (All-cons (λ entry. MayStandUnder entry.number entry.decided) entry [] stands (All-nil (λ entry. MayStandUnder entry.number entry.decided)));
  new = all_pairs_push (λ earlier later. ¬ Contains (numbers_in earlier) later.number) entries entry are.new
      (λ k d within has. new (flat_in numbers_in entries (get_or entries k d) entry.number (Contains-get_or entries k d within) has));
}

-- what entries have, and what one more has
pub flat_push : {B : Type 0} (f : Entry → List B) (entries : Entries) (entry : Entry) → flat_map f (entries ++ entry ∷ []) ≡ flat_map f entries ++ f entry
flat_push f entries entry = flat_map-append f entries (entry ∷ []) ∙ ap (λ more. flat_map f entries ++ more) (append-nil (f entry))

-- numbers, and all of another list
pub adds_those : (numbers more used now : Numbers) → AreThose numbers used → AddsAll more used now → AreThose (numbers ++ more) now
adds_those numbers more used now those adds ksn = (
  λ contains. elim (Contains-append_cases numbers more ksn contains) [
    | inl before ↦ (adds ksn).1 (inl ((those ksn).0 before))
    | inr last ↦ (adds ksn).1 (inr last)
  ],
  λ is_used. elim ((adds ksn).0 is_used) [
    | inl was ↦ Contains-append_left numbers more ksn ((those ksn).1 was)
    | inr last ↦ Contains-append_right numbers more ksn last
  ],
)

-- one more, and then others, are these together
pub adds_both : (ksn : Serial) (more used mid now : Numbers) → IsOneMore used ksn mid → AddsAll more mid now → AddsAll (ksn ∷ more) used now
adds_both ksn more used mid now one_more adds other = (
  λ is_used. elim ((adds other).0 is_used) [
    | inl was ↦ elim ((one_more other).0 was) [
      | inl before ↦ inl before
      | inr same ↦ inr (Contains-append_left (ksn ∷ []) more other (subst (λ number. Contains (ksn ∷ []) number) (sym same) (the_one ksn)))
    ]
    | inr last ↦ inr (Contains-append_right (ksn ∷ []) more other last)
  ],
  λ either. elim either [
    | inl before ↦ (adds other).1 (inl ((one_more other).1 (inl before)))
    | inr contains ↦ elim (front_or ksn more other contains) [
      | inl same ↦ (adds other).1 (inl ((one_more other).1 (inr same)))
      | inr last ↦ (adds other).1 (inr last)
    ]
  ],
)

-- one more, as a list of one
pub adds_one : (ksn : Serial) (used now : Numbers) → IsOneMore used ksn now → AddsAll (ksn ∷ []) used now
adds_one ksn used now one_more other = (
  λ is_used. elim ((one_more other).0 is_used) [
    | inl before ↦ inl before
    | inr same ↦ inr (subst (λ number. Contains (ksn ∷ []) number) (sym same) (the_one ksn))
  ],
  λ either. elim either [
    | inl before ↦ (one_more other).1 (inl before)
    | inr contains ↦ (one_more other).1 (inr (the_only ksn other contains))
  ],
)

-- the used numbers are those of the entries, with one more
pub used_more : (entries : Entries) (entry : Entry) (used mid now : Numbers) → AreUsedBy entries used → IsUsable entry.number.counter → MayStandUnder entry.number entry.decided → ¬ Contains (used_by entries) entry.number
    → IsOneMore used entry.number mid → AddsAll (reversed_in entry.number entry.decided) mid now → AreUsedBy (entries ++ entry ∷ []) now
used_more entries entry used mid now are usable stands new one_more adds = record {
  new_numbers = new_more entries entry are.new_numbers usable stands new;
  members = subst (λ numbers. AreThose numbers now) (sym (flat_push numbers_in entries entry))
      (adds_those (used_by entries) (numbers_in entry) used now are.members (adds_both entry.number (reversed_in entry.number entry.decided) used mid now one_more adds));
}

-- the reversed numbers are those of the entries up to a place, with the next one
pub reversed_more : (entries : Entries) (place : ℕ) (entry : Entry) (used now : Numbers) → place < length entries → entry ≡ get_or entries place entry
    → AreThose (reversed_numbers (take place entries)) used → AddsAll (reversed_in entry.number entry.decided) used now
    → AreThose (reversed_numbers (take (place + 1) entries)) now
reversed_more entries place entry used now inside is those adds =
    let before : Entries = take place entries in
    let front : take (place + 1) entries ≡ before ++ entry ∷ [] = take_more entries place entry inside ∙ ap (λ (n : Entry). before ++ n ∷ []) (sym is) in
    subst (λ (front : Entries). AreThose (reversed_numbers front) now) (sym front)
    (subst (λ numbers. AreThose numbers now) (sym (flat_push (λ (entry : Entry). reversed_in entry.number entry.decided) before entry))
    (adds_those (reversed_numbers before) (reversed_in entry.number entry.decided) used now those adds))

-- an entry of a list with new numbers has another number than those before it use
pub new_number : (entries rest : Entries) (entry : Entry) → UseNewNumbers (entries ++ entry ∷ rest) → ¬ Contains (used_by entries) entry.number
new_number entries rest entry are contains =
    let found = flat_at numbers_in entries entry entry.number contains in
    are.new found.0 (length entries) entry found.1 (omega (arith, length-append entries (entry ∷ rest)))
    (subst (λ (number : Serial). Contains (numbers_in (get_or (entries ++ entry ∷ rest) found.0 entry)) number) (sym (ap (λ (e : Entry). e.number) (last entries entry)))
    (subst (λ (e : Entry). Contains (numbers_in e) entry.number) (sym (front entries found.0 entry found.1)) found.2))
  where
    front : (entries : Entries) (k : ℕ) (d : Entry) → k < length entries → get_or (entries ++ entry ∷ rest) k d ≡ get_or entries k d
    front [] k d within = absurd (omega (arith, within))
    front (first ∷ entries) zero d within = refl
    front (first ∷ entries) (suc k) d within = front entries k d (omega (arith, within))

    last : (entries : Entries) (d : Entry) → get_or (entries ++ entry ∷ rest) (length entries) d ≡ entry
    last [] d = refl
    last (first ∷ entries) d = last entries d
