-- The places of the entries that can be answered again, as a ring.
use Rattle.std.proofs.Common.{◌≡◌, ◌-◌, ◌+◌, ◌*◌, ◌/◌, ◌%◌, ◌^◌, ◌<◌, ◌≤◌, ℕ, zero, suc, List, [], ◌∷◌, ◌++◌, Contains, Option, Some, None, Result, Ok, Err, IsOk, OnOk, IfSome, inl, inr, length, drop, take, map, set, get_or, eqb, refl, sym, ap, subst, ◌∙◌, append_assoc, arith, length-append, true≢false}
use Rattle.std.specs.List.{swap_remove, slice_get, IsDistinct}
use Rattle.std.specs.Map.{keys_of, lookup}
use Rattle.std.proofs.lemmas.List.{append-nil, drop-append-le, drop-map, drop-set-lt, length-map, map-append, take_more_set, take-append-drop}
use Rattle.std.proofs.lemmas.List.Elements.{Contains-append_cases, Contains-append_left, Contains-append_right}
use Rattle.std.proofs.lemmas.Map.Views.{Contains-from_lookup, exact_unsigned_eq, lookup-from_Contains}
use Rattle.std.specs.Cmp.{nat_eq_equiv}
use Rattle.indexmap.specs.IndexMap.{IndexMap, get, insert_entry}
use Rattle.indexmap.proofs.CallerLemmas.{insert_entry-new}
use Rattle.duk_journal.specs.Groups.{Entries}
use Rattle.duk_journal.specs.declared.entry.Decided.{Decided}
use Rattle.duk_journal.specs.declared.entry.Entry.{Entry}
use Rattle.duk_tree.specs.Serial.{IsSerial, Serial, serial_number}
use Rattle.duk_journal_host.specs.declared.latest.Kept.{Kept}
use Rattle.duk_journal_host.specs.Latest.{most_latest}
use Rattle.std.proofs.lemmas.Bool.Decides.{eqb_tells}
use Rattle.duk_journal_host.proofs.Members.{front_or, none_in}
use Rattle.duk_journal_host.specs.inner.Latest.{HasNoNumber, IsRing, entries_in, entry_at, entry_under, kept_of, numbered, with_latest}

pub on_ok : {T E P : Type 0} (result : Result T E) → IsOk result → OnOk result P → P
on_ok (Ok value) is holds = holds
on_ok (Err why) is holds = absurd (true≢false (sym is))

-- ---- places and entries

numbered_again : (ksn : Serial) → IsSerial ksn → numbered (serial_number ksn) ≡ ksn
numbered_again ksn is =
    let high : (ksn.iksn + ksn.counter) / 2 ^ 21 * 2 ^ 21 ≡ ksn.iksn = omega (arith, is.iksn_is.counter_is_zero, is.counter_fits) in
    let low : (ksn.iksn + ksn.counter) % 2 ^ 21 ≡ ksn.counter = omega (arith, is.iksn_is.counter_is_zero, is.counter_fits) in
    let at : ℕ → ℕ → Serial = λ iksn counter. record { iksn = iksn; counter = counter } in
    ap (λ iksn. at iksn ((ksn.iksn + ksn.counter) % 2 ^ 21)) high ∙ ap (λ counter. at ksn.iksn counter) low

number_again : (number : ℕ) → serial_number (numbered number) ≡ number
number_again number = omega arith

pub entry_again : (entry : Entry) → IsSerial entry.number → entry_at (serial_number entry.number, kept_of entry) ≡ entry
entry_again entry is =
    let with : Serial → Entry = λ number. record entry { number = number } in
    ap with (numbered_again entry.number is)

-- ---- one more place

pub push_nothing_gone : (latest : Entries) (entry : Entry) → length latest + 1 ≤ most_latest → latest ++ entry ∷ [] ≡ with_latest latest entry
push_nothing_gone latest entry few =
    let none : length (latest ++ entry ∷ []) - most_latest ≡ 0 = omega (arith, length-append latest (entry ∷ [])) in
    sym (ap (λ count. drop count (latest ++ entry ∷ [])) none)

push_one_gone : (latest : Entries) (entry : Entry) → length latest ≡ most_latest → drop 1 (latest ++ entry ∷ []) ≡ with_latest latest entry
push_one_gone latest entry full =
    let one : length (latest ++ entry ∷ []) - most_latest ≡ 1 = omega (arith, length-append latest (entry ∷ [])) in
    sym (ap (λ count. drop count (latest ++ entry ∷ [])) one)

at_front : (places : List (ℕ × Kept)) → entries_in 0 places ≡ map entry_at places
at_front places = ap (λ places. map entry_at places) (append-nil places)

-- what an insertion of an entry does, where none has its number
pub inserted :
    {S : Type 0} (map : IndexMap ℕ Kept S) (key : ℕ) (kept : Kept) (entry : Entry) (after : List (ℕ × Kept)) → after ≡ insert_entry eqb map.entries key kept
    → key ≡ serial_number entry.number → kept ≡ kept_of entry → get eqb map (serial_number entry.number) ≡ None
    → after ≡ map.entries ++ (serial_number entry.number, kept_of entry) ∷ []
inserted map key kept entry after after_is key_is kept_is none =
    after_is ∙ ap (λ key. insert_entry eqb map.entries key kept) key_is ∙ ap (λ kept. insert_entry eqb map.entries (serial_number entry.number) kept) kept_is
    ∙ insert_entry-new eqb map (serial_number entry.number) (kept_of entry) none

-- where there are fewer than can be, a place goes behind the others
pub pushed : (oldest : ℕ) (places after : List (ℕ × Kept)) (entry : Entry) → IsSerial entry.number → IsRing oldest (length places) → length after ≤ most_latest
    → after ≡ places ++ (serial_number entry.number, kept_of entry) ∷ [] → entries_in oldest after ≡ with_latest (entries_in oldest places) entry
pushed oldest places after entry is ring few after_is =
    let place : ℕ × Kept = (serial_number entry.number, kept_of entry) in
    let longer : length after ≡ length places + 1 = ap length after_is ∙ length-append places (place ∷ []) in
    let first : oldest ≡ 0 = ring.begins (omega (arith, longer, few)) in
    let new : entries_in oldest after ≡ map entry_at places ++ entry ∷ [] =
    ap (λ oldest. entries_in oldest after) first ∙ at_front after ∙ ap (λ places. map entry_at places) after_is ∙ map-append entry_at places (place ∷ [])
    ∙ ap (λ entry. map entry_at places ++ entry ∷ []) (entry_again entry is) in
    let old : entries_in oldest places ≡ map entry_at places = ap (λ oldest. entries_in oldest places) first ∙ at_front places in
    new ∙ push_nothing_gone (map entry_at places) entry (omega (arith, length-map places entry_at, longer, few)) ∙ ap (λ latest. with_latest latest entry) (sym old)

-- ---- a new place in that of the oldest

front_set : {A : Type 0} (things more : List A) (i : ℕ) (thing : A) → i < length things → take (length things) (set (things ++ more) i thing) ≡ set things i thing
front_set [] more i thing within = absurd (omega (arith, within))
front_set (first ∷ things) more zero thing within = ap (λ things. thing ∷ things) (front things more)
  where
    front : {A : Type 0} (things more : List A) → take (length things) (things ++ more) ≡ things
    front [] more = refl
    front (first ∷ things) more = ap (λ things. first ∷ things) (front things more)
front_set (first ∷ things) more (suc i) thing within = ap (λ things. first ∷ things) (front_set things more i thing (omega (arith, within)))

last_of : {A : Type 0} (things : List A) (last d : A) → get_or (things ++ last ∷ []) (length things) d ≡ last
last_of [] last d = refl
last_of (first ∷ things) last d = last_of things last d

swapped : {A : Type 0} (things : List A) (i : ℕ) (last d : A) → i < length things → swap_remove (things ++ last ∷ []) i d ≡ set things i last
swapped things i last d within =
    let all = things ++ last ∷ [] in
    let before : length all - 1 ≡ length things = omega (arith, length-append things (last ∷ [])) in
    let is : get_or all (length all - 1) d ≡ last = ap (λ place. get_or all place d) before ∙ last_of things last d in
    ap (λ count. take count (set all i (get_or all (length all - 1) d))) before
    ∙ ap (λ thing. take (length things) (set all i thing)) is
    ∙ front_set things (last ∷ []) i last within

drop_next : {A : Type 0} (things : List A) (i : ℕ) → i < length things → drop 1 (drop i things) ≡ drop (i + 1) things
drop_next [] i within = absurd (omega (arith, within))
drop_next (first ∷ things) zero within = refl
drop_next (first ∷ things) (suc i) within =
    let next : suc (i + 1) ≡ suc i + 1 = omega arith in
    drop_next things i (omega (arith, within)) ∙ ap (λ count. drop count (first ∷ things)) next

length_turned : {A : Type 0} (i : ℕ) (things : List A) → i < length things → 1 ≤ length (drop i things)
length_turned i [] within = absurd (omega (arith, within))
length_turned zero (first ∷ things) within = omega arith
length_turned (suc i) (first ∷ things) within = length_turned i things (omega (arith, within))

-- the things from one place on and then those before it, where a thing takes that place and the next
-- is begun with
turned : {A : Type 0} (i : ℕ) (things : List A) (thing : A) → i < length things
    → drop (i + 1) (set things i thing) ++ take (i + 1) (set things i thing) ≡ drop 1 ((drop i things ++ take i things) ++ thing ∷ [])
turned i things thing within =
    let front : drop (i + 1) (set things i thing) ≡ drop 1 (drop i things) = drop-set-lt (i + 1) things i thing (omega arith) ∙ sym (drop_next things i within) in
    let back : take (i + 1) (set things i thing) ≡ take i things ++ thing ∷ [] = take_more_set things i thing within in
    let joined : drop 1 (drop i things ++ (take i things ++ thing ∷ [])) ≡ drop 1 (drop i things) ++ (take i things ++ thing ∷ []) =
    drop-append-le 1 (drop i things) (take i things ++ thing ∷ []) (length_turned i things within) in
    ap (λ front. front ++ take (i + 1) (set things i thing)) front ∙ ap (λ back. drop 1 (drop i things) ++ back) back
    ∙ sym joined ∙ ap (λ all. drop 1 all) (sym (append_assoc (drop i things) (take i things) (thing ∷ [])))

-- all things taken, none is left
all_turned : {A : Type 0} (things : List A) (count : ℕ) → count ≡ length things → drop 0 things ++ take 0 things ≡ drop count things ++ take count things
all_turned things count all = append-nil things ∙ whole things ∙ ap (λ count. drop count things ++ take count things) (sym all)
  where
    whole : {A : Type 0} (things : List A) → things ≡ drop (length things) things ++ take (length things) things
    whole [] = refl
    whole (first ∷ things) = sym (none first things)
      where
        gone : {A : Type 0} (things : List A) → drop (length things) things ≡ []
        gone [] = refl
        gone (first ∷ things) = gone things

        taken : {A : Type 0} (things : List A) → take (length things) things ≡ things
        taken [] = refl
        taken (first ∷ things) = ap (λ things. first ∷ things) (taken things)

        none : {A : Type 0} (first : A) (things : List A) → drop (length things) things ++ (first ∷ take (length things) things) ≡ first ∷ things
        none first things = ap (λ front. front ++ (first ∷ take (length things) things)) (gone things) ∙ ap (λ things. first ∷ things) (taken things)

-- where the next place is begun with after the last one, as after any other
next_turned : {A : Type 0} (things : List A) (oldest next : ℕ) → length things ≡ most_latest → (oldest + 1 < most_latest → next ≡ oldest + 1) → (oldest + 1 ≡ most_latest → next ≡ 0) → oldest < most_latest
    → drop next things ++ take next things ≡ drop (oldest + 1) things ++ take (oldest + 1) things
next_turned things oldest next full before around within = elim (eqb_tells (oldest + 1) most_latest) [
  | inl last ↦ ap (λ next. drop next things ++ take next things) (around last.1) ∙ all_turned things (oldest + 1) (last.1 ∙ sym full)
  | inr other ↦ ap (λ next. drop next things ++ take next things) (before (omega (arith, other.1)))
]

turned_length : {A : Type 0} (i : ℕ) (things : List A) → length (drop i things ++ take i things) ≡ length things
turned_length i things =
    omega (arith, length-append (drop i things) (take i things), length-append (take i things) (drop i things), ap length (take-append-drop i things))

-- where there are as many as can be, a new place stands where the oldest did
pub replaced :
    (oldest next : ℕ) (places after : List (ℕ × Kept)) (entry : Entry) → IsSerial entry.number → IsRing oldest (length places) → length places ≡ most_latest
    → after ≡ set places oldest (serial_number entry.number, kept_of entry) → length after ≡ most_latest
    → (oldest + 1 < most_latest → next ≡ oldest + 1) → (oldest + 1 ≡ most_latest → next ≡ 0)
    → entries_in next after ≡ with_latest (entries_in oldest places) entry
replaced oldest next places after entry is ring full after_is as_many before around =
    let place : ℕ × Kept = (serial_number entry.number, kept_of entry) in
    let within : oldest < length places = omega (arith, ring.inside, full) in
    let old = drop oldest places ++ take oldest places in
    let one : drop next after ++ take next after ≡ drop (oldest + 1) after ++ take (oldest + 1) after = next_turned after oldest next as_many before around ring.inside in
    let two : drop (oldest + 1) after ++ take (oldest + 1) after ≡ drop 1 (old ++ place ∷ []) =
    ap (λ after. drop (oldest + 1) after ++ take (oldest + 1) after) after_is ∙ turned oldest places place within in
    let three : map entry_at (old ++ place ∷ []) ≡ map entry_at old ++ entry ∷ [] =
    map-append entry_at old (place ∷ []) ∙ ap (λ entry. map entry_at old ++ entry ∷ []) (entry_again entry is) in
    let all : length (map entry_at old) ≡ most_latest = length-map old entry_at ∙ turned_length oldest places ∙ full in
    ap (λ places. map entry_at places) (one ∙ two) ∙ sym (drop-map entry_at 1 (old ++ place ∷ [])) ∙ ap (λ entries. drop 1 entries) three
    ∙ push_one_gone (map entry_at old) entry all

pub replaced_entries : (places after : List (ℕ × Kept)) (oldest : ℕ) (place gone : ℕ × Kept) (all : List (ℕ × Kept)) → oldest < length places → all ≡ places ++ place ∷ []
    → after ≡ swap_remove all oldest gone → after ≡ set places oldest place
replaced_entries places after oldest place gone all within all_is after_is =
    after_is ∙ ap (λ all. swap_remove all oldest gone) all_is ∙ swapped places oldest place gone within

has_item : {A : Type 0} (things : List A) (i : ℕ) → i < length things → ¬ (None ≡ slice_get things i)
has_item [] i within none = absurd (omega (arith, within))
has_item (first ∷ things) zero within none = cc
has_item (first ∷ things) (suc i) within none = has_item things i (omega (arith, within)) none

-- what a removal of the oldest leaves, once another place is behind the others
pub removed : (places all after : List (ℕ × Kept)) (oldest : ℕ) (place : ℕ × Kept) (found : Option (ℕ × Kept)) → oldest < length places → all ≡ places ++ place ∷ []
    → found ≡ slice_get all oldest → IfSome found (λ gone. after ≡ swap_remove all oldest gone) → after ≡ set places oldest place
removed places all after oldest place None within all_is is holds =
    absurd (has_item all oldest (omega (arith, within, ap length all_is, length-append places (place ∷ []))) is)
removed places all after oldest place (Some gone) within all_is is holds = replaced_entries places after oldest place gone all within all_is holds

pub ring_after : (oldest next count : ℕ) → oldest < most_latest → count ≡ most_latest → (oldest + 1 < most_latest → next ≡ oldest + 1) → (oldest + 1 ≡ most_latest → next ≡ 0)
    → IsRing next count
ring_after oldest next count within full before around = record {
  most = omega (arith, full);
  begins = λ fewer. absurd (omega (arith, full, fewer));
  inside = elim (eqb_tells (oldest + 1) most_latest) [
    | inl last ↦ omega (arith, around last.1)
    | inr other ↦ omega (arith, before (omega (arith, within, other.1)))
  ];
}

-- ---- an entry that is looked for

pub one_found : {A : Type 0} (found : Option A) (one other : A) → found ≡ Some one → found ≡ Some other → one ≡ other
one_found found one other is same = cc

in_map : {A B : Type 0} (f : A → B) (things : List A) (thing : A) → Contains things thing → Contains (map f things) (f thing)
in_map f [] thing contains = absurd (none_in thing contains)
in_map f (first ∷ things) thing contains = elim (front_or first things thing contains) [
  | inl is ↦ (0, omega arith, ap f (sym is))
  | inr later ↦ let rest = in_map f things thing later in (suc rest.0, omega (arith, rest.1), rest.2)
]

from_map : {A B : Type 0} (f : A → B) (things : List A) (image : B) → Contains (map f things) image → (thing : A) × Contains things thing × (f thing ≡ image)
from_map f [] image contains = absurd (none_in image contains)
from_map f (first ∷ things) image contains = elim (front_or (f first) (map f things) image contains) [
  | inl is ↦ (first, (0, omega arith, refl), sym is)
  | inr later ↦ let rest = from_map f things image later in (rest.0, Contains-append_right (first ∷ []) things rest.0 rest.1, rest.2)
]

in_turn : {A : Type 0} (i : ℕ) (things : List A) (thing : A) → Contains things thing → Contains (drop i things ++ take i things) thing
in_turn i things thing contains = elim (Contains-append_cases (take i things) (drop i things) thing (subst (λ things. Contains things thing) (sym (take-append-drop i things)) contains)) [
  | inl before ↦ Contains-append_right (drop i things) (take i things) thing before
  | inr after ↦ Contains-append_left (drop i things) (take i things) thing after
]

from_turn : {A : Type 0} (i : ℕ) (things : List A) (thing : A) → Contains (drop i things ++ take i things) thing → Contains things thing
from_turn i things thing contains = subst (λ things. Contains things thing) (take-append-drop i things) (elim (Contains-append_cases (drop i things) (take i things) thing contains) [
  | inl after ↦ Contains-append_right (take i things) (drop i things) thing after
  | inr before ↦ Contains-append_left (take i things) (drop i things) thing before
])

-- the entry of a place that is found
pub found_entry : (oldest : ℕ) (places : List (ℕ × Kept)) (ksn : Serial) (mac : List ℕ) (kept : Kept) → IsSerial ksn → lookup (eqb (serial_number ksn)) places ≡ Some kept → kept.mac ≡ mac
    → Contains (entries_in oldest places) (entry_under ksn mac kept.decided)
found_entry oldest places ksn mac kept is found same =
    let place : ℕ × Kept = (serial_number ksn, kept) in
    let contains : Contains places place = Contains-from_lookup exact_unsigned_eq (serial_number ksn) kept places found in
    let own : entry_at place ≡ entry_under ksn mac kept.decided =
    ap (λ ksn. entry_under ksn kept.mac kept.decided) (numbered_again ksn is) ∙ ap (λ mac. entry_under ksn mac kept.decided) same in
    subst (λ entry. Contains (entries_in oldest places) entry) own (in_map entry_at (drop oldest places ++ take oldest places) place (in_turn oldest places place contains))

-- an entry with a number is that of the place that is found under it
pub only_place : (oldest : ℕ) (places : List (ℕ × Kept)) (ksn : Serial) (mac : List ℕ) (decided : Decided) → IsDistinct eqb (keys_of places)
    → Contains (entries_in oldest places) (entry_under ksn mac decided) → (kept : Kept) × (lookup (eqb (serial_number ksn)) places ≡ Some kept) × (kept.mac ≡ mac) × (kept.decided ≡ decided)
only_place oldest places ksn mac decided distinct contains =
    let from = from_map entry_at (drop oldest places ++ take oldest places) (entry_under ksn mac decided) contains in
    let place = from.0 in
    let key : place.0 ≡ serial_number ksn = sym (number_again place.0) ∙ ap (λ (entry : Entry). serial_number entry.number) from.2 in
    let found = lookup-from_Contains nat_eq_equiv place.0 place.1 places distinct (from_turn oldest places place from.1) in
    (place.1, subst (λ key. lookup (eqb key) places ≡ Some place.1) key found, ap (λ (entry : Entry). entry.mac) from.2, ap (λ (entry : Entry). entry.decided) from.2)

-- where no entry has a number, no place is found under it
pub absent : (oldest : ℕ) (places : List (ℕ × Kept)) (ksn : Serial) (found : Option Kept) → IsSerial ksn → lookup (eqb (serial_number ksn)) places ≡ found
    → HasNoNumber (entries_in oldest places) ksn → lookup (eqb (serial_number ksn)) places ≡ None
absent oldest places ksn None is found none = found
absent oldest places ksn (Some kept) is found none =
    absurd (none (entry_under ksn kept.mac kept.decided) (found_entry oldest places ksn kept.mac kept is found refl) refl)
