-- The names in a table, beside the keys of the map that holds it.
use Rattle.std.proofs.Common.{◌≡◌, ◌≢◌, ℕ, zero, suc, ◌<◌, Bool, true, false, not, List, [], ◌∷◌, Some, None, String, Global, map, filter, length, get_or, option_map, string_bytes, inl, inr, refl, ap, sym, ◌∙◌, subst, arith}
use Rattle.std.proofs.lemmas.Bool.{cases_Bool}
use Rattle.std.proofs.lemmas.Cmp.{nat_list_cmp_total}
use Rattle.std.proofs.lemmas.Option.{same_Some}
use Rattle.std.specs.BTreeMap.{BTreeMap, keys}
use Rattle.std.specs.Cmp.{tied_itself}
use Rattle.std.specs.Cmp.Lexicographic.{slice_cmp}
use Rattle.std.specs.List.{AllByRecursion, Contains, find, list_all}
use Rattle.std.specs.List.Sorted.{IsStrictlySortedBy}
use Rattle.std.specs.Map.{keys_of}
use Rattle.std.specs.Ordering.{nat_cmp, ordering_reverse}
use Rattle.std.specs.declared.cmp.Ordering.TheVariants.{Less, Equal, Greater}
use Rattle.std.specs.String.{string_cmp}
use Rattle.toml.specs.View.{members_view, table_view}
use Rattle.toml.specs.declared.value.Value.{Value}
use Rattle.duk_config.specs.Names.{IsFirstUnknown, has_only, names}
use Rattle.duk_config.specs.ShownKey.{is_up_to, place_of}

names_of_entries : (entries : List (String Global × Value)) → names (members_view entries) ≡ map string_bytes (keys_of entries)
names_of_entries [] = refl
names_of_entries (entry ∷ entries) = ap (λ rest. string_bytes entry.0 ∷ rest) (names_of_entries entries)

list_all_map : {A B : Type 0} (test : B → Bool) (f : A → B) (xs : List A) → list_all test (map f xs) ≡ list_all (λ x. test (f x)) xs
list_all_map test f [] = refl
list_all_map test f (x ∷ xs) = rw (list_all_map test f xs)

pub has_only_keys : (is_known : List ℕ → Bool) (table : BTreeMap (String Global) Value)
    → has_only is_known (table_view table) ≡ list_all (λ name. is_known (string_bytes name)) (keys table)
has_only_keys is_known table = rw (names_of_entries table.entries) (list_all_map is_known string_bytes (keys_of table.entries))

length_filter_map : {A B : Type 0} (test : B → Bool) (f : A → B) (xs : List A) → length (filter test (map f xs)) ≡ length (filter (λ x. test (f x)) xs)
length_filter_map test f [] = refl
length_filter_map test f (x ∷ xs) =
    elim (cases_Bool (test (f x))) [
      | inl here ↦ rw here (ap suc (length_filter_map test f xs))
      | inr other ↦ rw other (length_filter_map test f xs)
    ]

pub place_of_keys : (name : List ℕ) (table : BTreeMap (String Global) Value)
    → place_of name (table_view table) ≡ length (filter (λ other. is_up_to name (string_bytes other)) (keys table))
place_of_keys name table = rw (names_of_entries table.entries) (length_filter_map (is_up_to name) string_bytes (keys_of table.entries))

find_map : {A B : Type 0} (test : B → Bool) (f : A → B) (xs : List A) → find test (map f xs) ≡ option_map f (find (λ x. test (f x)) xs)
find_map test f [] = refl
find_map test f (x ∷ xs) =
    elim (cases_Bool (test (f x))) [
      | inl found ↦ rw found
      | inr other ↦ rw other (find_map test f xs)
    ]

-- where none is found, each is known
known_where_none : (is_known : List ℕ → Bool) (xs : List (List ℕ)) → find (λ name. not (is_known name)) xs ≡ None → list_all is_known xs ≡ true
known_where_none is_known [] none = refl
known_where_none is_known (x ∷ xs) none =
    elim (cases_Bool (is_known x)) [
      | inl known ↦ rw known (known_where_none is_known xs (rw known at none))
      | inr unknown ↦ let none_here = rw unknown at none in cc
    ]

pub none_unknown : (is_known : List ℕ → Bool) (table : BTreeMap (String Global) Value)
    → find (λ name. not (is_known (string_bytes name))) (keys table) ≡ None → has_only is_known (table_view table) ≡ true
none_unknown is_known table none =
    let none_named : find (λ name. not (is_known name)) (map string_bytes (keys table)) ≡ None =
    find_map (λ name. not (is_known name)) string_bytes (keys table) ∙ ap (option_map string_bytes) none in
    rw (names_of_entries table.entries) (known_where_none is_known (map string_bytes (keys table)) none_named)

-- what is found is there, and unknown
found_there : (is_known : List ℕ → Bool) (xs : List (List ℕ)) (x : List ℕ) → find (λ name. not (is_known name)) xs ≡ Some x
    → Contains xs x × (is_known x ≡ false)
found_there is_known [] x found = cc
found_there is_known (y ∷ xs) x found =
    elim (cases_Bool (is_known y)) [
      | inl known ↦
          let rest = found_there is_known xs x (rw known at found) in
          ((suc rest.0.0, omega (arith, rest.0.1), rest.0.2), rest.1)
      | inr unknown ↦
          let same : y ≡ x = same_Some _ _ (rw unknown at found) in
          ((zero, omega arith, same), subst (λ n. is_known n ≡ false) same unknown)
    ]

all_at : {A : Type 0} (P : A → Type 0) (xs : List A) (k : ℕ) (d : A) → AllByRecursion P xs → k < length xs → P (get_or xs k d)
all_at P [] k d all within = absurd (omega arith)
all_at P (x ∷ xs) zero d all within = all.0
all_at P (x ∷ xs) (suc k) d all within = all_at P xs k d all.1 (omega arith)

-- of names in order, no unknown one is below the first
found_first : (is_known : List ℕ → Bool) (xs : List (List ℕ)) (x other : List ℕ) (k : ℕ)
    → IsStrictlySortedBy (slice_cmp nat_cmp) xs → find (λ name. not (is_known name)) xs ≡ Some x
    → k < length xs → is_known (get_or xs k other) ≡ false → slice_cmp nat_cmp (get_or xs k other) x ≢ Less
unfolding IsStrictlySortedBy
found_first is_known [] x other k sorted found within unknown = absurd (omega arith)
found_first is_known (y ∷ xs) x other zero sorted found within unknown =
    let same : y ≡ x = same_Some _ _ (rw unknown at found) in
    λ below.
    let itself = rw (← same) at below in
    let tied : slice_cmp nat_cmp y y ≡ Equal = tied_itself nat_list_cmp_total y in
    cc
found_first is_known (y ∷ xs) x other (suc k) sorted found within unknown =
    elim (cases_Bool (is_known y)) [
      | inl known ↦ found_first is_known xs x other k sorted.1 (rw known at found) (omega arith) unknown
      | inr first ↦
          let same : y ≡ x = same_Some _ _ (rw first at found) in
          let above : slice_cmp nat_cmp y (get_or xs k other) ≡ Less = all_at (λ z. slice_cmp nat_cmp y z ≡ Less) xs k other sorted.0 (omega arith) in
          let turned : slice_cmp nat_cmp (get_or xs k other) y ≡ Greater =
          nat_list_cmp_total.antisymm (get_or xs k other) y ∙ ap ordering_reverse above in
          λ below.
          let below_here = rw (← same) at below in
          cc
    ]

all_below_map : (x : String Global) (ks : List (String Global)) → AllByRecursion (λ y. string_cmp x y ≡ Less) ks
    → AllByRecursion (λ y. slice_cmp nat_cmp (string_bytes x) y ≡ Less) (map string_bytes ks)
all_below_map x [] all = tt
all_below_map x (k ∷ ks) all = (all.0, all_below_map x ks all.1)

sorted_map : (ks : List (String Global)) → IsStrictlySortedBy string_cmp ks → IsStrictlySortedBy (slice_cmp nat_cmp) (map string_bytes ks)
unfolding IsStrictlySortedBy
sorted_map [] sorted = tt
sorted_map (k ∷ ks) sorted = (all_below_map k ks sorted.0, sorted_map ks sorted.1)

pub first_unknown : (is_known : List ℕ → Bool) (table : BTreeMap (String Global) Value) (name : String Global)
    → IsStrictlySortedBy string_cmp (keys table) → find (λ name. not (is_known (string_bytes name))) (keys table) ≡ Some name
    → IsFirstUnknown is_known (table_view table) (string_bytes name)
first_unknown is_known table name sorted found =
    let named : find (λ name. not (is_known name)) (map string_bytes (keys table)) ≡ Some (string_bytes name) =
    find_map (λ name. not (is_known name)) string_bytes (keys table) ∙ ap (option_map string_bytes) found in
    let here = found_there is_known (map string_bytes (keys table)) (string_bytes name) named in
    let order = sorted_map (keys table) sorted in
    let same = names_of_entries table.entries in
    record {
      there = subst (λ ns. Contains ns (string_bytes name)) (sym same) here.0;
      unknown = here.1;
      first = λ other among unknown.
          let place = subst (λ ns. Contains ns other) same among in
          subst (λ n. slice_cmp nat_cmp n (string_bytes name) ≢ Less) place.2
          (found_first is_known (map string_bytes (keys table)) (string_bytes name) other place.0 order named place.1 (rw place.2 unknown));
    }
