-- The list of the key serial numbers of ranges has those that are in one of the ranges.
use Rattle.std.proofs.Common.{◌≡◌, ◌↔◌, ℕ, zero, suc, ◌+◌, ◌-◌, ◌^◌, ◌<◌, ◌≤◌, ◌&&◌, leb, ltb, Bool, true, false, cond, List, [], ◌∷◌, map, length, get_or, Contains, filter, flat_map, refl, sym, ap, ◌∙◌, subst, arith, inl, inr, true≢false, leb-true, ltb-true, le-leb, lt-ltb}
use Rattle.std.specs.BTreeMap.{IsOrdered}
use Rattle.std.specs.List.{range_with_len}
use Rattle.std.specs.Ordering.{nat_cmp}
use Rattle.std.proofs.lemmas.Cmp.{nat_cmp_total}
use Rattle.std.proofs.lemmas.List.Elements.{Contains-append_cases, Contains-append_left, Contains-append_right, Contains-get_or}
use Rattle.std.proofs.lemmas.List.FromFn.{get_or-range_with_len, length-range_with_len}
use Rattle.std.proofs.lemmas.Map.Lookups.{exact_unsigned}
use Rattle.std.proofs.lemmas.Map.Views.{btree_map_get_iff}
use Rattle.duk_tree.specs.Path.{IsPath, IsUsable, path_of, value_of}
use Rattle.duk_tree.specs.Serial.{Serial}
use Rattle.duk_host.specs.inner.Index.{HoldsOneMore, IsHeld, Ranges, counter_of, counters_between, iksn_of, is_usable, numbers_in, range_numbers}
use Rattle.duk_host.specs.Used.{IsOneMore, IsUsed}

in_map : {A B : Type 0} (f : A → B) (things : List A) (thing : A) → Contains things thing → Contains (map f things) (f thing)
in_map f [] thing (k, within, is) = absurd (omega (arith, within))
in_map f (first ∷ things) thing (zero, within, is) = (0, omega arith, ap f is)
in_map f (first ∷ things) thing (suc k, within, is) =
    let rest = in_map f things thing (k, omega (arith, within), is) in (suc rest.0, omega (arith, rest.1), rest.2)

from_map : {A B : Type 0} (f : A → B) (things : List A) (image : B) → Contains (map f things) image → (thing : A) × Contains things thing × (f thing ≡ image)
from_map f [] image (k, within, is) = absurd (omega (arith, within))
from_map f (first ∷ things) image (zero, within, is) = (first, (0, omega arith, refl), is)
from_map f (first ∷ things) image (suc k, within, is) =
    let rest = from_map f things image (k, omega (arith, within), is) in (rest.0, (suc rest.1.0, omega (arith, rest.1.1), rest.1.2), rest.2)

in_flat_map : {A B : Type 0} (f : A → List B) (things : List A) (thing : A) (part : B) → Contains things thing → Contains (f thing) part → Contains (flat_map f things) part
in_flat_map f [] thing part (k, within, is) has = absurd (omega (arith, within))
in_flat_map f (first ∷ things) thing part (zero, within, is) has =
    Contains-append_left (f first) (flat_map f things) part (subst (λ one. Contains (f one) part) (sym is) has)
in_flat_map f (first ∷ things) thing part (suc k, within, is) has =
    Contains-append_right (f first) (flat_map f things) part (in_flat_map f things thing part (k, omega (arith, within), is) has)

from_flat_map : {A B : Type 0} (f : A → List B) (things : List A) (part : B) → Contains (flat_map f things) part → (thing : A) × Contains things thing × Contains (f thing) part
from_flat_map f [] part (k, within, is) = absurd (omega (arith, within))
from_flat_map f (first ∷ things) part has = elim (Contains-append_cases (f first) (flat_map f things) part has) [
  | inl here ↦ (first, (0, omega arith, refl), here)
  | inr later ↦
      let rest = from_flat_map f things part later in (rest.0, (suc rest.1.0, omega (arith, rest.1.1), rest.1.2), rest.2)
]

in_cond : (keeps : Bool) (first : ℕ) (others : List ℕ) (number : ℕ) → Contains others number → Contains (cond keeps (first ∷ others) others) number
in_cond true first others number (k, within, is) = (suc k, omega (arith, within), is)
in_cond false first others number has = has

in_filter : (test : ℕ → Bool) (numbers : List ℕ) (number : ℕ) → Contains numbers number → test number ≡ true → Contains (filter test numbers) number
in_filter test [] number (k, within, is) passes = absurd (omega (arith, within))
in_filter test (first ∷ numbers) number (zero, within, is) passes =
    let kept : test first ≡ true = ap test is ∙ passes in
    subst (λ keeps. Contains (cond keeps (first ∷ filter test numbers) (filter test numbers)) number) (sym kept) (0, omega arith, is)
in_filter test (first ∷ numbers) number (suc k, within, is) passes =
    in_cond (test first) first (filter test numbers) number (in_filter test numbers number (k, omega (arith, within), is) passes)

from_cond : (test : ℕ → Bool) (first : ℕ) (numbers kept : List ℕ) (number : ℕ) (keeps : Bool) → test first ≡ keeps
    → (Contains kept number → Contains numbers number × (test number ≡ true))
    → Contains (cond keeps (first ∷ kept) kept) number → Contains (first ∷ numbers) number × (test number ≡ true)
from_cond test first numbers kept number true passes rest (zero, within, is) = ((0, omega arith, is), ap test (sym is) ∙ passes)
from_cond test first numbers kept number true passes rest (suc k, within, is) =
    let later = rest (k, omega (arith, within), is) in ((suc later.0.0, omega (arith, later.0.1), later.0.2), later.1)
from_cond test first numbers kept number false passes rest has =
    let later = rest has in ((suc later.0.0, omega (arith, later.0.1), later.0.2), later.1)

from_filter : (test : ℕ → Bool) (numbers : List ℕ) (number : ℕ) → Contains (filter test numbers) number → Contains numbers number × (test number ≡ true)
from_filter test [] number (k, within, is) = absurd (omega (arith, within))
from_filter test (first ∷ numbers) number has =
    from_cond test first numbers (filter test numbers) number (test first) refl (λ later. from_filter test numbers number later) has

in_counters : (first count counter : ℕ) → first ≤ counter → counter < first + count → Contains (range_with_len first count) counter
in_counters first count counter from to =
    let place : counter - first < count = omega (arith, from, to) in
    let within : counter - first < length (range_with_len first count) = rw length-range_with_len place in
    let is : get_or (range_with_len first count) (counter - first) 0 ≡ counter =
    get_or-range_with_len first count (counter - first) 0 place ∙ omega (arith, from) in
    subst (λ found. Contains (range_with_len first count) found) is (Contains-get_or (range_with_len first count) (counter - first) 0 within)

from_counters : (first count counter : ℕ) → Contains (range_with_len first count) counter → (first ≤ counter) × (counter < first + count)
from_counters first zero counter (k, within, is) = absurd (omega (arith, within))
from_counters first (suc count) counter (zero, within, is) = (omega (arith, is), omega (arith, is))
from_counters first (suc count) counter (suc k, within, is) =
    let rest = from_counters (first + 1) count counter (k, omega (arith, within), is) in (omega (arith, rest.0), omega (arith, rest.1))

-- the law that each counter of 21 bits is the value of exactly one path
pub record HaveOnePath : Type 0 where
  pub path_of_counter : (counter : ℕ) → counter < 2 ^ 21 → IsPath (path_of counter)
  pub value : (counter : ℕ) → counter < 2 ^ 21 → value_of (path_of counter) ≡ counter
  pub counter_of_path : (path : List ℕ) → IsPath path → value_of path < 2 ^ 21
  pub only : (path : List ℕ) → IsPath path → path_of (value_of path) ≡ path

both : (a b : Bool) → (a && b) ≡ true → (a ≡ true) × (b ≡ true)
both true b is = (refl, is)
both false b is = absurd (true≢false (sym is))

made_of_both : (a b : Bool) → a ≡ true → b ≡ true → (a && b) ≡ true
made_of_both true b is other = other
made_of_both false b is other = absurd (true≢false (sym is))

-- a counter that numbers a transaction has 21 bits
pub usable_fits : HaveOnePath → (counter : ℕ) → IsUsable counter → counter < 2 ^ 21
usable_fits paths counter usable = subst (λ value. value < 2 ^ 21) usable.value_is (paths.counter_of_path usable.path usable.path_is)

passes_usable : HaveOnePath → (counter : ℕ) → IsUsable counter → is_usable counter ≡ true
passes_usable paths counter usable =
    let same : path_of counter ≡ usable.path =
    subst (λ value. path_of value ≡ usable.path) usable.value_is (paths.only usable.path usable.path_is) in
    let places = length (path_of counter) in
    let some : 1 ≤ places = subst (λ (path : List ℕ). 1 ≤ length path) (sym same) usable.not_the_root in
    let few : places ≤ 10 = subst (λ (path : List ℕ). length path ≤ 10) (sym same) usable.ten_ones_at_most in
    made_of_both (ltb counter (2 ^ 21)) (leb 1 places && leb places 10) (lt-ltb counter (2 ^ 21) (usable_fits paths counter usable))
    (made_of_both (leb 1 places) (leb places 10) (le-leb 1 places some) (le-leb places 10 few))

usable_passes : HaveOnePath → (counter : ℕ) → is_usable counter ≡ true → IsUsable counter
usable_passes paths counter passes =
    let places = length (path_of counter) in
    let bits = both (ltb counter (2 ^ 21)) (leb 1 places && leb places 10) passes in
    let ones = both (leb 1 places) (leb places 10) bits.1 in
    let fits : counter < 2 ^ 21 = ltb-true counter (2 ^ 21) bits.0 in
    record {
      path = path_of counter;
      path_is = paths.path_of_counter counter fits;
      value_is = paths.value counter fits;
      not_the_root = leb-true 1 places ones.0;
      ten_ones_at_most = leb-true places 10 ones.1;
    }

-- a key serial number is used where it is in one of the ranges
pub used_iff_held : HaveOnePath → (ranges : Ranges) → IsOrdered nat_cmp ranges → (ksn : Serial) → IsUsed (numbers_in ranges) ksn ↔ IsHeld ranges ksn
used_iff_held paths ranges ordered ksn = (
  λ is_used.
      let entry = from_flat_map range_numbers ranges.entries ksn is_used in
      let first = entry.0.0 in
      let last = entry.0.1 in
      let numbered : ℕ → Serial = λ counter. record { iksn = iksn_of first; counter = counter } in
      let counter = from_map numbered (filter is_usable (counters_between (counter_of first) last)) ksn entry.2 in
      let kept = from_filter is_usable (counters_between (counter_of first) last) counter.0 counter.1 in
      let bounds = from_counters (counter_of first) (last + 1 - counter_of first) counter.0 kept.0 in
      let same : counter.0 ≡ ksn.counter = ap (λ (serial : Serial). serial.counter) counter.2 in
      record {
        first = first;
        last = last;
        is_range = (btree_map_get_iff nat_cmp_total exact_unsigned ranges ordered first last).1 entry.1;
        is_in = record {
          same_terminal = ap (λ (serial : Serial). serial.iksn) counter.2;
          from_first = omega (arith, bounds.0, same);
          to_last = omega (arith, bounds.0, bounds.1, same);
          is_usable = subst (λ number. IsUsable number) same (usable_passes paths counter.0 kept.1);
        };
      },
  λ held.
      let first = held.first in
      let last = held.last in
      let is_in = held.is_in in
      let numbered : ℕ → Serial = λ counter. record { iksn = iksn_of first; counter = counter } in
      let among = in_counters (counter_of first) (last + 1 - counter_of first) ksn.counter is_in.from_first (omega (arith, is_in.from_first, is_in.to_last)) in
      let kept = in_filter is_usable (counters_between (counter_of first) last) ksn.counter among (passes_usable paths ksn.counter is_in.is_usable) in
      let has = in_map numbered (filter is_usable (counters_between (counter_of first) last)) ksn.counter kept in
      let same : numbered ksn.counter ≡ ksn = ap (λ iksn. record ksn { iksn = iksn }) is_in.same_terminal in
      let entry = (btree_map_get_iff nat_cmp_total exact_unsigned ranges ordered first last).0 held.is_range in
      in_flat_map range_numbers ranges.entries (first, last) ksn entry (subst (λ serial. Contains (range_numbers (first, last)) serial) same has),
)

-- and one more is used where the ranges hold one more
pub used_one_more : HaveOnePath → (old new : Ranges) → IsOrdered nat_cmp old → IsOrdered nat_cmp new → (ksn : Serial) → HoldsOneMore old ksn new
    → IsOneMore (numbers_in old) ksn (numbers_in new)
used_one_more paths old new old_ordered new_ordered ksn more other =
    let was = used_iff_held paths old old_ordered other in
    let is = used_iff_held paths new new_ordered other in (
      λ used. elim ((more other).0 (is.0 used)) [
        | inl held ↦ inl (was.1 held)
        | inr same ↦ inr same
      ],
      elim [
        | inl used ↦ is.1 ((more other).1 (inl (was.0 used)))
        | inr same ↦ is.1 ((more other).1 (inr same))
      ],
    )
