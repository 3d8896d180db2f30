-- Sums of keys of one length: the order of two is free, and one that is added twice is gone.
use Rattle.std.proofs.Common.{◌≡◌, ◌<◌, ◌++◌, ◌∷◌, [], List, ℕ, ap, ap₂, arith, fold, get_or, length, replicate, refl, set, subst, sym, ◌∙◌, bit_xor, zero, suc}
use Rattle.std.specs.List.{AllByRecursion, swap}
use Rattle.std.specs.List.Sorted.{IsPermutation}
use Rattle.std.specs.Int.Bits.{xor_assoc, xor_self, xor_zero_l, xor_zero_r}
use Rattle.std.proofs.lemmas.Nat.{xor_comm}
use Rattle.std.proofs.lemmas.List.{length-replicate, nil_from_length}
use Rattle.std.proofs.lemmas.List.Edits.{swap_is}
use Rattle.std.proofs.lemmas.List.Sums.{fold-append}
use Rattle.std.proofs.lemmas.List.Sorted.{IsPermutation-keeps, length_permutation}
use Rattle.duk_commands.specs.CheckValues.{combined}
use Rattle.duk_components.specs.Components.{IsOfSize}
use Rattle.duk_tdes.specs.Key.{IsKey, xor_bytes}
use Rattle.duk_tdes.specs.KeyBytes.{bytes_of}
use Rattle.duk_tdes.specs.declared.key.KeyBytes.{KeyBytes}
use Rattle.duk_tdes.specs.declared.key.KeyBytes.TheVariants.{Double, Triple}

long : (a b : List ℕ) → length (xor_bytes a b) ≡ length a
long [] b = refl
long (x ∷ a) [] = refl
long (x ∷ a) (y ∷ b) = ap suc (long a b)

turned : (a b : List ℕ) → length a ≡ length b → xor_bytes a b ≡ xor_bytes b a
turned [] [] same = refl
turned [] (y ∷ b) same = absurd (omega arith)
turned (x ∷ a) [] same = absurd (omega arith)
turned (x ∷ a) (y ∷ b) same = ap₂ (λ (n : ℕ) (rest : List ℕ). n ∷ rest) (xor_comm x y) (turned a b (omega arith))

joined : (a b c : List ℕ) → length a ≡ length b → length b ≡ length c → xor_bytes (xor_bytes a b) c ≡ xor_bytes a (xor_bytes b c)
joined [] b c same also = refl
joined (x ∷ a) [] c same also = absurd (omega arith)
joined (x ∷ a) (y ∷ b) [] same also = absurd (omega arith)
joined (x ∷ a) (y ∷ b) (z ∷ c) same also = ap₂ (λ (n : ℕ) (rest : List ℕ). n ∷ rest) (xor_assoc x y z) (joined a b c (omega arith) (omega arith))

twice : (a b : List ℕ) → length a ≡ length b → xor_bytes (xor_bytes a b) b ≡ a
twice [] b same = refl
twice (x ∷ a) [] same = absurd (omega arith)
twice (x ∷ a) (y ∷ b) same =
    ap₂ (λ (n : ℕ) (rest : List ℕ). n ∷ rest) (xor_assoc x y y ∙ ap (bit_xor x) (xor_self y) ∙ xor_zero_r x) (twice a b (omega arith))

from_zeros : (a : List ℕ) → xor_bytes (replicate (length a) 0) a ≡ a
from_zeros [] = refl
from_zeros (x ∷ a) = ap₂ (λ (n : ℕ) (rest : List ℕ). n ∷ rest) (xor_zero_l x) (from_zeros a)

-- two that are added change places
exchanged : (a b c : List ℕ) → length a ≡ length b → length b ≡ length c → xor_bytes (xor_bytes a b) c ≡ xor_bytes (xor_bytes a c) b
exchanged a b c same also =
    joined a b c same also ∙ ap (xor_bytes a) (turned b c also) ∙ sym (joined a c b (same ∙ also) (sym also))

-- what keys make, added to some bytes
abbrev pub sum_from : List ℕ → List KeyBytes → List ℕ
sum_from = fold (λ key component. xor_bytes key (bytes_of component))

long_sum : (a : List ℕ) (keys : List KeyBytes) → length (sum_from a keys) ≡ length a
long_sum a [] = refl
long_sum a (key ∷ keys) = long_sum (xor_bytes a (bytes_of key)) keys ∙ long a (bytes_of key)

abbrev with_bytes : KeyBytes → List ℕ → KeyBytes
with_bytes (Double key) bytes = Double bytes
with_bytes (Triple key) bytes = Triple bytes

has_bytes : (key : KeyBytes) (bytes : List ℕ) → bytes_of (with_bytes key bytes) ≡ bytes
has_bytes (Double key) bytes = refl
has_bytes (Triple key) bytes = refl

at_other : (keys : List KeyBytes) (i j : ℕ) (d : KeyBytes) → i < length keys → get_or (set keys i (get_or keys j d)) j d ≡ get_or keys j d
at_other [] i j d inside = absurd (omega arith)
at_other (key ∷ keys) zero zero d inside = refl
at_other (key ∷ keys) zero (suc j) d inside = refl
at_other (key ∷ keys) (suc i) zero d inside = refl
at_other (key ∷ keys) (suc i) (suc j) d inside = at_other keys i j d (omega arith)

length-set : (keys : List KeyBytes) (i : ℕ) (key : KeyBytes) → length (set keys i key) ≡ length keys
length-set [] i key = refl
length-set (first ∷ keys) zero key = refl
length-set (first ∷ keys) (suc i) key = ap suc (length-set keys i key)

module _ (size : ℕ) where
  abbrev Are : List KeyBytes → Type 0
  Are keys = AllByRecursion (IsOfSize size) keys

  added : (a b : List ℕ) (keys : List KeyBytes) → length a ≡ size → length b ≡ size → Are keys
      → sum_from (xor_bytes a b) keys ≡ xor_bytes (sum_from a keys) b
  added a b [] a_size b_size are = refl
  added a b (key ∷ keys) a_size b_size are =
      ap (λ (c : List ℕ). sum_from c keys) (exchanged a b (bytes_of key) (a_size ∙ sym b_size) (b_size ∙ sym are.0.size_is))
      ∙ added (xor_bytes a (bytes_of key)) b keys (long a (bytes_of key) ∙ a_size) b_size are.1

  undone : (a : List ℕ) (keys : List KeyBytes) → length a ≡ size → Are keys → sum_from (sum_from a keys) keys ≡ a
  undone a [] a_size are = refl
  undone a (key ∷ keys) a_size are =
      let k = bytes_of key in
      let more = xor_bytes a k in
      let more_size : length more ≡ size = long a k ∙ a_size in
      added (sum_from more keys) k keys (long_sum more keys ∙ more_size) are.0.size_is are.1
      ∙ ap (λ (b : List ℕ). xor_bytes b k) (undone more keys more_size are.1)
      ∙ twice a k (a_size ∙ sym are.0.size_is)

  are_set : (keys : List KeyBytes) (i : ℕ) (key : KeyBytes) → Are keys → IsOfSize size key → Are (set keys i key)
  are_set [] i key are is = tt
  are_set (first ∷ keys) zero key are is = (is, are.1)
  are_set (first ∷ keys) (suc i) key are is = (are.0, are_set keys i key are.1 is)

  is_at : (keys : List KeyBytes) (i : ℕ) (d : KeyBytes) → i < length keys → Are keys → IsOfSize size (get_or keys i d)
  is_at [] i d inside are = absurd (omega arith)
  is_at (first ∷ keys) zero d inside are = are.0
  is_at (first ∷ keys) (suc i) d inside are = is_at keys i d (omega arith) are.1

  replaced : (a : List ℕ) (keys : List KeyBytes) (i : ℕ) (key d : KeyBytes) → i < length keys → length a ≡ size → Are keys → IsOfSize size key
      → xor_bytes (sum_from a (set keys i key)) (bytes_of (get_or keys i d)) ≡ xor_bytes (sum_from a keys) (bytes_of key)
  replaced a [] i key d inside a_size are is = absurd (omega arith)
  replaced a (first ∷ keys) zero key d inside a_size are is =
      let f = bytes_of first in
      let k = bytes_of key in
      sym (added (xor_bytes a k) f keys (long a k ∙ a_size) are.0.size_is are.1)
      ∙ ap (λ (c : List ℕ). sum_from c keys) (exchanged a k f (a_size ∙ sym is.size_is) (is.size_is ∙ sym are.0.size_is))
      ∙ added (xor_bytes a f) k keys (long a f ∙ a_size) is.size_is are.1
  replaced a (first ∷ keys) (suc i) key d inside a_size are is =
      replaced (xor_bytes a (bytes_of first)) keys i key d (omega arith) (long a (bytes_of first) ∙ a_size) are.1 is

  -- with a component in each other's place
  still : (a : List ℕ) (keys : List KeyBytes) (i j : ℕ) → i < length keys → j < length keys → length a ≡ size → Are keys
      → (Are (swap keys i j)) × (sum_from a (swap keys i j) ≡ sum_from a keys)
  still a keys i j i_in j_in a_size are =
      let d = Double [] in
      let at_i = get_or keys i d in
      let at_j = get_or keys j d in
      let is_i = is_at keys i d i_in are in
      let is_j = is_at keys j d j_in are in
      let half = set keys i at_j in
      let are_half = are_set keys i at_j are is_j in
      let half_long : length half ≡ length keys = length-set keys i at_j in
      let at : get_or half j d ≡ at_j = at_other keys i j d i_in in
      let once = replaced a keys i at_j d i_in a_size are is_j in
      let again : xor_bytes (sum_from a (set half j at_i)) (bytes_of at_j) ≡ xor_bytes (sum_from a half) (bytes_of at_i) =
      ap (λ (k : KeyBytes). xor_bytes (sum_from a (set half j at_i)) (bytes_of k)) (sym at)
      ∙ replaced a half j at_i d (omega (arith, half_long)) a_size are_half is_i in
      let sums : sum_from a (set half j at_i) ≡ sum_from a keys =
      sym (twice (sum_from a (set half j at_i)) (bytes_of at_j) (long_sum a (set half j at_i) ∙ a_size ∙ sym is_j.size_is))
      ∙ ap (λ (b : List ℕ). xor_bytes b (bytes_of at_j)) (again ∙ once)
      ∙ twice (sum_from a keys) (bytes_of at_j) (long_sum a keys ∙ a_size ∙ sym is_j.size_is) in
      let moved = swap_is keys i j d i_in j_in in
      (subst Are moved (are_set half j at_i are_half is_i), ap (sum_from a) (sym moved) ∙ sums)

  sum_of_size : (keys : List KeyBytes) → 0 < length keys → Are keys → combined keys ≡ sum_from (replicate size 0) keys
  sum_of_size [] some are = absurd (omega arith)
  sum_of_size (first ∷ keys) some are =
      ap (λ (a : List ℕ). sum_from a keys)
      (sym (from_zeros (bytes_of first)) ∙ ap (λ (n : ℕ). xor_bytes (replicate n 0) (bytes_of first)) are.0.size_is)

  pub in_any_order : (keys others : List KeyBytes) → Are keys → IsPermutation keys others → combined keys ≡ combined others
  in_any_order [] others are moved = ap combined (sym (nil_from_length others (length_permutation [] others moved)))
  in_any_order (first ∷ rest) others are moved =
      let keys : List KeyBytes = first ∷ rest in
      let zeros : List ℕ = replicate size 0 in
      let zeros_long : length zeros ≡ size = length-replicate size 0 in
      let kept : (Are others) × (sum_from zeros others ≡ sum_from zeros keys) =
      IsPermutation-keeps keys (λ (l : List KeyBytes). (Are l) × (sum_from zeros l ≡ sum_from zeros keys)) (are, refl)
      (λ l i j i_in j_in now.
      let next = still zeros l i j i_in j_in zeros_long now.0 in
      (next.0, next.1 ∙ now.1)) others moved in
      let many : length others ≡ length keys = length_permutation keys others moved in
      sum_of_size keys (omega arith) are ∙ sym kept.1 ∙ sym (sum_of_size others (omega (arith, many)) kept.0)

  module _ (masked : (key mask : List ℕ) → IsKey size key → IsKey size mask → IsKey size (xor_bytes key mask)) where
    is_sum : (a : List ℕ) (keys : List KeyBytes) → IsKey size a → Are keys → IsKey size (sum_from a keys)
    is_sum a [] is are = is
    is_sum a (key ∷ keys) is are = is_sum (xor_bytes a (bytes_of key)) keys (masked a (bytes_of key) is are.0) are.1

    pub there_is_one : (before after : List KeyBytes) (lmk : KeyBytes) → Are before → Are after → IsOfSize size lmk
        → (last : KeyBytes) × IsOfSize size last × (combined (before ++ last ∷ after) ≡ bytes_of lmk)
    there_is_one [] after lmk are_before are_after is =
        let m = bytes_of lmk in
        let wanted = sum_from m after in (
          with_bytes lmk wanted,
          subst (IsKey size) (sym (has_bytes lmk wanted)) (is_sum m after is are_after),
          ap (λ (a : List ℕ). sum_from a after) (has_bytes lmk wanted) ∙ undone m after is.size_is are_after,
        )
    there_is_one (first ∷ rest) after lmk are_before are_after is =
        let m = bytes_of lmk in
        let without = sum_from m after in
        let front = sum_from (bytes_of first) rest in
        let wanted = xor_bytes without front in
        let last = with_bytes lmk wanted in
        let is_without = is_sum m after is are_after in
        let is_front = is_sum (bytes_of first) rest are_before.0 are_before.1 in
        let is_wanted = masked without front is_without is_front in
        let whole : xor_bytes front (bytes_of last) ≡ without =
        ap (xor_bytes front) (has_bytes lmk wanted)
        ∙ turned front wanted (is_front.size_is ∙ sym is_wanted.size_is)
        ∙ twice without front (is_without.size_is ∙ sym is_front.size_is) in (
          last,
          subst (IsKey size) (sym (has_bytes lmk wanted)) is_wanted,
          fold-append (λ key component. xor_bytes key (bytes_of component)) (bytes_of first) rest (last ∷ after)
              ∙ ap (λ (a : List ℕ). sum_from a after) whole ∙ undone m after is.size_is are_after,
        )
