-- Tables of places, and lists made element by element.
use Rattle.std.proofs.Common.{◌≡◌, ℕ, zero, suc, ◌+◌, ◌-◌, ◌*◌, ◌<◌, ◌≤◌, Bool, false, List, [], ◌∷◌, ◌++◌, IsTrue, length, take, drop, get_or, inl, inr, refl, sym, ap, ◌∙◌, length-append, arith}
use Rattle.std.proofs.lemmas.Bool.{cases_lt}
use Rattle.std.proofs.lemmas.Bool.Decides.{nat_tests}
use Rattle.std.proofs.lemmas.List.{ext_get_or, get_or_append_left, get_or-append-add, drop-drop}
use Rattle.duk_des.specs.Bits.{number_of, bytes_of_bits}
use Rattle.duk_des.specs.inner.Bits.{are_places}

-- each entry of a table of places is the number of a bit
pub place_at : (count : ℕ) (places : List ℕ) (k : ℕ) → IsTrue (are_places count places) → k < length places → (0 < get_or places k 0) × (get_or places k 0 ≤ count)
place_at count [] k h below = absurd (omega arith)
place_at count (place ∷ places) zero h below = grind (arith, nat_tests)
place_at count (place ∷ places) (suc k) h below = place_at count places k (grind (arith, nat_tests)) (omega arith)

-- a list of the elements of two lists of one length is both, one after the other
pub both_lists : (count : ℕ) (xs first second : List Bool) → length first ≡ count → length second ≡ count → length xs ≡ count + count
    → ((k : ℕ) → k < count → get_or xs k false ≡ get_or first k false) → ((k : ℕ) → k < count → get_or xs (count + k) false ≡ get_or second k false)
    → xs ≡ first ++ second
both_lists count xs first second h1 h2 h from_first from_second =
    ext_get_or false xs (first ++ second) (omega (arith, h1, h2, h, length-append first second))
    (λ k below. elim (cases_lt k count) [
      | inl l ↦ from_first k l ∙ sym (get_or_append_left first second false k (omega arith))
      | inr l ↦
          let shifted : k ≡ count + (k - count) = omega arith in
          let placed : k ≡ length first + (k - count) = omega arith in
          ap (λ n. get_or xs n false) shifted ∙ from_second (k - count) (omega arith)
          ∙ sym (ap (λ n. get_or (first ++ second) n false) placed ∙ get_or-append-add first second (k - count) false)
    ])

-- one of the bytes that bits spell
pub byte_at : (count : ℕ) (bits : List Bool) (k : ℕ) → k < count → get_or (bytes_of_bits count bits) k 0 ≡ number_of (take 8 (drop (8 * k) bits))
byte_at zero bits k h = absurd (omega arith)
byte_at (suc count) bits zero h = refl
byte_at (suc count) bits (suc k) h =
    let further : 8 + 8 * k ≡ 8 * suc k = omega arith in
    byte_at count (drop 8 bits) k (omega arith) ∙ ap (λ rest. number_of (take 8 rest)) (drop-drop (8 * k) 8 bits ∙ ap (λ n. drop n bits) further)

pub length-bytes_of_bits : (count : ℕ) (bits : List Bool) → length (bytes_of_bits count bits) ≡ count
length-bytes_of_bits zero bits = refl
length-bytes_of_bits (suc count) bits = ap suc (length-bytes_of_bits count (drop 8 bits))
