-- The bits of a lane, as the words that hold them change.
use Rattle.std.proofs.Common.{◌≡◌, ℕ, ◌+◌, ◌<◌, ◌≢◌, Bool, false, List, set, length, get_or, sym, ap, ◌∙◌, arith}
use borrow.Author.Count.{below_more}
use Rattle.std.proofs.lemmas.List.{length-map, get_or-map, map-set, ext_get_or, get_or-set_same, get_or-set_other}
use Rattle.duk_lanes.specs.Lanes.{lane_of}

module _ {L : Type 0} (lane : L → ℕ → Bool) (i : ℕ) where
  pub length-lane_of : (words : List L) → length (lane_of lane i words) ≡ length words
  length-lane_of words = length-map words (λ word. lane word i)

  -- a word that is read gives the lane's bit at its place
  pub bit_of_word : (words : List L) (place : ℕ) (word : L) → place < length words
      → lane (get_or words place word) i ≡ get_or (lane_of lane i words) place false
  bit_of_word words place word below = sym (get_or-map (λ word. lane word i) words place word false below)

  -- a word that is written changes no other place
  pub other_place : (words : List L) (place : ℕ) (word : L) (p : ℕ) → p ≢ place
      → get_or (lane_of lane i (set words place word)) p false ≡ get_or (lane_of lane i words) p false
  other_place words place word p other =
      ap (λ bits. get_or bits p false) (map-set (λ word. lane word i) words place word)
      ∙ get_or-set_other (lane_of lane i words) place p (lane word i) false other

  -- what holds of each place below this one, and of this one when its word is written
  pub one_more_place : (bits : ℕ → Bool) (words : List L) (place : ℕ) (word : L) → place < length words
      → ((p : ℕ) → p < place → get_or (lane_of lane i words) p false ≡ bits p)
      → lane word i ≡ bits place
      → (p : ℕ) → p < place + 1 → get_or (lane_of lane i (set words place word)) p false ≡ bits p
  one_more_place bits words place word below known here =
      let room : place < length (lane_of lane i words) = omega (arith, length-lane_of words) in
      below_more (λ p. get_or (lane_of lane i (set words place word)) p false ≡ bits p) place
      (λ p h. other_place words place word p (omega arith) ∙ known p h)
      (ap (λ bits. get_or bits place false) (map-set (λ word. lane word i) words place word) ∙ get_or-set_same (lane_of lane i words) place (lane word i) false room ∙ here)

  -- a lane whose bits are these
  pub lane_of-is : (words : List L) (bits : List Bool) → length words ≡ length bits
      → ((p : ℕ) → p < length words → get_or (lane_of lane i words) p false ≡ get_or bits p false)
      → lane_of lane i words ≡ bits
  lane_of-is words bits same each =
      ext_get_or false (lane_of lane i words) bits (length-lane_of words ∙ same)
      (λ p h. each p (omega (arith, length-lane_of words)))
