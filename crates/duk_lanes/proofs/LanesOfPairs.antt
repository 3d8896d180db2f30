-- The lanes of pairs of words: those of the first word, and those of the second.
use Rattle.std.proofs.Common.{◌≡◌, ℕ, ◌+◌, ◌-◌, ◌^◌, ◌<◌, ◌≤◌, Bool, false, not, List, [], ◌∷◌, length, map, get_or, Fits, w64, inl, inr, sym, ap, ◌∙◌, arith}
use lib.Lanes.{Each1, zip2}
use Rattle.std.proofs.lemmas.Bool.{cases_lt}
use Rattle.std.proofs.lemmas.Bool.Decides.{nat_tests}
use Rattle.std.proofs.lemmas.List.{length-map, get_or-map, ext_get_or}
use Rattle.duk_lanes.specs.Lanes.{lane_of}
use Rattle.duk_lanes.specs.Words.{word_lane, wide_lane}
use Rattle.duk_lanes.proofs.BitsOfWords.{both}
use Rattle.duk_lanes.proofs.LanesOfWords.{lane-not}

pub first_lane : (pair : List ℕ) (i : ℕ) → i < 64 → wide_lane pair i ≡ word_lane (get_or pair 0 0) i
unfolding wide_lane
first_lane pair i below = grind (arith, nat_tests)

pub second_lane : (pair : List ℕ) (i : ℕ) → 64 ≤ i → wide_lane pair i ≡ word_lane (get_or pair 1 0) (i - 64)
unfolding wide_lane
second_lane pair i above = grind (arith, nat_tests)

-- a gate over both words of two pairs
module _ (f : ℕ → ℕ → ℕ) (g : Bool → Bool → Bool) (each : (a b i : ℕ) → word_lane (f a b) i ≡ g (word_lane a i) (word_lane b i)) where
  pub gate_of_pairs : (a b : List ℕ) (i : ℕ) → length a ≡ 2 → length b ≡ 2 → wide_lane (zip2 f a b) i ≡ g (wide_lane a i) (wide_lane b i)
  gate_of_pairs (a ∷ c ∷ []) (b ∷ d ∷ []) i two_a two_b =
      elim (cases_lt i 64) [
        | inl below ↦
            first_lane (f a b ∷ f c d ∷ []) i below
            ∙ each a b i
            ∙ sym (both g (first_lane (a ∷ c ∷ []) i below) (first_lane (b ∷ d ∷ []) i below))
        | inr above ↦
            second_lane (f a b ∷ f c d ∷ []) i above
            ∙ each c d (i - 64)
            ∙ sym (both g (second_lane (a ∷ c ∷ []) i above) (second_lane (b ∷ d ∷ []) i above))
      ]
  gate_of_pairs [] b i two_a two_b = absurd (omega arith)
  gate_of_pairs (a ∷ []) b i two_a two_b = absurd (omega arith)
  gate_of_pairs (a ∷ c ∷ e ∷ more) b i two_a two_b = absurd (omega arith)
  gate_of_pairs (a ∷ c ∷ []) [] i two_a two_b = absurd (omega arith)
  gate_of_pairs (a ∷ c ∷ []) (b ∷ []) i two_a two_b = absurd (omega arith)
  gate_of_pairs (a ∷ c ∷ []) (b ∷ d ∷ e ∷ more) i two_a two_b = absurd (omega arith)

-- the complement of both words of a pair
pub not_of_pairs : (a : List ℕ) (i : ℕ) → length a ≡ 2 → Each1 (Fits w64) a → i < 128
    → wide_lane (map (λ n. 2 ^ 64 - 1 - n) a) i ≡ not (wide_lane a i)
not_of_pairs (a ∷ b ∷ []) i two fits within =
    elim (cases_lt i 64) [
      | inl below ↦
          first_lane ((2 ^ 64 - 1 - a) ∷ (2 ^ 64 - 1 - b) ∷ []) i below
          ∙ lane-not a i fits.0.fits below
          ∙ sym (ap not (first_lane (a ∷ b ∷ []) i below))
      | inr above ↦
          second_lane ((2 ^ 64 - 1 - a) ∷ (2 ^ 64 - 1 - b) ∷ []) i above
          ∙ lane-not b (i - 64) fits.1.0.fits (omega arith)
          ∙ sym (ap not (second_lane (a ∷ b ∷ []) i above))
    ]
not_of_pairs [] i two fits within = absurd (omega arith)
not_of_pairs (a ∷ []) i two fits within = absurd (omega arith)
not_of_pairs (a ∷ b ∷ c ∷ more) i two fits within = absurd (omega arith)

-- the lanes of words that are the first words of pairs, and of words that are the second ones
pub lanes_of_firsts : (pairs : List (List ℕ)) (words : List ℕ) (i : ℕ) → i < 64 → length pairs ≡ 64 → length words ≡ 64
    → ((p : ℕ) → p < 64 → get_or (get_or pairs p []) 0 0 ≡ get_or words p 0) → lane_of wide_lane i pairs ≡ lane_of word_lane i words
lanes_of_firsts pairs words i below long_pairs long_words each =
    ext_get_or false (lane_of wide_lane i pairs) (lane_of word_lane i words)
    (length-map pairs (λ pair. wide_lane pair i) ∙ long_pairs ∙ sym (length-map words (λ word. word_lane word i) ∙ long_words))
    (λ p h.
    let within : p < 64 = omega (arith, long_pairs, length-map pairs (λ pair. wide_lane pair i)) in
    get_or-map (λ pair. wide_lane pair i) pairs p [] false (omega arith)
    ∙ first_lane (get_or pairs p []) i below
    ∙ ap (λ word. word_lane word i) (each p within)
    ∙ sym (get_or-map (λ word. word_lane word i) words p 0 false (omega arith)))

pub lanes_of_seconds : (pairs : List (List ℕ)) (words : List ℕ) (i : ℕ) → i < 64 → length pairs ≡ 64 → length words ≡ 64
    → ((p : ℕ) → p < 64 → get_or (get_or pairs p []) 1 0 ≡ get_or words p 0) → lane_of wide_lane (64 + i) pairs ≡ lane_of word_lane i words
lanes_of_seconds pairs words i below long_pairs long_words each =
    let back : 64 + i - 64 ≡ i = omega arith in
    ext_get_or false (lane_of wide_lane (64 + i) pairs) (lane_of word_lane i words)
    (length-map pairs (λ pair. wide_lane pair (64 + i)) ∙ long_pairs ∙ sym (length-map words (λ word. word_lane word i) ∙ long_words))
    (λ p h.
    let within : p < 64 = omega (arith, long_pairs, length-map pairs (λ pair. wide_lane pair (64 + i))) in
    get_or-map (λ pair. wide_lane pair (64 + i)) pairs p [] false (omega arith)
    ∙ second_lane (get_or pairs p []) (64 + i) (omega arith)
    ∙ both word_lane (each p within) back
    ∙ sym (get_or-map (λ word. word_lane word i) words p 0 false (omega arith)))
