-- The initial and the final permutation by five exchanges each.
use Rattle.std.proofs.Common.{◌≡◌, ℕ, Bool, false, List, ◌++◌, length, take, drop, refl, sym, ap, ◌∙◌}
use Rattle.duk_des.specs.Bits.{permute}
use Rattle.duk_des.specs.Tables.{initial_places, final_places}
use Rattle.duk_des.specs.Words.{word_bits}
use Rattle.duk_des.specs.inner.Words.{first_exchanged, second_exchanged}
use Rattle.duk_des.proofs.SideBySide.{both}
use Rattle.duk_des.proofs.LiteralLists.{is_spelled}

-- two lists of bits
pub record Pair : Type 0 where
  pub first : List Bool
  pub second : List Bool

-- the bits of two words
abbrev pub words : ℕ → ℕ → Pair
words first second = record { first = word_bits first; second = word_bits second }

-- two words with bits under a mask exchanged, and one in the place of the other
abbrev pub exchange : ℕ → ℕ → Pair → Pair
exchange count mask pair = record {
  first = first_exchanged count (word_bits mask) pair.first pair.second;
  second = second_exchanged count (word_bits mask) pair.first pair.second;
}

abbrev pub turned : Pair → Pair
turned pair = record { first = pair.second; second = pair.first }

abbrev pub initially : List Bool → List Bool → Pair
initially left right =
    exchange 1 0x55555555 (turned (exchange 8 0x00ff00ff (exchange 2 0x33333333 (turned (exchange 16 0x0000ffff (exchange 4 0x0f0f0f0f (record { first = left; second = right })))))))

abbrev pub finally : List Bool → List Bool → Pair
finally first second =
    exchange 4 0x0f0f0f0f (exchange 16 0x0000ffff (turned (exchange 2 0x33333333 (exchange 8 0x00ff00ff (turned (exchange 1 0x55555555 (record { first = first; second = second })))))))

abbrev pub halves_pair : List Bool → Pair
halves_pair bits = record { first = take 32 bits; second = drop 32 bits }

length-word_bits : (word : ℕ) → length (word_bits word) ≡ 32
unfolding word_bits
length-word_bits word = refl

initially-is : (left right : List Bool) → length left ≡ 32 → length right ≡ 32 → initially left right ≡ halves_pair (permute initial_places (left ++ right))
unfolding word_bits first_exchanged second_exchanged
initially-is left right h k =
    both initially (is_spelled false 32 left h) (is_spelled false 32 right k)
    ∙ both (λ a b. halves_pair (permute initial_places (a ++ b))) (sym (is_spelled false 32 left h)) (sym (is_spelled false 32 right k))

finally-is : (first second : List Bool) → length first ≡ 32 → length second ≡ 32 → (finally first second).first ++ (finally first second).second ≡ permute final_places (first ++ second)
unfolding word_bits first_exchanged second_exchanged
finally-is first second h k =
    both (λ a b. (finally a b).first ++ (finally a b).second) (is_spelled false 32 first h) (is_spelled false 32 second k)
    ∙ both (λ a b. permute final_places (a ++ b)) (sym (is_spelled false 32 first h)) (sym (is_spelled false 32 second k))

-- an exchange after others
pub exchanged_words : (count mask first second new_first new_second : ℕ) {pair : Pair}
    → word_bits new_first ≡ first_exchanged count (word_bits mask) (word_bits first) (word_bits second)
    → word_bits new_second ≡ second_exchanged count (word_bits mask) (word_bits first) (word_bits second)
    → words first second ≡ pair → words new_first new_second ≡ exchange count mask pair
exchanged_words count mask first second new_first new_second {pair} h k e =
    both (λ a b. let p : Pair = record { first = a; second = b } in p) h k ∙ ap (exchange count mask) e

pub initial_words : (left right new_left new_right : ℕ) (bits : List Bool) → word_bits left ++ word_bits right ≡ bits
    → words new_left new_right ≡ initially (word_bits left) (word_bits right) → words new_left new_right ≡ halves_pair (permute initial_places bits)
initial_words left right new_left new_right bits h e =
    e ∙ initially-is (word_bits left) (word_bits right) (length-word_bits left) (length-word_bits right) ∙ ap (λ all. halves_pair (permute initial_places all)) h

pub final_words : (first second new_first new_second : ℕ) → words new_first new_second ≡ finally (word_bits first) (word_bits second)
    → word_bits new_first ++ word_bits new_second ≡ permute final_places (word_bits first ++ word_bits second)
final_words first second new_first new_second e =
    ap (λ pair. pair.first ++ pair.second) e ∙ finally-is (word_bits first) (word_bits second) (length-word_bits first) (length-word_bits second)
