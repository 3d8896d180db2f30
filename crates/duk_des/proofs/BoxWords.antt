-- The boxes and P as tables of words.
use Rattle.std.proofs.Common.{◌≡◌, ℕ, zero, suc, ◌+◌, ◌-◌, ◌*◌, ◌^◌, ◌<◌, true, List, [], ◌∷◌, ◌++◌, length, map, take, drop, get_or, nat_lt, nat_le, ◌&&◌, cond, sym, ap, ◌∙◌, arith}
use Rattle.std.proofs.lemmas.List.{length-map, get_or-drop, get_or-take}
use Rattle.duk_des.specs.Bits.{permute, bits_of}
use Rattle.duk_des.specs.Des.{substitute}
use Rattle.duk_des.specs.Tables.{output_places}
use Rattle.duk_des.specs.Words.{word_bits, box_at, at_box, selected}
use Rattle.duk_des.proofs.WordTables.{combined, gathers, gathered}

-- what a function gives of each number from `start` on
abbrev listed : (ℕ → ℕ) → ℕ → ℕ → List ℕ
listed f start zero = []
listed f start (suc count) = f start ∷ listed f (suc start) count

get_or-listed : (f : ℕ → ℕ) (start count k : ℕ) → k < count → get_or (listed f start count) k 0 ≡ f (start + k)
get_or-listed f start zero k h = absurd (omega arith)
get_or-listed f start (suc count) zero h = let same : start ≡ start + 0 = omega arith in ap f same
get_or-listed f start (suc count) (suc k) h = let same : suc start + k ≡ start + suc k = omega arith in get_or-listed f (suc start) count k (omega arith) ∙ ap f same

-- words with one bit each, at these places of 32, counted from 1
abbrev bits_at : List ℕ → List ℕ
bits_at places = map (λ place. 2 ^ (32 - place)) places

-- the word of six bits, as a number: the four bits that the box gives, at their places
abbrev word_for : ℕ → List ℕ → ℕ → ℕ
word_for number places x = combined (bits_at places) (substitute (box_at number) (bits_of 6 x))

abbrev pub words_for : ℕ → List ℕ → List ℕ
words_for number places = listed (word_for number places) 0 64

-- the number of a bit among the four of a box, or 5 where it is none of them
abbrev among_four : ℕ → ℕ → ℕ
among_four number place = cond (nat_lt (4 * (number - 1)) place && nat_le place (4 * number)) (place - 4 * (number - 1)) 5

-- P, from the four bits of a box
abbrev pub four_places : ℕ → List ℕ
four_places number = map (among_four number) output_places

entry_of : (number : ℕ) (places : List ℕ) (x : ℕ) → x < 64 → length places ≡ 4 → gathers 32 (bits_at places) (four_places number) ≡ true
    → ((n : ℕ) → permute (four_places number) (bits_of 4 n) ≡ permute output_places (at_box number (bits_of 4 n)))
    → word_bits (get_or (words_for number places) x 0) ≡ selected number (bits_of 6 x)
unfolding word_bits selected
entry_of number places x below four tested spread =
    let same : 0 + x ≡ x = omega arith in
    ap (bits_of 32) (get_or-listed (word_for number places) 0 64 x below ∙ ap (word_for number places) same)
    ∙ gathered 32 (bits_at places) (four_places number) (substitute (box_at number) (bits_of 6 x)) tested (length-map places (λ place. 2 ^ (32 - place)) ∙ four)
    ∙ spread _

-- the words of the boxes, one box after another
abbrev pub all_words : List ℕ
all_words =
    words_for 1 (9 ∷ 17 ∷ 23 ∷ 31 ∷ []) ++ (words_for 2 (13 ∷ 28 ∷ 2 ∷ 18 ∷ []) ++ (words_for 3 (24 ∷ 16 ∷ 30 ∷ 6 ∷ []) ++ (words_for 4 (26 ∷ 20 ∷ 10 ∷ 1 ∷ []) ++
    (words_for 5 (8 ∷ 14 ∷ 25 ∷ 3 ∷ []) ++ (words_for 6 (4 ∷ 29 ∷ 11 ∷ 19 ∷ []) ++ (words_for 7 (32 ∷ 12 ∷ 22 ∷ 7 ∷ []) ++ words_for 8 (5 ∷ 27 ∷ 15 ∷ 21 ∷ [])))))))

-- the same where the words of the box stand after those of the boxes before it
pub entry_in : (start number : ℕ) (places : List ℕ) (x : ℕ) → x < 64 → take 64 (drop start all_words) ≡ words_for number places
    → length places ≡ 4 → gathers 32 (bits_at places) (four_places number) ≡ true
    → ((n : ℕ) → permute (four_places number) (bits_of 4 n) ≡ permute output_places (at_box number (bits_of 4 n)))
    → word_bits (get_or all_words (start + x) 0) ≡ selected number (bits_of 6 x)
entry_in start number places x below stands four tested spread =
    ap word_bits (sym (get_or-take 64 (drop start all_words) x 0 below ∙ get_or-drop start all_words x 0))
    ∙ ap (λ words. word_bits (get_or words x 0)) stands
    ∙ entry_of number places x below four tested spread
