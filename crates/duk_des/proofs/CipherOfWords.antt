-- The cipher function f of words.
use Rattle.std.proofs.Common.{◌≡◌, ℕ, ◌+◌, ◌*◌, ◌/◌, ◌%◌, ◌^◌, ◌<◌, Bool, false, List, [], ◌++◌, length, replicate, refl, sym, ap, ◌∙◌, arith}
use lib.Bits.{bit_or, bit_xor}
use Rattle.std.proofs.lemmas.Nat.{or_shifted, shr_below}
use Rattle.std.proofs.lemmas.List.{take_at, drop_at, length-append, length-replicate}
use Rattle.duk_des.specs.Bits.{xor_bits, permute, bits_of}
use Rattle.duk_des.specs.Des.{substitute_all, cipher_function, rotate}
use Rattle.duk_des.specs.Tables.{output_places, boxes}
use Rattle.duk_des.specs.Words.{word_bits, at_box, selected}
use Rattle.duk_des.specs.inner.Words.{group_at, groups, key_bits}
use Rattle.duk_des.specs.declared.words.round_keys.RoundKey.{RoundKey}
use Rattle.duk_des.proofs.BitsOfNumbers.{length-bits_of}
use Rattle.duk_des.proofs.SideBySide.{both}
use Rattle.duk_des.proofs.LiteralLists.{is_spelled}
use Rattle.duk_des.proofs.BitsOfWords.{bits_of-split, bits_of-cat, bits_of-low, bits_of-xor, beside, permute-xor_bits}

-- a word that is rotated to the left, given the bits that stay in it above the others
pub rotated_word : (count rest word moved : ℕ) → 32 ≡ rest + count → word < 2 ^ 32 → moved ≡ word % 2 ^ rest * 2 ^ count
    → word_bits (bit_or moved (word / 2 ^ rest)) ≡ rotate count (word_bits word)
unfolding word_bits
rotated_word count rest word moved whole fits e =
    let turned : 32 ≡ count + rest = omega arith in
    let below : word < 2 ^ (count + rest) = omega (arith, fits, ap (λ n. 2 ^ n) turned) in
    let low : word / 2 ^ rest < 2 ^ count = shr_below word count rest below in
    let lower : List Bool = bits_of rest word in
    let upper : List Bool = bits_of count (word / 2 ^ rest) in
    ap (bits_of 32) (ap (λ n. bit_or n (word / 2 ^ rest)) e ∙ or_shifted (word % 2 ^ rest) count (word / 2 ^ rest) low)
    ∙ bits_of-cat rest count 32 (word % 2 ^ rest) (word / 2 ^ rest) whole low
    ∙ ap (λ bits. bits ++ upper) (bits_of-low rest word)
    ∙ sym (ap (rotate count) (bits_of-split count rest 32 word turned)
    ∙ both (λ back front. back ++ front) (drop_at upper lower count (length-bits_of count (word / 2 ^ rest))) (take_at upper lower count (length-bits_of count (word / 2 ^ rest))))

pub sum_of_words : (x y : ℕ) {a b : List Bool} → word_bits x ≡ a → word_bits y ≡ b → word_bits (bit_xor x y) ≡ xor_bits a b
unfolding word_bits
sum_of_words x y {a} {b} h k = bits_of-xor 32 x y ∙ both xor_bits h k

-- the bits of one more box
one_more : (m n : ℕ) (a b : List Bool) {sum : List Bool} → length a ≡ m → length b ≡ n → sum ≡ permute output_places (a ++ replicate n false)
    → xor_bits sum (permute output_places (replicate m false ++ b)) ≡ permute output_places (a ++ b)
one_more m n a b {sum} h k e =
    let long : length (a ++ replicate n false) ≡ length (replicate m false ++ b) =
    omega (arith, h, k, length-append a (replicate n false), length-append (replicate m false) b, length-replicate m false, length-replicate n false) in
    ap (λ bits. xor_bits bits (permute output_places (replicate m false ++ b))) e
    ∙ sym (permute-xor_bits output_places (a ++ replicate n false) (replicate m false ++ b) long)
    ∙ ap (permute output_places) (beside m n a b h k)

-- the bits of a box with zeros elsewhere, for four bits that are those of a number
abbrev placed : ℕ → ℕ → List Bool
placed number four = permute output_places (at_box number (bits_of 4 four))

all_boxes : (n1 n2 n3 n4 n5 n6 n7 n8 : ℕ)
    → xor_bits (xor_bits (xor_bits (xor_bits (xor_bits (xor_bits (xor_bits (placed 1 n1) (placed 2 n2)) (placed 3 n3)) (placed 4 n4)) (placed 5 n5)) (placed 6 n6)) (placed 7 n7)) (placed 8 n8)
    ≡ permute output_places (bits_of 4 n1 ++ (bits_of 4 n2 ++ (bits_of 4 n3 ++ (bits_of 4 n4 ++ (bits_of 4 n5 ++ (bits_of 4 n6 ++ (bits_of 4 n7 ++ (bits_of 4 n8 ++ []))))))))
all_boxes n1 n2 n3 n4 n5 n6 n7 n8 =
    let zeros : ℕ → List Bool = λ n. replicate n false in
    let d2 : List Bool = bits_of 4 n1 ++ bits_of 4 n2 in
    let d3 : List Bool = d2 ++ bits_of 4 n3 in
    let d4 : List Bool = d3 ++ bits_of 4 n4 in
    let d5 : List Bool = d4 ++ bits_of 4 n5 in
    let d6 : List Bool = d5 ++ bits_of 4 n6 in
    let d7 : List Bool = d6 ++ bits_of 4 n7 in
    one_more 28 4 d7 (bits_of 4 n8) refl refl
    (one_more 24 8 d6 (bits_of 4 n7 ++ zeros 4) refl refl
    (one_more 20 12 d5 (bits_of 4 n6 ++ zeros 8) refl refl
    (one_more 16 16 d4 (bits_of 4 n5 ++ zeros 12) refl refl
    (one_more 12 20 d3 (bits_of 4 n4 ++ zeros 16) refl refl
    (one_more 8 24 d2 (bits_of 4 n3 ++ zeros 20) refl refl
    (one_more 4 28 (bits_of 4 n1) (bits_of 4 n2 ++ zeros 24) refl refl refl))))))

-- what the boxes give of the groups of two words, each at its places
abbrev pub eight_selected : List Bool → List Bool → List Bool
eight_selected odd even =
    xor_bits (xor_bits (xor_bits (xor_bits (xor_bits (xor_bits (xor_bits
    (selected 1 (group_at 0 odd)) (selected 2 (group_at 0 even))) (selected 3 (group_at 8 odd))) (selected 4 (group_at 8 even)))
    (selected 5 (group_at 16 odd))) (selected 6 (group_at 16 even))) (selected 7 (group_at 24 odd))) (selected 8 (group_at 24 even))

all_selected : (odd even : List Bool) → length odd ≡ 32 → length even ≡ 32
    → eight_selected odd even ≡ permute output_places (substitute_all boxes (groups odd even))
unfolding selected
all_selected odd even h k =
    both eight_selected (is_spelled false 32 odd h) (is_spelled false 32 even k)
    ∙ all_boxes _ _ _ _ _ _ _ _
    ∙ both (λ a b. permute output_places (substitute_all boxes (groups a b))) (sym (is_spelled false 32 odd h)) (sym (is_spelled false 32 even k))

-- f of a half and a round key, by the words to which the half is added
pub cipher_of_groups : (right odd even : ℕ) (key : RoundKey)
    → word_bits odd ≡ xor_bits (rotate 29 (word_bits right)) (word_bits key.odd) → word_bits even ≡ xor_bits (rotate 1 (word_bits right)) (word_bits key.even)
    → eight_selected (word_bits odd) (word_bits even) ≡ cipher_function (word_bits right) (key_bits key)
unfolding word_bits key_bits cipher_function
cipher_of_groups right odd even key h k =
    all_selected (bits_of 32 odd) (bits_of 32 even) refl refl ∙ both (λ a b. permute output_places (substitute_all boxes (groups a b))) h k
