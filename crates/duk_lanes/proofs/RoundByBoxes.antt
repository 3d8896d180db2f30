-- The cipher function box by box: each selection function takes six bits of E(R) xor K, and its four
-- bits go where the permutation P has them.
use Rattle.std.proofs.Common.{◌≡◌, ℕ, ◌+◌, ◌-◌, ◌*◌, ◌≤◌, Bool, false, List, [], ◌∷◌, ◌++◌, length, map, take, drop, get_or, refl, sym, ap, ◌∙◌, subst, length-take, length-drop, arith}
use Rattle.std.proofs.lemmas.List.{length-map, take-map, drop-map}
use Rattle.duk_des.specs.Bits.{xor_bits, bit, permute, bits_of, digit}
use Rattle.duk_des.specs.Des.{substitute, substitute_all, cipher_function}
use Rattle.duk_des.specs.Tables.{expansion_places, output_places, round_key_places, boxes, box1, box2, box3, box4, box5, box6, box7, box8}
use Rattle.duk_lanes.specs.inner.Schedule.{window}
use Rattle.duk_lanes.specs.inner.Wiring.{xored_at}
use Rattle.duk_lanes.proofs.Written.{written, is_written}

-- six bits of E(right) xor a round key, of the places in C and of those in D
abbrev pub six_of_c : ℕ → List Bool → List Bool → List Bool
six_of_c place right c = xor_bits (permute (take 6 (drop place expansion_places)) right) (permute (take 6 (drop place round_key_places)) c)

abbrev pub six_of_d : ℕ → List Bool → List Bool → List Bool
six_of_d place right d =
    xor_bits (permute (take 6 (drop place expansion_places)) right) (permute (map (λ n. n - 28) (take 6 (drop place round_key_places))) d)

-- where the four bits of each box go
abbrev pub out1 : List ℕ
out1 = 9 ∷ 17 ∷ 23 ∷ 31 ∷ []

abbrev pub out2 : List ℕ
out2 = 13 ∷ 28 ∷ 2 ∷ 18 ∷ []

abbrev pub out3 : List ℕ
out3 = 24 ∷ 16 ∷ 30 ∷ 6 ∷ []

abbrev pub out4 : List ℕ
out4 = 26 ∷ 20 ∷ 10 ∷ 1 ∷ []

abbrev pub out5 : List ℕ
out5 = 8 ∷ 14 ∷ 25 ∷ 3 ∷ []

abbrev pub out6 : List ℕ
out6 = 4 ∷ 29 ∷ 11 ∷ 19 ∷ []

abbrev pub out7 : List ℕ
out7 = 32 ∷ 12 ∷ 22 ∷ 7 ∷ []

abbrev pub out8 : List ℕ
out8 = 5 ∷ 27 ∷ 15 ∷ 21 ∷ []

all_put : (left : List Bool) (n1 n2 n3 n4 n5 n6 n7 n8 : ℕ) → length left ≡ 32
    → xored_at out8 (bits_of 4 n8) (xored_at out7 (bits_of 4 n7) (xored_at out6 (bits_of 4 n6) (xored_at out5 (bits_of 4 n5) (xored_at out4 (bits_of 4 n4) (xored_at out3 (bits_of 4 n3) (xored_at out2 (bits_of 4 n2) (xored_at out1 (bits_of 4 n1) left)))))))
    ≡ xor_bits left (permute output_places (bits_of 4 n1 ++ (bits_of 4 n2 ++ (bits_of 4 n3 ++ (bits_of 4 n4 ++ (bits_of 4 n5 ++ (bits_of 4 n6 ++ (bits_of 4 n7 ++ (bits_of 4 n8 ++ [])))))))))
all_put left n1 n2 n3 n4 n5 n6 n7 n8 long =
    subst (λ v. xored_at out8 (bits_of 4 n8) (xored_at out7 (bits_of 4 n7) (xored_at out6 (bits_of 4 n6) (xored_at out5 (bits_of 4 n5) (xored_at out4 (bits_of 4 n4) (xored_at out3 (bits_of 4 n3) (xored_at out2 (bits_of 4 n2) (xored_at out1 (bits_of 4 n1) v)))))))
    ≡ xor_bits v (permute output_places (bits_of 4 n1 ++ (bits_of 4 n2 ++ (bits_of 4 n3 ++ (bits_of 4 n4 ++ (bits_of 4 n5 ++ (bits_of 4 n6 ++ (bits_of 4 n7 ++ (bits_of 4 n8 ++ [])))))))))) (sym (is_written false 32 left long)) refl

-- the number that a box has at six bits
abbrev entry : List ℕ → List Bool → ℕ
entry box bits = get_or box (16 * (2 * digit (bit bits 1) + digit (bit bits 6)) + (8 * digit (bit bits 2) + 4 * digit (bit bits 3) + 2 * digit (bit bits 4) + digit (bit bits 5))) 0

all_chosen : (right c d : List Bool) → length c ≡ 28 → length d ≡ 28
    → substitute box1 (six_of_c 0 right c) ++ (substitute box2 (six_of_c 6 right c) ++ (substitute box3 (six_of_c 12 right c) ++ (substitute box4 (six_of_c 18 right c) ++ (substitute box5 (six_of_d 24 right d) ++ (substitute box6 (six_of_d 30 right d) ++ (substitute box7 (six_of_d 36 right d) ++ (substitute box8 (six_of_d 42 right d) ++ [])))))))
    ≡ substitute_all boxes (xor_bits (permute expansion_places right) (permute round_key_places (c ++ d)))
all_chosen right c d left_long right_long =
    subst (λ v. substitute box1 (six_of_c 0 right v) ++ (substitute box2 (six_of_c 6 right v) ++ (substitute box3 (six_of_c 12 right v) ++ (substitute box4 (six_of_c 18 right v) ++ (substitute box5 (six_of_d 24 right d) ++ (substitute box6 (six_of_d 30 right d) ++ (substitute box7 (six_of_d 36 right d) ++ (substitute box8 (six_of_d 42 right d) ++ [])))))))
    ≡ substitute_all boxes (xor_bits (permute expansion_places right) (permute round_key_places (v ++ d))))
    (sym (is_written false 28 c left_long))
    (subst (λ v. substitute box1 (six_of_c 0 right (written false 28 0 c)) ++ (substitute box2 (six_of_c 6 right (written false 28 0 c)) ++ (substitute box3 (six_of_c 12 right (written false 28 0 c)) ++ (substitute box4 (six_of_c 18 right (written false 28 0 c)) ++ (substitute box5 (six_of_d 24 right v) ++ (substitute box6 (six_of_d 30 right v) ++ (substitute box7 (six_of_d 36 right v) ++ (substitute box8 (six_of_d 42 right v) ++ [])))))))
    ≡ substitute_all boxes (xor_bits (permute expansion_places right) (permute round_key_places (written false 28 0 c ++ v))))
    (sym (is_written false 28 d right_long)) refl)

pub by_boxes : (left right c d : List Bool) → length left ≡ 32 → length c ≡ 28 → length d ≡ 28
    → xored_at out8 (substitute box8 (six_of_d 42 right d)) (xored_at out7 (substitute box7 (six_of_d 36 right d)) (xored_at out6 (substitute box6 (six_of_d 30 right d)) (xored_at out5 (substitute box5 (six_of_d 24 right d)) (xored_at out4 (substitute box4 (six_of_c 18 right c)) (xored_at out3 (substitute box3 (six_of_c 12 right c)) (xored_at out2 (substitute box2 (six_of_c 6 right c)) (xored_at out1 (substitute box1 (six_of_c 0 right c)) left)))))))
    ≡ xor_bits left (cipher_function right (permute round_key_places (c ++ d)))
unfolding cipher_function
by_boxes left right c d long left_long right_long =
    all_put left (entry box1 (six_of_c 0 right c)) (entry box2 (six_of_c 6 right c)) (entry box3 (six_of_c 12 right c)) (entry box4 (six_of_c 18 right c)) (entry box5 (six_of_d 24 right d)) (entry box6 (six_of_d 30 right d)) (entry box7 (six_of_d 36 right d)) (entry box8 (six_of_d 42 right d)) long
    ∙ ap (λ bits. xor_bits left (permute output_places bits)) (all_chosen right c d left_long right_long)

-- the bits of words from a place on
pub bits_of_window : {X : Type 0} (f : X → Bool) (total count : ℕ) (words : List X) → count ≡ 28
    → map f (take count (drop total words)) ≡ window total (map f words)
bits_of_window f total count words h =
    sym (take-map f count (drop total words)) ∙ ap (λ n. take n (map f (drop total words))) h ∙ ap (take 28) (sym (drop-map f total words))

pub length-window : {X : Type 0} (f : X → Bool) (total : ℕ) (words : List X) → length words ≡ 56 → total ≤ 28 → length (window total (map f words)) ≡ 28
length-window f total words long within = simp (length-take, length-drop) (omega (arith, long, within, length-map words f))

-- the bits of six words, which are all of a list
pub six_bits : {X : Type 0} (f : X → Bool) (words : List X) (a b c d e g : X) {bits : List Bool} → length bits ≡ 6 → map f words ≡ bits
    → f (get_or words 0 a) ∷ f (get_or words 1 b) ∷ f (get_or words 2 c) ∷ f (get_or words 3 d) ∷ f (get_or words 4 e) ∷ f (get_or words 5 g) ∷ [] ≡ bits
six_bits f [] a b c d e g long h = absurd (omega (arith, ap length h))
six_bits f (p ∷ []) a b c d e g long h = absurd (omega (arith, ap length h))
six_bits f (p ∷ q ∷ []) a b c d e g long h = absurd (omega (arith, ap length h))
six_bits f (p ∷ q ∷ r ∷ []) a b c d e g long h = absurd (omega (arith, ap length h))
six_bits f (p ∷ q ∷ r ∷ s ∷ []) a b c d e g long h = absurd (omega (arith, ap length h))
six_bits f (p ∷ q ∷ r ∷ s ∷ t ∷ []) a b c d e g long h = absurd (omega (arith, ap length h))
six_bits f (p ∷ q ∷ r ∷ s ∷ t ∷ u ∷ []) a b c d e g long h = h
six_bits f (p ∷ q ∷ r ∷ s ∷ t ∷ u ∷ v ∷ words) a b c d e g long h = absurd (omega (arith, ap length h))
