-- The key schedule is linear over xor.
use Rattle.std.proofs.Common.{◌≡◌, ℕ, zero, suc, ◌+◌, Bool, List, [], ◌∷◌, ◌++◌, length, take, drop, refl, sym, ap, ◌∙◌, length-append, length-take, length-drop, arith}
use lib.Bits.{bit_xor}
use Rattle.duk_des.specs.Bits.{xor_bits, permute, bits_of, bits_of_bytes}
use Rattle.duk_des.specs.Bytes.{xor_bytes}
use Rattle.duk_des.specs.Des.{rotate, schedule, round_keys, xor_keys}
use Rattle.duk_des.specs.Tables.{left_key_places, right_key_places, round_key_places, rotations}
use Rattle.duk_des.specs.inner.Words.{groups, key_bits}
use Rattle.duk_des.specs.declared.words.round_keys.RoundKey.{RoundKey}
use Rattle.duk_des.proofs.SideBySide.{consed, both}
use Rattle.duk_des.proofs.BitsOfNumbers.{length-bits_of_bytes}
use Rattle.duk_des.proofs.BitsOfWords.{bits_of-xor, xor_bits-append, permute-xor_bits}

take-xor_bits : (count : ℕ) (a b : List Bool) → length a ≡ length b → take count (xor_bits a b) ≡ xor_bits (take count a) (take count b)
take-xor_bits zero a b h = refl
take-xor_bits (suc count) [] [] h = refl
take-xor_bits (suc count) [] (y ∷ b) h = absurd (omega arith)
take-xor_bits (suc count) (x ∷ a) [] h = absurd (omega arith)
take-xor_bits (suc count) (x ∷ a) (y ∷ b) h = consed refl (take-xor_bits count a b (omega arith))

drop-xor_bits : (count : ℕ) (a b : List Bool) → length a ≡ length b → drop count (xor_bits a b) ≡ xor_bits (drop count a) (drop count b)
drop-xor_bits zero a b h = refl
drop-xor_bits (suc count) [] [] h = refl
drop-xor_bits (suc count) [] (y ∷ b) h = absurd (omega arith)
drop-xor_bits (suc count) (x ∷ a) [] h = absurd (omega arith)
drop-xor_bits (suc count) (x ∷ a) (y ∷ b) h = drop-xor_bits count a b (omega arith)

length-rotate : (count : ℕ) (half : List Bool) → length (rotate count half) ≡ length half
length-rotate count half = simp (length-append, length-drop, length-take) (omega arith)

same_rotated : (count : ℕ) (a b : List Bool) → length a ≡ length b → length (rotate count a) ≡ length (rotate count b)
same_rotated count a b h = length-rotate count a ∙ h ∙ sym (length-rotate count b)

rotate-xor_bits : (count : ℕ) (a b : List Bool) → length a ≡ length b → rotate count (xor_bits a b) ≡ xor_bits (rotate count a) (rotate count b)
rotate-xor_bits count a b h =
    let long : length (drop count a) ≡ length (drop count b) = simp length-drop (omega arith) in
    both (λ back front. back ++ front) (drop-xor_bits count a b h) (take-xor_bits count a b h)
    ∙ sym (xor_bits-append (drop count a) (take count a) (drop count b) (take count b) long)

-- a round key of halves that are sums
round_key-xor_bits : (c d e f : List Bool) → length c ≡ length e → length d ≡ length f
    → permute round_key_places (xor_bits c e ++ xor_bits d f) ≡ xor_bits (permute round_key_places (c ++ d)) (permute round_key_places (e ++ f))
round_key-xor_bits c d e f h k =
    ap (permute round_key_places) (sym (xor_bits-append c d e f h))
    ∙ permute-xor_bits round_key_places (c ++ d) (e ++ f) (length-append c d ∙ both (λ m n. m + n) h k ∙ sym (length-append e f))

schedule-xor_bits : (counts : List ℕ) (c d e f : List Bool) → length c ≡ length e → length d ≡ length f
    → schedule counts (xor_bits c e) (xor_bits d f) ≡ xor_keys (schedule counts c d) (schedule counts e f)
unfolding schedule
schedule-xor_bits [] c d e f h k = refl
schedule-xor_bits (count ∷ counts) c d e f h k =
    let same_left = same_rotated count c e h in
    let same_right = same_rotated count d f k in
    both (λ left right. permute round_key_places (left ++ right) ∷ schedule counts left right) (rotate-xor_bits count c e h) (rotate-xor_bits count d f k)
    ∙ consed
    (round_key-xor_bits (rotate count c) (rotate count d) (rotate count e) (rotate count f) same_left same_right)
    (schedule-xor_bits counts (rotate count c) (rotate count d) (rotate count e) (rotate count f) same_left same_right)

pub round_keys-xor_bits : (key mask : List Bool) → length key ≡ length mask → round_keys (xor_bits key mask) ≡ xor_keys (round_keys key) (round_keys mask)
unfolding round_keys
round_keys-xor_bits key mask h =
    both (schedule rotations) (permute-xor_bits left_key_places key mask h) (permute-xor_bits right_key_places key mask h)
    ∙ schedule-xor_bits rotations (permute left_key_places key) (permute right_key_places key) (permute left_key_places mask) (permute right_key_places mask) refl refl

bits_of_bytes-xor_bytes : (key mask : List ℕ) → length key ≡ length mask → bits_of_bytes (xor_bytes key mask) ≡ xor_bits (bits_of_bytes key) (bits_of_bytes mask)
bits_of_bytes-xor_bytes [] [] h = refl
bits_of_bytes-xor_bytes [] (y ∷ mask) h = absurd (omega arith)
bits_of_bytes-xor_bytes (x ∷ key) [] h = absurd (omega arith)
bits_of_bytes-xor_bytes (x ∷ key) (y ∷ mask) h =
    both (λ front back. front ++ back) (bits_of-xor 8 x y) (bits_of_bytes-xor_bytes key mask (omega arith))
    ∙ sym (xor_bits-append (bits_of 8 x) (bits_of_bytes key) (bits_of 8 y) (bits_of_bytes mask) refl)

pub round_keys-xor_bytes : (key mask : List ℕ) → length key ≡ length mask
    → round_keys (bits_of_bytes (xor_bytes key mask)) ≡ xor_keys (round_keys (bits_of_bytes key)) (round_keys (bits_of_bytes mask))
round_keys-xor_bytes key mask h =
    let long : length (bits_of_bytes key) ≡ length (bits_of_bytes mask) = omega (arith, h, length-bits_of_bytes key, length-bits_of_bytes mask) in
    ap round_keys (bits_of_bytes-xor_bytes key mask h) ∙ round_keys-xor_bits (bits_of_bytes key) (bits_of_bytes mask) long

-- the bits of a round key whose words are sums
pub key_bits-xor : (key mask : RoundKey)
    → (let sum : RoundKey = record { odd = bit_xor key.odd mask.odd; even = bit_xor key.even mask.even } in key_bits sum ≡ xor_bits (key_bits key) (key_bits mask))
unfolding key_bits
key_bits-xor key mask = both groups (bits_of-xor 32 key.odd mask.odd) (bits_of-xor 32 key.even mask.even) ∙ refl
