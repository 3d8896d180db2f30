-- Bits, the numbers that they spell and their bytes, there and back.
use Rattle.std.proofs.Common.{◌≡◌, ℕ, zero, suc, ◌+◌, ◌*◌, ◌/◌, ◌%◌, ◌^◌, ◌<◌, ◌==◌, Bool, true, false, List, [], ◌∷◌, ◌++◌, length, take, drop, get_or, refl, sym, ap, ap₂, ◌∙◌, one-add, length-take, length-drop, take-append-drop, arith}
use Rattle.std.specs.Bool.{xor}
use Rattle.std.specs.List.{All}
use Rattle.std.proofs.Math.Nat.{two-pow-succ, add-mul-div_right, add-mul-mod_self_right}
use Rattle.std.proofs.lemmas.Nat.{pow_pos, shr_high, mod-pow-add, mod_below}
use Rattle.duk_des.specs.Bits.{bits_of, bits_of_bytes, digit, number_of, bytes_of_bits, xor_bits}

consed : {X : Type 0} {x y : X} {xs ys : List X} → x ≡ y → xs ≡ ys → x ∷ xs ≡ y ∷ ys
consed {X} is rest = ap₂ (λ (first : X) (others : List X). first ∷ others) is rest

pub number_of-lt : (bits : List Bool) → number_of bits < 2 ^ length bits
number_of-lt [] = omega arith
number_of-lt (false ∷ bits) = omega (arith, number_of-lt bits, two-pow-succ (length bits))
number_of-lt (true ∷ bits) = omega (arith, number_of-lt bits, two-pow-succ (length bits))

pub length-bits_of : (count number : ℕ) → length (bits_of count number) ≡ count
length-bits_of zero number = refl
length-bits_of (suc count) number = ap suc (length-bits_of count number)

pub length-bits_of_bytes : (bytes : List ℕ) → length (bits_of_bytes bytes) ≡ length bytes * 8
length-bits_of_bytes [] = refl
length-bits_of_bytes (byte ∷ bytes) = omega (arith, length-bits_of_bytes bytes)

pub length-xor_bits : (a b : List Bool) → length a ≡ length b → length (xor_bits a b) ≡ length a
length-xor_bits [] b same = refl
length-xor_bits (x ∷ a) [] same = absurd (omega arith)
length-xor_bits (x ∷ a) (y ∷ b) same = ap suc (length-xor_bits a b (omega arith))

pub get_or-xor_bits : (a b : List Bool) (k : ℕ) → length a ≡ length b → k < length a
    → get_or (xor_bits a b) k false ≡ xor (get_or a k false) (get_or b k false)
get_or-xor_bits [] b k same below = absurd (omega arith)
get_or-xor_bits (x ∷ a) [] k same below = absurd (omega arith)
get_or-xor_bits (x ∷ a) (y ∷ b) zero same below = refl
get_or-xor_bits (x ∷ a) (y ∷ b) (suc k) same below = get_or-xor_bits a b k (omega arith) (omega arith)

-- a bit as a digit, and a digit as a bit
is_digit : (b : Bool) → (digit b % 2 == 1) ≡ b
is_digit false = refl
is_digit true = refl

digit_is : (n : ℕ) → n < 2 → digit (n == 1) ≡ n
digit_is zero small = refl
digit_is (suc zero) small = refl
digit_is (suc (suc n)) small = absurd (omega arith)

-- bits above the lowest `count` do not matter
bits_of-high : (count high low : ℕ) → bits_of count (high * 2 ^ count + low) ≡ bits_of count low
bits_of-high zero high low = refl
bits_of-high (suc count) high low =
    let doubled : high * 2 ^ suc count + low ≡ low + (high * 2) * 2 ^ count = ap (λ p. high * p + low) (two-pow-succ count) ∙ omega arith in
    let turned : low + (high * 2) * 2 ^ count ≡ (high * 2) * 2 ^ count + low = omega arith in
    consed
    (ap (λ n. n / 2 ^ count % 2 == 1) doubled
    ∙ ap (λ q. q % 2 == 1) (add-mul-div_right low (high * 2) (pow_pos count))
    ∙ ap (λ r. r == 1) (add-mul-mod_self_right (low / 2 ^ count) high 2))
    (ap (bits_of count) (doubled ∙ turned) ∙ bits_of-high count (high * 2) low)

bits_of-number_of : (bits : List Bool) → bits_of (length bits) (number_of bits) ≡ bits
bits_of-number_of [] = refl
bits_of-number_of (b ∷ bits) =
    consed
    (ap (λ q. q % 2 == 1) (shr_high (digit b) (length bits) (number_of bits) (number_of-lt bits)) ∙ is_digit b)
    (bits_of-high (length bits) (digit b) (number_of bits) ∙ bits_of-number_of bits)

number_of-bits_of : (count number : ℕ) → number_of (bits_of count number) ≡ number % 2 ^ count
number_of-bits_of zero number = omega arith
number_of-bits_of (suc count) number =
    ap (λ n. digit (number / 2 ^ count % 2 == 1) * 2 ^ n + number_of (bits_of count number)) (length-bits_of count number)
    ∙ ap (λ d. d * 2 ^ count + number_of (bits_of count number)) (digit_is _ (mod_below (number / 2 ^ count) 2 (omega arith)))
    ∙ ap (λ rest. (number / 2 ^ count % 2) * 2 ^ count + rest) (number_of-bits_of count number)
    ∙ sym (mod-pow-add number 1 count)
    ∙ ap (λ n. number % 2 ^ n) (one-add count)

pub bits_of_bytes-bytes_of_bits : (count : ℕ) (bits : List Bool) → length bits ≡ count * 8 → bits_of_bytes (bytes_of_bits count bits) ≡ bits
bits_of_bytes-bytes_of_bits zero [] whole = refl
bits_of_bytes-bytes_of_bits zero (b ∷ bits) whole = absurd (omega arith)
bits_of_bytes-bytes_of_bits (suc count) bits whole =
    let front : length (take 8 bits) ≡ 8 = simp length-take (omega arith) in
    let rest : length (drop 8 bits) ≡ count * 8 = simp length-drop (omega arith) in
    ap (λ byte. byte ++ bits_of_bytes (bytes_of_bits count (drop 8 bits))) (ap (λ n. bits_of n (number_of (take 8 bits))) (sym front) ∙ bits_of-number_of (take 8 bits))
    ∙ ap (λ bytes. take 8 bits ++ bytes) (bits_of_bytes-bytes_of_bits count (drop 8 bits) rest)
    ∙ take-append-drop 8 bits

pub bytes_of_bits-bits_of_bytes : (bytes : List ℕ) → All (λ byte. byte < 2 ^ 8) bytes → bytes_of_bits (length bytes) (bits_of_bytes bytes) ≡ bytes
bytes_of_bits-bits_of_bytes [] fit = refl
bytes_of_bits-bits_of_bytes (byte ∷ bytes) fit =
    let fits : byte < 2 ^ 8 = fit 0 0 (omega arith) in
    consed (number_of-bits_of 8 byte ∙ omega arith) (bytes_of_bits-bits_of_bytes bytes (λ k d below. fit (suc k) d (omega arith)))
