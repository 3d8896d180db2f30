-- A register in which the bits of a row are set.
use Rattle.std.proofs.Common.{◌≡◌, ℕ, ◌+◌, ◌*◌, ◌/◌, ◌%◌, ◌^◌, ◌<◌, List, [], ◌∷◌, bit_xor, refl, ap, ap₂, ◌∙◌, arith}
use Rattle.std.specs.Int.Bits.{xor_zero_l, xor_zero_r}
use Rattle.std.proofs.lemmas.Nat.{xor_block}
use Rattle.duk_tdes.specs.Key.{xor_bytes}
use Rattle.duk_tree.specs.Serial.{IsIksn, low_bytes, serial_bytes}

-- a row's bits stand below those of a multiple of 64
last_byte : (n child : ℕ) → n % 64 ≡ 0 → child < 64 → bit_xor (n % 256) child ≡ (n + child) % 256
last_byte n child whole below =
    let q = n % 256 / 64 in
    let high : n % 256 ≡ q * 2 ^ 6 + 0 = omega arith in
    let low : child ≡ 0 * 2 ^ 6 + child = omega arith in
    ap₂ bit_xor high low
    ∙ xor_block 6 q 0 0 child (omega arith) below
    ∙ ap₂ (λ (a b : ℕ). a * 2 ^ 6 + b) (xor_zero_r q) (xor_zero_l child)
    ∙ omega arith

-- no other byte changes
byte_1 : (n child : ℕ) → n % 64 ≡ 0 → child < 64 → n / 256 ^ 1 % 256 ≡ (n + child) / 256 ^ 1 % 256
byte_1 n child whole below = omega arith

byte_2 : (n child : ℕ) → n % 64 ≡ 0 → child < 64 → n / 256 ^ 2 % 256 ≡ (n + child) / 256 ^ 2 % 256
byte_2 n child whole below = omega arith

byte_3 : (n child : ℕ) → n % 64 ≡ 0 → child < 64 → n / 256 ^ 3 % 256 ≡ (n + child) / 256 ^ 3 % 256
byte_3 n child whole below = omega arith

byte_4 : (n child : ℕ) → n % 64 ≡ 0 → child < 64 → n / 256 ^ 4 % 256 ≡ (n + child) / 256 ^ 4 % 256
byte_4 n child whole below = omega arith

byte_5 : (n child : ℕ) → n % 64 ≡ 0 → child < 64 → n / 256 ^ 5 % 256 ≡ (n + child) / 256 ^ 5 % 256
byte_5 n child whole below = omega arith

byte_6 : (n child : ℕ) → n % 64 ≡ 0 → child < 64 → n / 256 ^ 6 % 256 ≡ (n + child) / 256 ^ 6 % 256
byte_6 n child whole below = omega arith

byte_7 : (n child : ℕ) → n % 64 ≡ 0 → child < 64 → n / 256 ^ 7 % 256 ≡ (n + child) / 256 ^ 7 % 256
byte_7 n child whole below = omega arith

cons : {a b : ℕ} {rest rest' : List ℕ} → a ≡ b → rest ≡ rest' → a ∷ rest ≡ b ∷ rest'
cons same others = ap₂ (λ (byte : ℕ) (bytes : List ℕ). byte ∷ bytes) same others

pub register_of_row : (iksn counter child : ℕ) → IsIksn iksn → counter % 64 ≡ 0 → child < 64
    → xor_bytes (low_bytes (record { iksn = iksn; counter = counter })) (0 ∷ 0 ∷ 0 ∷ 0 ∷ 0 ∷ 0 ∷ 0 ∷ child ∷ []) ≡ low_bytes (record { iksn = iksn; counter = counter + child })
unfolding serial_bytes
register_of_row iksn counter child is_iksn whole below =
    let n = iksn + counter in
    let wide : n % 64 ≡ 0 = omega (arith, is_iksn.counter_is_zero) in
    let sum : n + child ≡ iksn + (counter + child) = omega arith in
    let bytes : xor_bytes (low_bytes (record { iksn = iksn; counter = counter })) (0 ∷ 0 ∷ 0 ∷ 0 ∷ 0 ∷ 0 ∷ 0 ∷ child ∷ [])
    ≡ ((n + child) / 256 ^ 7 % 256) ∷ ((n + child) / 256 ^ 6 % 256) ∷ ((n + child) / 256 ^ 5 % 256) ∷ ((n + child) / 256 ^ 4 % 256) ∷ ((n + child) / 256 ^ 3 % 256) ∷ ((n + child) / 256 ^ 2 % 256) ∷ ((n + child) / 256 ^ 1 % 256) ∷ ((n + child) % 256) ∷ [] =
    cons (xor_zero_r (n / 256 ^ 7 % 256) ∙ byte_7 n child wide below)
    (cons (xor_zero_r (n / 256 ^ 6 % 256) ∙ byte_6 n child wide below)
    (cons (xor_zero_r (n / 256 ^ 5 % 256) ∙ byte_5 n child wide below)
    (cons (xor_zero_r (n / 256 ^ 4 % 256) ∙ byte_4 n child wide below)
    (cons (xor_zero_r (n / 256 ^ 3 % 256) ∙ byte_3 n child wide below)
    (cons (xor_zero_r (n / 256 ^ 2 % 256) ∙ byte_2 n child wide below)
    (cons (xor_zero_r (n / 256 ^ 1 % 256) ∙ byte_1 n child wide below)
    (cons (last_byte n child wide below) refl))))))) in
    bytes ∙ ap (λ m. (m / 256 ^ 7 % 256) ∷ (m / 256 ^ 6 % 256) ∷ (m / 256 ^ 5 % 256) ∷ (m / 256 ^ 4 % 256) ∷ (m / 256 ^ 3 % 256) ∷ (m / 256 ^ 2 % 256) ∷ (m / 256 ^ 1 % 256) ∷ (m % 256) ∷ []) sum
