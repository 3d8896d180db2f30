-- A byte is divided at once: the division is linear, and what is above the lowest byte only moves down.
use Rattle.std.proofs.Common.{◌≡◌, ℕ, zero, suc, ◌+◌, ◌*◌, ◌/◌, ◌%◌, ◌<◌, ◌^◌, List, [], ◌∷◌, get_or, bit_xor, refl, sym, ◌∙◌, ap, arith}
use Rattle.std.proofs.Math.Nat.{two-pow-succ}
use Rattle.std.proofs.lemmas.Nat.{xor_comm, xor_mod, xor_shr}
use Rattle.std.specs.Int.Bits.{xor_assoc, xor_shifted, xor_zero_r}
use Rattle.duk_crc.specs.Crc32.{carried, shifted, times_x, with_byte}

pub exchanged : (a b c d : ℕ) → bit_xor (bit_xor a b) (bit_xor c d) ≡ bit_xor (bit_xor a c) (bit_xor b d)
exchanged a b c d =
    xor_assoc a b (bit_xor c d)
    ∙ ap (bit_xor a) (sym (xor_assoc b c d) ∙ ap (λ (n : ℕ). bit_xor n d) (xor_comm b c) ∙ xor_assoc c b d)
    ∙ sym (xor_assoc a c (bit_xor b d))

carried_sum : (c d : ℕ) → c < 2 → d < 2 → carried (bit_xor c d) ≡ bit_xor (carried c) (carried d)
carried_sum zero zero c_fits d_fits = refl
carried_sum zero (suc zero) c_fits d_fits = refl
carried_sum (suc zero) zero c_fits d_fits = refl
carried_sum (suc zero) (suc zero) c_fits d_fits = refl
carried_sum (suc (suc c)) d c_fits d_fits = absurd (omega (arith, c_fits))
carried_sum zero (suc (suc d)) c_fits d_fits = absurd (omega (arith, d_fits))
carried_sum (suc zero) (suc (suc d)) c_fits d_fits = absurd (omega (arith, d_fits))

-- the product of a sum is the sum of the products
times_sum : (a b : ℕ) → times_x (bit_xor a b) ≡ bit_xor (times_x a) (times_x b)
times_sum a b =
    ap (λ (n : ℕ). bit_xor n (carried (bit_xor a b % 2))) (xor_shr a b 1)
    ∙ ap (λ (n : ℕ). bit_xor (bit_xor (a / 2) (b / 2)) (carried n)) (xor_mod a b 1)
    ∙ ap (bit_xor (bit_xor (a / 2) (b / 2))) (carried_sum (a % 2) (b % 2) (omega arith) (omega arith))
    ∙ exchanged (a / 2) (b / 2) (carried (a % 2)) (carried (b % 2))

pub shifted_sum : (power a b : ℕ) → shifted power (bit_xor a b) ≡ bit_xor (shifted power a) (shifted power b)
shifted_sum zero a b = refl
shifted_sum (suc power) a b = ap times_x (shifted_sum power a b) ∙ times_sum (shifted power a) (shifted power b)

-- what has no low bit only moves down
times_even : (high : ℕ) → times_x (high * 2) ≡ high
times_even high =
    let half : high * 2 / 2 ≡ high = omega arith in
    let even : high * 2 % 2 ≡ 0 = omega arith in
    ap (λ (n : ℕ). bit_xor n (carried (high * 2 % 2))) half ∙ ap (λ (n : ℕ). bit_xor high (carried n)) even ∙ xor_zero_r high

moved_down : (power high : ℕ) → shifted power (high * 2 ^ power) ≡ high
moved_down zero high = omega arith
moved_down (suc power) high =
    let twice : high * 2 ^ suc power ≡ high * 2 * 2 ^ power = ap (λ (n : ℕ). high * n) (two-pow-succ power) ∙ omega arith in
    ap times_x (ap (shifted power) twice ∙ moved_down power (high * 2)) ∙ times_even high

pub by_table : (remainder byte : ℕ) → bit_xor (bit_xor remainder byte / 256) (shifted 8 (bit_xor remainder byte % 256)) ≡ with_byte remainder byte
by_table remainder byte =
    let sum : ℕ = bit_xor remainder byte in
    let low : sum % 256 < 2 ^ 8 = omega arith in
    let parts : sum ≡ bit_xor (sum / 256 * 2 ^ 8) (sum % 256) = omega arith ∙ sym (xor_shifted (sum / 256) 8 (sum % 256) low) in
    sym (ap (shifted 8) parts ∙ shifted_sum 8 (sum / 256 * 2 ^ 8) (sum % 256) ∙ ap (λ (n : ℕ). bit_xor n (shifted 8 (sum % 256))) (moved_down 8 (sum / 256)))

-- what some bytes leave, from one on
abbrev pub left_from : ℕ → ℕ → ℕ → List ℕ
left_from power zero byte = []
left_from power (suc count) byte = shifted power byte ∷ left_from power count (suc byte)

pub left_at : (power count first place : ℕ) → place < count → get_or (left_from power count first) place 0 ≡ shifted power (first + place)
left_at power zero first place less = absurd (omega (arith, less))
left_at power (suc count) first zero less =
    let same : first ≡ first + 0 = omega arith in
    ap (shifted power) same
left_at power (suc count) first (suc place) less =
    let same : suc first + place ≡ first + suc place = omega arith in
    left_at power count (suc first) place (omega (arith, less)) ∙ ap (shifted power) same

-- the tables of some powers, from one on
abbrev pub tables_from : ℕ → ℕ → List (List ℕ)
tables_from zero following = []
tables_from (suc count) following = left_from (8 * (following + 1)) 256 0 ∷ tables_from count (suc following)

pub table_at : (count first place : ℕ) → place < count → get_or (tables_from count first) place [] ≡ left_from (8 * (first + place + 1)) 256 0
table_at zero first place less = absurd (omega (arith, less))
table_at (suc count) first zero less =
    let same : 8 * (first + 1) ≡ 8 * (first + 0 + 1) = omega arith in
    ap (λ (power : ℕ). left_from power 256 0) same
table_at (suc count) first (suc place) less =
    let same : 8 * (suc first + place + 1) ≡ 8 * (first + suc place + 1) = omega arith in
    table_at count (suc first) place (omega (arith, less)) ∙ ap (λ (power : ℕ). left_from power 256 0) same
