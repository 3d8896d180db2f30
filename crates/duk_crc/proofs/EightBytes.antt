-- Eight bytes are divided at once: the division of a sum leaves the sum of what is left of its parts.
use Rattle.std.proofs.Common.{◌≡◌, ℕ, zero, suc, ◌+◌, ◌*◌, ◌/◌, ◌%◌, ◌<◌, ◌^◌, List, [], ◌∷◌, length, get_or, bit_xor, fold, refl, sym, ◌∙◌, ap, arith}
use Rattle.std.proofs.lemmas.Nat.{xor_comm, xor_mod, xor_shr}
use Rattle.std.specs.Int.Bits.{xor_assoc, xor_zero_r}
use Rattle.duk_crc.specs.Crc32.{shifted, times_x, with_byte}
use Rattle.duk_crc.proofs.ByteTable.{by_table, shifted_sum}

shifted_more : (p q number : ℕ) → shifted p (shifted q number) ≡ shifted (p + q) number
shifted_more zero q number = let same : q ≡ 0 + q = omega arith in ap (λ (n : ℕ). shifted n number) same
shifted_more (suc p) q number =
    let same : suc (p + q) ≡ suc p + q = omega arith in
    ap times_x (shifted_more p q number) ∙ ap (λ (n : ℕ). shifted n number) same

fold_sum : (bytes : List ℕ) (a b : ℕ) → fold with_byte (bit_xor a b) bytes ≡ bit_xor (fold with_byte a bytes) (shifted (8 * length bytes) b)
fold_sum [] a b = refl
fold_sum (byte ∷ bytes) a b =
    let turned : bit_xor (bit_xor a b) byte ≡ bit_xor (bit_xor a byte) b =
    xor_assoc a b byte ∙ ap (bit_xor a) (xor_comm b byte) ∙ sym (xor_assoc a byte b) in
    let first : with_byte (bit_xor a b) byte ≡ bit_xor (with_byte a byte) (shifted 8 b) =
    ap (shifted 8) turned ∙ shifted_sum 8 (bit_xor a byte) b in
    let power : 8 * length bytes + 8 ≡ 8 * length (byte ∷ bytes) = omega arith in
    ap (λ (n : ℕ). fold with_byte n bytes) first
    ∙ fold_sum bytes (with_byte a byte) (shifted 8 b)
    ∙ ap (bit_xor (fold with_byte (with_byte a byte) bytes)) (shifted_more (8 * length bytes) 8 b ∙ ap (λ (n : ℕ). shifted n b) power)

-- a byte is added to the lowest byte of the remainder, and the higher ones to the bytes behind it
first_byte : (remainder byte : ℕ) (bytes : List ℕ) → byte < 256
    → fold with_byte remainder (byte ∷ bytes) ≡ bit_xor (shifted (8 * (length bytes + 1)) (bit_xor (remainder % 256) byte)) (fold with_byte (remainder / 256) bytes)
first_byte remainder byte bytes fits =
    let sum : ℕ = bit_xor remainder byte in
    let high : sum / 256 ≡ remainder / 256 =
    xor_shr remainder byte 8 ∙ (let none : byte / 256 ≡ 0 = omega (arith, fits) in ap (bit_xor (remainder / 256)) none) ∙ xor_zero_r (remainder / 256) in
    let low : sum % 256 ≡ bit_xor (remainder % 256) byte =
    xor_mod remainder byte 8 ∙ (let all : byte % 256 ≡ byte = omega (arith, fits) in ap (bit_xor (remainder % 256)) all) in
    let power : 8 * length bytes + 8 ≡ 8 * (length bytes + 1) = omega arith in
    ap (λ (n : ℕ). fold with_byte n bytes) (sym (by_table remainder byte))
    ∙ fold_sum bytes (sum / 256) (shifted 8 (sum % 256))
    ∙ xor_comm (fold with_byte (sum / 256) bytes) (shifted (8 * length bytes) (shifted 8 (sum % 256)))
    ∙ ap (λ (n : ℕ). bit_xor (shifted (8 * length bytes) (shifted 8 (sum % 256))) (fold with_byte n bytes)) high
    ∙ ap (λ (n : ℕ). bit_xor n (fold with_byte (remainder / 256) bytes))
    (shifted_more (8 * length bytes) 8 (sum % 256) ∙ ap (λ (n : ℕ). shifted n (sum % 256)) power ∙ ap (shifted (8 * (length bytes + 1))) low)

-- what comes behind the remainder's own bytes
later_byte : (byte : ℕ) (bytes : List ℕ) → byte < 256 → fold with_byte 0 (byte ∷ bytes) ≡ bit_xor (shifted (8 * (length bytes + 1)) byte) (fold with_byte 0 bytes)
later_byte byte bytes fits = first_byte 0 byte bytes fits

pub four_later : (e f g h : ℕ) → e < 256 → f < 256 → g < 256 → h < 256
    → fold with_byte 0 (e ∷ f ∷ g ∷ h ∷ []) ≡ bit_xor (shifted 32 e) (bit_xor (shifted 24 f) (bit_xor (shifted 16 g) (shifted 8 h)))
four_later e f g h e_fits f_fits g_fits h_fits =
    later_byte e (f ∷ g ∷ h ∷ []) e_fits
    ∙ ap (bit_xor (shifted 32 e))
    (later_byte f (g ∷ h ∷ []) f_fits ∙ ap (bit_xor (shifted 24 f))
    (later_byte g (h ∷ []) g_fits ∙ ap (bit_xor (shifted 16 g)) (later_byte h [] h_fits ∙ xor_zero_r (shifted 8 h))))

pub eight_bytes : (remainder a b c d e f g h : ℕ) → remainder < 2 ^ 32 → a < 256 → b < 256 → c < 256 → d < 256 → e < 256 → f < 256 → g < 256 → h < 256
    → fold with_byte remainder (a ∷ b ∷ c ∷ d ∷ e ∷ f ∷ g ∷ h ∷ [])
    ≡ bit_xor (shifted 64 (bit_xor (remainder % 256) a))
    (bit_xor (shifted 56 (bit_xor (remainder / 2 ^ 8 % 256) b))
    (bit_xor (shifted 48 (bit_xor (remainder / 2 ^ 16 % 256) c))
    (bit_xor (shifted 40 (bit_xor (remainder / 2 ^ 24) d))
    (bit_xor (shifted 32 e) (bit_xor (shifted 24 f) (bit_xor (shifted 16 g) (shifted 8 h)))))))
eight_bytes remainder a b c d e f g h fits a_fits b_fits c_fits d_fits e_fits f_fits g_fits h_fits =
    let second : ℕ = remainder / 256 in
    let third : ℕ = second / 256 in
    let fourth : ℕ = third / 256 in
    let third_is : third % 256 ≡ remainder / 2 ^ 16 % 256 = omega arith in
    let fourth_is : fourth % 256 ≡ remainder / 2 ^ 24 = omega (arith, fits) in
    let none : fourth / 256 ≡ 0 = omega (arith, fits) in
    first_byte remainder a (b ∷ c ∷ d ∷ e ∷ f ∷ g ∷ h ∷ []) a_fits
    ∙ ap (bit_xor (shifted 64 (bit_xor (remainder % 256) a)))
    (first_byte second b (c ∷ d ∷ e ∷ f ∷ g ∷ h ∷ []) b_fits
    ∙ ap (bit_xor (shifted 56 (bit_xor (second % 256) b)))
    (first_byte third c (d ∷ e ∷ f ∷ g ∷ h ∷ []) c_fits
    ∙ ap (λ (n : ℕ). bit_xor (shifted 48 (bit_xor n c)) (fold with_byte fourth (d ∷ e ∷ f ∷ g ∷ h ∷ []))) third_is
    ∙ ap (bit_xor (shifted 48 (bit_xor (remainder / 2 ^ 16 % 256) c)))
    (first_byte fourth d (e ∷ f ∷ g ∷ h ∷ []) d_fits
    ∙ ap (λ (n : ℕ). bit_xor (shifted 40 (bit_xor n d)) (fold with_byte (fourth / 256) (e ∷ f ∷ g ∷ h ∷ []))) fourth_is
    ∙ ap (λ (n : ℕ). bit_xor (shifted 40 (bit_xor (remainder / 2 ^ 24) d)) (fold with_byte n (e ∷ f ∷ g ∷ h ∷ []))) none
    ∙ ap (bit_xor (shifted 40 (bit_xor (remainder / 2 ^ 24) d))) (four_later e f g h e_fits f_fits g_fits h_fits))))

pub all_eight : (bytes : List ℕ) → length bytes ≡ 8
    → bytes ≡ get_or bytes 0 0 ∷ get_or bytes 1 0 ∷ get_or bytes 2 0 ∷ get_or bytes 3 0 ∷ get_or bytes 4 0 ∷ get_or bytes 5 0 ∷ get_or bytes 6 0 ∷ get_or bytes 7 0 ∷ []
all_eight [] is = absurd (omega (arith, is))
all_eight (a ∷ []) is = absurd (omega (arith, is))
all_eight (a ∷ b ∷ []) is = absurd (omega (arith, is))
all_eight (a ∷ b ∷ c ∷ []) is = absurd (omega (arith, is))
all_eight (a ∷ b ∷ c ∷ d ∷ []) is = absurd (omega (arith, is))
all_eight (a ∷ b ∷ c ∷ d ∷ e ∷ []) is = absurd (omega (arith, is))
all_eight (a ∷ b ∷ c ∷ d ∷ e ∷ f ∷ []) is = absurd (omega (arith, is))
all_eight (a ∷ b ∷ c ∷ d ∷ e ∷ f ∷ g ∷ []) is = absurd (omega (arith, is))
all_eight (a ∷ b ∷ c ∷ d ∷ e ∷ f ∷ g ∷ h ∷ []) is = refl
all_eight (a ∷ b ∷ c ∷ d ∷ e ∷ f ∷ g ∷ h ∷ i ∷ bytes) is = absurd (omega (arith, is))
