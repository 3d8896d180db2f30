-- The exclusive or of fields, and the nibbles of bytes.
use Rattle.std.proofs.Common.{◌≡◌, ℕ, zero, suc, ◌+◌, ◌*◌, ◌/◌, ◌%◌, ◌<◌, List, [], ◌∷◌, ◌++◌, length, get_or, set, take, All, refl, sym, ap, ◌∙◌, arith, add-one}
use Rattle.std.specs.Prelude.{bit_xor}
use Rattle.std.proofs.lemmas.List.{append_assoc, take_more, length-set, take_more_set}
use Rattle.std.proofs.lemmas.List.Elements.{All-nil, All-cons, All-head, All-tail}
use Rattle.std.proofs.lemmas.Nat.{xor_lt}
use lib.Bits.{xor_assoc, xor_self, xor_zero_r}
use Rattle.duk_pin.specs.Nibbles.{nibbles, xor_nibbles}
use Rattle.duk_pin.specs.inner.Nibbles.{IsField}

-- ---- the exclusive or

-- one place more
pub xor_more : (left right : List ℕ) (i : ℕ) → i < length left → i < length right → xor_nibbles (take (i + 1) left) (take (i + 1) right) ≡ xor_nibbles (take i left) (take i right) ++ bit_xor (get_or left i 0) (get_or right i 0) ∷ []
xor_more [] right i in_left in_right = absurd (omega arith)
xor_more (a ∷ left) [] i in_left in_right = absurd (omega arith)
xor_more (a ∷ left) (b ∷ right) zero in_left in_right = refl
xor_more (a ∷ left) (b ∷ right) (suc i) in_left in_right =
    let more : xor_nibbles (take (i + 1) left) (take (i + 1) right) ≡ xor_nibbles (take i left) (take i right) ++ bit_xor (get_or left i 0) (get_or right i 0) ∷ [] = xor_more left right i (omega arith) (omega arith) in
    rw (add-one (suc i)) (rw add-one at (ap (λ rest. bit_xor a b ∷ rest) more))

pub length-xor_nibbles : (left right : List ℕ) → length left ≡ length right → length (xor_nibbles left right) ≡ length left
length-xor_nibbles [] right same = refl
length-xor_nibbles (a ∷ left) [] same = absurd (omega arith)
length-xor_nibbles (a ∷ left) (b ∷ right) same = ap suc (length-xor_nibbles left right (omega arith))

xor_fits : (left right : List ℕ) → All (λ nibble. nibble < 16) left → All (λ nibble. nibble < 16) right → All (λ nibble. nibble < 16) (xor_nibbles left right)
xor_fits [] right l r = All-nil (λ nibble. nibble < 16)
xor_fits (a ∷ left) [] l r = All-nil (λ nibble. nibble < 16)
xor_fits (a ∷ left) (b ∷ right) l r =
    All-cons (λ nibble. nibble < 16) (bit_xor a b) (xor_nibbles left right)
    (xor_lt 4 a b (All-head (λ nibble. nibble < 16) a left l) (All-head (λ nibble. nibble < 16) b right r))
    (xor_fits left right (All-tail (λ nibble. nibble < 16) a left l) (All-tail (λ nibble. nibble < 16) b right r))

pub xor_is_field : (left right : List ℕ) → IsField left → IsField right → IsField (xor_nibbles left right)
xor_is_field left right l r =
    record {
      sixteen = length-xor_nibbles left right (l.sixteen ∙ sym r.sixteen) ∙ l.sixteen;
      nibbles_fit = xor_fits left right l.nibbles_fit r.nibbles_fit;
    }

-- the exclusive or with the same field twice
pub xor_twice : (left right : List ℕ) → length left ≡ length right → xor_nibbles (xor_nibbles left right) right ≡ left
xor_twice [] right same = refl
xor_twice (a ∷ left) [] same = absurd (omega arith)
xor_twice (a ∷ left) (b ∷ right) same =
    ap (λ first. first ∷ xor_nibbles (xor_nibbles left right) right) (xor_assoc a b b ∙ ap (bit_xor a) (xor_self b) ∙ xor_zero_r a)
    ∙ ap (λ rest. a ∷ rest) (xor_twice left right (omega arith))

-- ---- the nibbles of bytes

nibbles-append : (first rest : List ℕ) → nibbles (first ++ rest) ≡ nibbles first ++ nibbles rest
nibbles-append [] rest = refl
nibbles-append (byte ∷ first) rest = ap (λ more. byte / 16 ∷ byte % 16 ∷ more) (nibbles-append first rest)

pub length-nibbles : (bytes : List ℕ) → length (nibbles bytes) ≡ 2 * length bytes
length-nibbles [] = refl
length-nibbles (byte ∷ bytes) = let rest = length-nibbles bytes in omega arith

two_more : (i : ℕ) → 2 * (i + 1) ≡ 2 * i + 1 + 1
two_more i = omega arith

-- the nibbles of one byte more
pub split_next : (written bytes : List ℕ) (i : ℕ) → i < length bytes → 2 * i + 1 < length written → take (2 * i) written ≡ nibbles (take i bytes) → take (2 * (i + 1)) (set (set written (2 * i) (get_or bytes i 0 / 16)) (2 * i + 1) (get_or bytes i 0 % 16)) ≡ nibbles (take (i + 1) bytes)
split_next written bytes i in_bytes in_written so_far =
    let left = get_or bytes i 0 / 16 in
    let right = get_or bytes i 0 % 16 in
    let with_left = set written (2 * i) left in
    ap (λ n. take n (set with_left (2 * i + 1) right)) (two_more i)
    ∙ take_more_set with_left (2 * i + 1) right (omega (arith, length-set written (2 * i) left))
    ∙ ap (λ front. front ++ right ∷ []) (take_more_set written (2 * i) left (omega arith))
    ∙ append_assoc (take (2 * i) written) (left ∷ []) (right ∷ [])
    ∙ ap (λ front. front ++ left ∷ right ∷ []) so_far
    ∙ sym (nibbles-append (take i bytes) (get_or bytes i 0 ∷ []))
    ∙ ap nibbles (sym (take_more bytes i 0 in_bytes))

-- the byte of two nibbles more
pub packed_next : (bytes field : List ℕ) (i byte : ℕ) → i < length bytes → 2 * i + 1 < length field → nibbles (take i bytes) ≡ take (2 * i) field → byte / 16 ≡ get_or field (2 * i) 0 → byte % 16 ≡ get_or field (2 * i + 1) 0 → nibbles (take (i + 1) (set bytes i byte)) ≡ take (2 * (i + 1)) field
packed_next bytes field i byte in_bytes in_field so_far left right =
    ap nibbles (take_more_set bytes i byte in_bytes)
    ∙ nibbles-append (take i bytes) (byte ∷ [])
    ∙ ap (λ front. front ++ byte / 16 ∷ byte % 16 ∷ []) so_far
    ∙ ap (λ h. take (2 * i) field ++ h ∷ byte % 16 ∷ []) left
    ∙ ap (λ l. take (2 * i) field ++ get_or field (2 * i) 0 ∷ l ∷ []) right
    ∙ sym (append_assoc (take (2 * i) field) (get_or field (2 * i) 0 ∷ []) (get_or field (2 * i + 1) 0 ∷ []))
    ∙ ap (λ front. front ++ get_or field (2 * i + 1) 0 ∷ []) (sym (take_more field (2 * i) 0 (omega arith)))
    ∙ sym (take_more field (2 * i + 1) 0 in_field)
    ∙ ap (λ n. take n field) (sym (two_more i))
