-- Text in hexadecimal, byte by byte.
use Rattle.std.proofs.Common.{◌≡◌, ℕ, ◌+◌, ◌*◌, ◌/◌, ◌%◌, ◌<◌, ◌≤◌, List, [], ◌∷◌, ◌++◌, length, take, get_or, slice_index, refl, ap, ◌∙◌}
use Rattle.std.proofs.lemmas.List.{take_more, length-take-le}
use Rattle.hex.specs.Hex.{encode_with, encode_upper, upper_digits}
use Rattle.hex.proofs.HexLemmas.{length-encode_with}

pub encode_with-append : (t xs ys : List ℕ) → encode_with t (xs ++ ys) ≡ encode_with t xs ++ encode_with t ys
unfolding encode_with
encode_with-append t [] ys = refl
encode_with-append t (x ∷ xs) ys = ap (λ rest. slice_index t (x / 16) ∷ slice_index t (x % 16) ∷ rest) (encode_with-append t xs ys)

-- the text of nothing
pub encode_upper-none : encode_upper [] ≡ []
unfolding encode_with
encode_upper-none = refl

-- the text of one byte more
pub encode_upper-more : (bytes : List ℕ) (i : ℕ) → i < length bytes
    → encode_upper (take (i + 1) bytes) ≡ encode_upper (take i bytes) ++ (slice_index upper_digits (get_or bytes i 0 / 16) ∷ slice_index upper_digits (get_or bytes i 0 % 16) ∷ [])
unfolding encode_with
encode_upper-more bytes i below =
    ap encode_upper (take_more bytes i 0 below) ∙ encode_with-append upper_digits (take i bytes) (get_or bytes i 0 ∷ [])

pub length-encode_upper-take : (bytes : List ℕ) (i : ℕ) → i ≤ length bytes → length (encode_upper (take i bytes)) ≡ 2 * i
length-encode_upper-take bytes i within = length-encode_with upper_digits (take i bytes) ∙ ap (λ n. 2 * n) (length-take-le i bytes within)
