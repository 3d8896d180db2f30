-- The first bytes and the others of bytes under a mask.
use Rattle.std.proofs.Common.{◌≡◌, ℕ, zero, suc, List, [], ◌∷◌, take, drop, bit_xor, refl, ap, ◌∙◌}
use Rattle.duk_tdes.specs.Key.{xor_bytes}
use Rattle.duk_tdes.specs.Tdes.{first_key, second_key}

take-xor_bytes : (count : ℕ) (bytes mask : List ℕ) → take count (xor_bytes bytes mask) ≡ xor_bytes (take count bytes) (take count mask)
take-xor_bytes zero bytes mask = refl
take-xor_bytes (suc count) [] mask = refl
take-xor_bytes (suc count) (byte ∷ bytes) [] = refl
take-xor_bytes (suc count) (byte ∷ bytes) (m ∷ mask) = ap (λ rest. bit_xor byte m ∷ rest) (take-xor_bytes count bytes mask)

no_mask : (bytes : List ℕ) → bytes ≡ xor_bytes bytes []
no_mask [] = refl
no_mask (byte ∷ bytes) = refl

drop-xor_bytes : (count : ℕ) (bytes mask : List ℕ) → drop count (xor_bytes bytes mask) ≡ xor_bytes (drop count bytes) (drop count mask)
drop-xor_bytes zero bytes mask = refl
drop-xor_bytes (suc count) [] mask = refl
drop-xor_bytes (suc count) (byte ∷ bytes) [] = no_mask (drop count bytes)
drop-xor_bytes (suc count) (byte ∷ bytes) (m ∷ mask) = drop-xor_bytes count bytes mask

pub masked_first : (key mask : List ℕ) → first_key (xor_bytes key mask) ≡ xor_bytes (first_key key) (first_key mask)
masked_first = take-xor_bytes 8

pub masked_second : (key mask : List ℕ) → second_key (xor_bytes key mask) ≡ xor_bytes (second_key key) (second_key mask)
masked_second key mask = ap (take 8) (drop-xor_bytes 8 key mask) ∙ take-xor_bytes 8 (drop 8 key) (drop 8 mask)
