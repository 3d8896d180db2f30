-- The parts of a key are keys of single DES, and masked or joined keys are keys.
use Rattle.std.proofs.Common.{◌≡◌, ℕ, suc, ◌<◌, ◌≤◌, ◌+◌, ◌^◌, List, [], ◌∷◌, ◌++◌, length, take, drop, bit_xor, refl, ap, ◌∙◌, arith, inl, inr}
use Rattle.std.proofs.lemmas.Nat.{xor_of_8}
use Rattle.std.specs.List.{All}
use Rattle.std.proofs.lemmas.List.{length-take-le, length-drop, length-append}
use Rattle.std.proofs.lemmas.List.Elements.{All-take, All-drop, All-cons, All-head, All-tail, All-append}
use Rattle.duk_des.specs.Block.{IsBlock}
use Rattle.duk_tdes.specs.Key.{IsKey, xor_bytes}
use Rattle.duk_tdes.specs.Tdes.{IsTdesKey, first_key, second_key, third_key}

eight_of : (start : ℕ) (key : List ℕ) → start + 8 ≤ length key → All (λ byte. byte < 2 ^ 8) key → IsBlock (take 8 (drop start key))
eight_of start key within fit = record {
  eight = length-take-le 8 (drop start key) (omega (arith, length-drop start key));
  bytes_fit = All-take (λ byte. byte < 2 ^ 8) 8 (drop start key) (All-drop (λ byte. byte < 2 ^ 8) start key fit);
}

at_least_16 : (key : List ℕ) → IsTdesKey key → 16 ≤ length key
at_least_16 key is_key = elim is_key.length_is [ inl short ↦ omega arith | inr long ↦ omega arith ]

pub first_is_key : (key : List ℕ) → IsTdesKey key → IsBlock (first_key key)
first_is_key key is_key =
    let long : 16 ≤ length key = at_least_16 key is_key in eight_of 0 key (omega arith) is_key.bytes_fit

pub second_is_key : (key : List ℕ) → IsTdesKey key → IsBlock (second_key key)
second_is_key key is_key =
    let long : 16 ≤ length key = at_least_16 key is_key in eight_of 8 key (omega arith) is_key.bytes_fit

pub third_is_key : (key : List ℕ) → IsTdesKey key → IsBlock (third_key key)
third_is_key key is_key =
    elim is_key.length_is [
      | inl short ↦ rw short (first_is_key key is_key)
      | inr long ↦ rw long (eight_of 16 key (omega arith) is_key.bytes_fit)
    ]

pub length-xor_bytes : (bytes mask : List ℕ) → length (xor_bytes bytes mask) ≡ length bytes
length-xor_bytes [] mask = refl
length-xor_bytes (byte ∷ bytes) [] = refl
length-xor_bytes (byte ∷ bytes) (m ∷ mask) = ap suc (length-xor_bytes bytes mask)

xor_bytes-fit : (bytes mask : List ℕ) → All (λ byte. byte < 2 ^ 8) bytes → All (λ byte. byte < 2 ^ 8) mask → All (λ byte. byte < 2 ^ 8) (xor_bytes bytes mask)
xor_bytes-fit [] mask fit mask_fit = fit
xor_bytes-fit (byte ∷ bytes) [] fit mask_fit = fit
xor_bytes-fit (byte ∷ bytes) (m ∷ mask) fit mask_fit =
    let IsByte : ℕ → Type 0 = λ byte. byte < 2 ^ 8 in
    All-cons IsByte (bit_xor byte m) (xor_bytes bytes mask) (xor_of_8 byte m (All-head IsByte byte bytes fit) (All-head IsByte m mask mask_fit))
    (xor_bytes-fit bytes mask (All-tail IsByte byte bytes fit) (All-tail IsByte m mask mask_fit))

pub IsKey-xor_bytes : (size : ℕ) (key mask : List ℕ) → IsKey size key → IsKey size mask → IsKey size (xor_bytes key mask)
IsKey-xor_bytes size key mask is_key is_mask = record {
  size_is = length-xor_bytes key mask ∙ is_key.size_is;
  bytes_fit = xor_bytes-fit key mask is_key.bytes_fit is_mask.bytes_fit;
}

pub IsTdesKey-double : (key : List ℕ) → IsKey 16 key → IsTdesKey key
IsTdesKey-double key is_key = record { length_is = inl is_key.size_is; bytes_fit = is_key.bytes_fit }

pub IsKey-append : (left right : List ℕ) → IsBlock left → IsBlock right → IsKey 16 (left ++ right)
IsKey-append left right is_left is_right = record {
  size_is = omega (arith, length-append left right, is_left.eight, is_right.eight);
  bytes_fit = All-append (λ byte. byte < 2 ^ 8) left right is_left.bytes_fit is_right.bytes_fit;
}

-- the third single key of a key of 16 bytes is the first again
pub third_is_first : (key : List ℕ) → length key ≡ 16 → third_key key ≡ first_key key
third_is_first key short = rw short refl
