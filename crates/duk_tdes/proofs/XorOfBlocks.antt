-- Masks of blocks, and what adding one twice leaves.
use Rattle.std.proofs.Common.{◌≡◌, ℕ, List, [], ◌∷◌, length, refl, ap, ◌∙◌, arith}
use Rattle.std.specs.Int.Bits.{bit_xor, xor_self, xor_zero_r}
use Rattle.duk_des.specs.Block.{IsBlock}
use Rattle.duk_tdes.specs.Key.{IsKey, xor_bytes}
use Rattle.duk_tdes.proofs.SingleKeys.{IsKey-xor_bytes}
use lib.Bits.{xor_assoc}

pub IsBlock-xor_bytes : (block mask : List ℕ) → IsBlock block → IsBlock mask → IsBlock (xor_bytes block mask)
IsBlock-xor_bytes block mask is_block is_mask =
    let sum : IsKey 8 (xor_bytes block mask) = IsKey-xor_bytes 8 block mask
    (record { size_is = is_block.eight; bytes_fit = is_block.bytes_fit }) (record { size_is = is_mask.eight; bytes_fit = is_mask.bytes_fit }) in
    record { eight = sum.size_is; bytes_fit = sum.bytes_fit }

pub xor_bytes-xor_bytes : (bytes mask : List ℕ) → length bytes ≡ length mask → xor_bytes (xor_bytes bytes mask) mask ≡ bytes
xor_bytes-xor_bytes [] mask same = refl
xor_bytes-xor_bytes (byte ∷ bytes) [] same = absurd (omega arith)
xor_bytes-xor_bytes (byte ∷ bytes) (m ∷ mask) same =
    ap (λ first. first ∷ xor_bytes (xor_bytes bytes mask) mask) (xor_assoc byte m m ∙ ap (bit_xor byte) (xor_self m) ∙ xor_zero_r byte)
    ∙ ap (λ rest. byte ∷ rest) (xor_bytes-xor_bytes bytes mask (omega arith))
