-- The length of a sealed text.
use Rattle.std.proofs.Common.{◌≡◌, ℕ, ◌+◌, ◌*◌, List, ◌++◌, length, ap, length-append, arith}
use Rattle.hex.specs.Hex.{encode_upper, upper_digits}
use Rattle.hex.proofs.HexLemmas.{length-encode_with}
use Rattle.duk_block.specs.inner.KeyBlock.{IsSealed}

pub length-sealed : (protection_key front payload text : List ℕ) → IsSealed protection_key front payload text → length text ≡ length front + 16 + 2 * length payload
length-sealed protection_key front payload text sealed = omega (
  arith,
  ap length sealed.laid_out,
  length-append (front ++ encode_upper sealed.ciphertext) (encode_upper sealed.mac),
  length-append front (encode_upper sealed.ciphertext),
  length-encode_with upper_digits sealed.ciphertext,
  length-encode_with upper_digits sealed.mac,
  sealed.mac_width,
  sealed.ciphertext_width,
)
