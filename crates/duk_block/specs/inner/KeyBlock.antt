-- What only private functions and proofs say beside `KeyBlock.antt`: this project's own.
use Rattle.std.specs.Prelude.{◌≡◌, ◌<◌, ◌^◌, ℕ, List, ◌++◌, length}
use Rattle.std.specs.List.{All}
use Rattle.hex.specs.Hex.{encode_upper}
use Rattle.duk_tdes.specs.Cbc.{AreWholeBlocks}
use Rattle.duk_block.specs.KeyBlock.{mac_of, ciphertext_of}

-- the text has these characters in front, and after them, in upper case, the ciphertext and the
-- MAC of this payload: what a private function of `wrap` writes
pub record IsSealed (protection_key front payload text : List ℕ) : Type 0 where
  pub mac : List ℕ
  pub ciphertext : List ℕ
  pub laid_out : text ≡ front ++ encode_upper ciphertext ++ encode_upper mac
  pub mac_width : length mac ≡ 8
  pub mac_bytes : All (λ byte. byte < 2 ^ 8) mac
  pub ciphertext_width : length ciphertext ≡ length payload
  pub ciphertext_bytes : All (λ byte. byte < 2 ^ 8) ciphertext
  pub payload_is : AreWholeBlocks payload
  pub authentic : mac ≡ mac_of protection_key front payload
  pub enciphered : ciphertext ≡ ciphertext_of protection_key mac payload
