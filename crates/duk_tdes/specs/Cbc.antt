-- Cipher block chaining with TDES (NIST SP 800-38A section 6.2).
use Rattle.std.specs.Prelude.{◌≡◌, ◌<◌, ◌%◌, ◌^◌, ℕ, List, [], ◌∷◌, ◌++◌, length}
use Rattle.std.specs.List.{All}
use Rattle.duk_tdes.specs.Blocks.{blocks_of}
use Rattle.duk_tdes.specs.Key.{xor_bytes}
use Rattle.duk_tdes.specs.Tdes.{tdes_encrypted, tdes_decrypted}

-- each plain block is xored with the cipher block before it and enciphered; before the first stands
-- the initial vector
abbrev pub chained_ciphers : List ℕ → List ℕ → List (List ℕ) → List ℕ
chained_ciphers key before [] = []
chained_ciphers key before (block ∷ blocks) =
    let cipher = tdes_encrypted key (xor_bytes block before) in
    cipher ++ chained_ciphers key cipher blocks

-- each cipher block is deciphered and xored with the cipher block before it
abbrev pub chained_plains : List ℕ → List ℕ → List (List ℕ) → List ℕ
chained_plains key before [] = []
chained_plains key before (block ∷ blocks) =
    xor_bytes (tdes_decrypted key block) before ++ chained_plains key block blocks

-- CBC encryption of whole blocks from an initial vector
unfoldable pub cbc_encrypted : List ℕ → List ℕ → List ℕ → List ℕ
cbc_encrypted key initial_vector bytes = chained_ciphers key initial_vector (blocks_of bytes)

-- CBC decryption of whole blocks from an initial vector
unfoldable pub cbc_decrypted : List ℕ → List ℕ → List ℕ → List ℕ
cbc_decrypted key initial_vector bytes = chained_plains key initial_vector (blocks_of bytes)

-- whole blocks of bytes, perhaps none
pub record AreWholeBlocks (bytes : List ℕ) : Type 0 where
  pub whole : length bytes % 8 ≡ 0
  pub bytes_fit : All (λ byte. byte < 2 ^ 8) bytes
