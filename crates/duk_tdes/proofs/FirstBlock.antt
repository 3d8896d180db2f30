-- The first block of whole blocks, and those of what follows it.
use Rattle.std.proofs.Common.{◌≡◌, ℕ, suc, ◌+◌, ◌/◌, ◌<◌, List, [], ◌∷◌, ◌++◌, length, take, drop, refl, ap, length-drop, arith}
use Rattle.duk_tdes.specs.Blocks.{leading_blocks, blocks_of}
use Rattle.duk_tdes.specs.Cbc.{cbc_encrypted, cbc_decrypted, chained_ciphers, chained_plains}
use Rattle.duk_tdes.specs.Key.{xor_bytes}
use Rattle.duk_tdes.specs.Tdes.{tdes_encrypted, tdes_decrypted}

pub blocks_of-more : (bytes : List ℕ) → 0 < length bytes → blocks_of bytes ≡ take 8 bytes ∷ blocks_of (drop 8 bytes)
unfolding blocks_of
blocks_of-more bytes some =
    let count : (length bytes + 7) / 8 ≡ suc ((length (drop 8 bytes) + 7) / 8) = omega (arith, length-drop 8 bytes) in
    ap (λ n. leading_blocks n bytes) count

pub cbc_encrypted-more : (key before bytes : List ℕ) → 0 < length bytes → cbc_encrypted key before bytes ≡ tdes_encrypted key (xor_bytes (take 8 bytes) before) ++ cbc_encrypted key (tdes_encrypted key (xor_bytes (take 8 bytes) before)) (drop 8 bytes)
unfolding cbc_encrypted
cbc_encrypted-more key before bytes some = ap (chained_ciphers key before) (blocks_of-more bytes some)

pub cbc_decrypted-more : (key before bytes : List ℕ) → 0 < length bytes → cbc_decrypted key before bytes ≡ xor_bytes (tdes_decrypted key (take 8 bytes)) before ++ cbc_decrypted key (take 8 bytes) (drop 8 bytes)
unfolding cbc_decrypted
cbc_decrypted-more key before bytes some = ap (chained_plains key before) (blocks_of-more bytes some)

pub cbc_encrypted-none : (key before : List ℕ) (bytes : List ℕ) → length bytes ≡ 0 → cbc_encrypted key before bytes ≡ []
unfolding cbc_encrypted blocks_of
cbc_encrypted-none key before [] none = refl
cbc_encrypted-none key before (byte ∷ bytes) none = absurd (omega arith)

pub cbc_decrypted-none : (key before : List ℕ) (bytes : List ℕ) → length bytes ≡ 0 → cbc_decrypted key before bytes ≡ []
unfolding cbc_decrypted blocks_of
cbc_decrypted-none key before [] none = refl
cbc_decrypted-none key before (byte ∷ bytes) none = absurd (omega arith)
