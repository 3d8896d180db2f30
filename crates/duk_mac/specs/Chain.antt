-- The chain of blocks that both MACs run (NIST SP 800-38B section 6.2; ISO/IEC 9797-1).
use Rattle.std.specs.Prelude.{ℕ, List, [], ◌∷◌, replicate}
use Rattle.duk_tdes.specs.Key.{xor_bytes}

-- eight zero bytes, from which a chain begins
abbrev pub zero_block : List ℕ
zero_block = replicate 8 0

-- the last block of the chain: each block is xored with the one before and enciphered
abbrev pub chained : (List ℕ → List ℕ) → List ℕ → List (List ℕ) → List ℕ
chained enciphered chain [] = chain
chained enciphered chain (block ∷ blocks) =
    chained enciphered (enciphered (xor_bytes chain block)) blocks
