-- CMAC with blocks of 64 bits (NIST SP 800-38B section 6).
use Rattle.std.specs.Prelude.{ℕ, ◌-◌, ◌*◌, ◌/◌, ◌%◌, ◌^◌, ◌==◌, if◌then◌else◌, List, [], ◌∷◌, ◌++◌, length, replicate, bit_xor}
use Rattle.std.specs.Int.{w64, from_be_bytes, to_be_bytes}
use Rattle.duk_tdes.specs.Blocks.{blocks_of}
use Rattle.duk_tdes.specs.Key.{xor_bytes}
use Rattle.duk_tdes.specs.Tdes.{tdes_encrypted}
use Rattle.duk_mac.specs.Chain.{zero_block, chained}

-- the 64 bits of a block shifted left by one; where the bit that falls out is a one, it is xored
-- with 1B (section 6.1, steps 2 and 3)
unfoldable pub doubled : List ℕ → List ℕ
doubled block =
    let number = from_be_bytes w64 block in
    let shifted = number * 2 % 2 ^ 64 in
    to_be_bytes w64 (if number / 2 ^ 63 == 1 then bit_xor shifted 0x1B else shifted)

-- the subkey for a whole last block, K1 (section 6.1)
abbrev pub first_subkey : List ℕ → List ℕ
first_subkey key = doubled (tdes_encrypted key zero_block)

-- the subkey for a last block that was padded, K2
abbrev pub second_subkey : List ℕ → List ℕ
second_subkey key = doubled (first_subkey key)

-- a part of a block, or nothing, filled with a one bit and zero bits
abbrev pub padded : List ℕ → List ℕ
padded part = part ++ 0x80 ∷ replicate (7 - length part) 0

-- the last block: a whole one masked with K1, and a part padded and masked with K2 (section 6.2,
-- step 4)
abbrev pub last_block : List ℕ → List ℕ → List ℕ
last_block key block =
    if length block == 8
    then xor_bytes block (first_subkey key)
    else xor_bytes (padded block) (second_subkey key)

-- the blocks with the last one masked; the empty message has one block, which is empty
unfoldable pub with_last_masked : List ℕ → List (List ℕ) → List (List ℕ)
with_last_masked key [] = last_block key [] ∷ []
with_last_masked key (block ∷ []) = last_block key block ∷ []
with_last_masked key (block ∷ next ∷ blocks) = block ∷ with_last_masked key (next ∷ blocks)

-- the MAC of a message under a TDES key, all eight bytes of it (section 6.2)
unfoldable pub cmac_of : List ℕ → List ℕ → List ℕ
cmac_of key message =
    chained (tdes_encrypted key) zero_block (with_last_masked key (blocks_of message))
