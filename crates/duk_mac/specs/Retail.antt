-- The retail MAC (ANSI X9.19; ISO/IEC 9797-1, MAC algorithm 3 with padding method 1).
use Rattle.std.specs.Prelude.{ℕ, ◌-◌, ◌%◌, List, ◌++◌, length, replicate}
use Rattle.duk_des.specs.Des.{des_encrypted, des_decrypted}
use Rattle.duk_tdes.specs.Blocks.{blocks_of}
use Rattle.duk_tdes.specs.Tdes.{first_key, second_key}
use Rattle.duk_mac.specs.Chain.{zero_block, chained}

-- a message filled with zero bytes to whole blocks (padding method 1)
abbrev pub zero_filled : List ℕ → List ℕ
zero_filled message = message ++ replicate ((8 - length message % 8) % 8) 0

-- single DES under the first half of the key along the blocks, and the last block deciphered under
-- the second half and enciphered under the first again
unfoldable pub retail_of : List ℕ → List ℕ → List ℕ
retail_of key message =
    let last = chained (des_encrypted (first_key key)) zero_block (blocks_of (zero_filled message)) in
    des_encrypted (first_key key) (des_decrypted (second_key key) last)
