-- Three computations one after the other, each on the bytes that the one before leaves.
use Rattle.std.proofs.Common.{◌≡◌, Bool, List, sym, ap, ◌∙◌}
use Rattle.duk_des.specs.Bits.{bits_of_bytes, bytes_of_bits}
use Rattle.duk_des.specs.Des.{des_computation}
use Rattle.duk_des.proofs.BitsOfNumbers.{bits_of_bytes-bytes_of_bits}
use Rattle.duk_des.proofs.DecipheringUndoes.{length-des_computation}
use Rattle.duk_des.proofs.SideBySide.{both}

-- the bits of the bytes of a computation
read_back : (keys : List (List Bool)) (block : List Bool) → bits_of_bytes (bytes_of_bits 8 (des_computation keys block)) ≡ des_computation keys block
read_back keys block = bits_of_bytes-bytes_of_bits 8 _ (length-des_computation keys block)

-- by round keys that are equal
pub three_ciphers : (block : List Bool) {first first' second second' third third' : List (List Bool)} → first ≡ first' → second ≡ second' → third ≡ third'
    → bytes_of_bits 8 (des_computation third (des_computation second (des_computation first block)))
    ≡ bytes_of_bits 8 (des_computation third' (bits_of_bytes (bytes_of_bits 8 (des_computation second' (bits_of_bytes (bytes_of_bits 8 (des_computation first' block)))))))
three_ciphers block {first} {first'} {second} {second'} {third} {third'} same1 same2 same3 =
    ap (bytes_of_bits 8)
    (both des_computation same3
    (both des_computation same2 (ap (λ keys. des_computation keys block) same1 ∙ sym (read_back first' block))
    ∙ sym (read_back second' (bits_of_bytes (bytes_of_bits 8 (des_computation first' block))))))
