-- Initial key serial numbers in ten bytes.
use Rattle.std.proofs.Common.{◌≡◌, ◌*◌, ◌/◌, ◌<◌, ◌^◌, ◌++◌, ℕ, List, arith, ◌∙◌, ap}
use Rattle.byteorder.specs.Endian.{big_bytes, big_number}
use Rattle.byteorder.specs.Numbers.{big_number-reads_back}
use Rattle.duk_tree.specs.Serial.{IsIksn, serial_of_bytes}
use Rattle.duk_commands.specs.Numbers.{iksn_at}

-- the initial key serial number of ten bytes that spell one
pub iksn_written : (number first place : ℕ) (bytes rest : List ℕ) → number ≡ iksn_at first place → IsIksn first → iksn_at first place < 2 ^ 80
    → bytes ≡ big_bytes 10 number ++ rest → (serial_of_bytes bytes).iksn ≡ iksn_at first place
unfolding serial_of_bytes
iksn_written number first place bytes rest same is fits spelled =
    let read : big_number 10 (big_bytes 10 number ++ rest) ≡ number = big_number-reads_back 10 number rest (omega (arith, same)) in
    let zeros = is.counter_is_zero in
    let whole : number / 2 ^ 21 * 2 ^ 21 ≡ iksn_at first place = omega (arith, zeros, same) in
    ap (λ list. big_number 10 list / 2 ^ 21 * 2 ^ 21) spelled ∙ ap (λ n. n / 2 ^ 21 * 2 ^ 21) read ∙ whole
