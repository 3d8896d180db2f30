use Rattle.std.proofs.Common.{◌<◌, ◌*◌, ◌/◌, ◌%◌, ◌^◌, ◌==◌, ap, ◌∙◌, arith, w64, if◌then◌else◌}
use Rattle.std.specs.Int.{to_be_bytes}
use Rattle.std.specs.Int.Bits.{bit_xor}
use Rattle.duk_mac.specs.Cmac.{doubled}
use Rattle.duk_mac.proofs.CarryBit.{carried}
use Rattle.duk_mac.proofs.cipher_mac.double_block.Goals as goal

pub returns : goal.returns
unfolding doubled
returns c =
    let number = c.from_be_bytes-number.result in
    let bit : number / 2 ^ 63 < 2 = omega arith in
    c.to_be_bytes.ensures
    ∙ ap (to_be_bytes w64) (carried (number * 2 % 2 ^ 64) (number / 2 ^ 63) bit)
    ∙ ap (λ n.
    let shifted = n * 2 % 2 ^ 64 in
    to_be_bytes w64 (if n / 2 ^ 63 == 1 then bit_xor shifted 0x1B else shifted)) c.from_be_bytes-number.ensures
