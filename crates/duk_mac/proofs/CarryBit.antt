-- The carry of a doubled block as a product: this project's own.
use Rattle.std.proofs.Common.{◌≡◌, ◌<◌, ◌*◌, ◌==◌, ℕ, zero, suc, refl, arith, if◌then◌else◌}
use Rattle.std.specs.Int.Bits.{bit_xor, xor_zero_r}

-- a product with the bit is a choice by it
pub carried : (shifted bit : ℕ) → bit < 2
    → bit_xor shifted (bit * 0x1B) ≡ (if bit == 1 then bit_xor shifted 0x1B else shifted)
carried shifted zero below = xor_zero_r shifted
carried shifted (suc zero) below = refl
carried shifted (suc (suc more)) below = absurd (omega (arith, below))
