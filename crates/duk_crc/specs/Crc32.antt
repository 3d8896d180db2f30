-- CRC-32 (ISO 3309 and ITU-T V.42), with the reflected polynomial EDB88320.
--
-- The bits of bytes, each byte from its lowest bit on, are the coefficients of a polynomial over the
-- field of two elements. A remainder has degree below 32, and is a number of 32 bits: its highest bit is
-- the coefficient of 1, and its lowest bit that of x^31. The sum of remainders is their exclusive or.
use Rattle.std.specs.Prelude.{◌-◌, ◌/◌, ◌%◌, ◌^◌, ℕ, zero, suc, List, bit_xor}
use Rattle.std.specs.List.{fold}

-- the polynomial but for x^32, which is therefore what x^32 leaves
abbrev pub generator : ℕ
generator = 0xEDB88320

-- the part of a product with x that has degree below 32, and what its coefficient of x^32 leaves
abbrev pub carried : ℕ → ℕ
carried zero = 0
carried (suc carry) = generator

-- a remainder times x, modulo the generator
abbrev pub times_x : ℕ → ℕ
times_x remainder = bit_xor (remainder / 2) (carried (remainder % 2))

-- a remainder times a power of x, modulo the generator
abbrev pub shifted : ℕ → ℕ → ℕ
shifted zero remainder = remainder
shifted (suc power) remainder = times_x (shifted power remainder)

-- the remainder with the eight coefficients of one more byte
abbrev pub with_byte : ℕ → ℕ → ℕ
with_byte remainder byte = shifted 8 (bit_xor remainder byte)

-- what the division of bytes leaves: the first 32 coefficients are complemented before it
abbrev pub remainder_of : List ℕ → ℕ
remainder_of bytes = fold with_byte (2 ^ 32 - 1) bytes

-- the check sum of bytes: all of the remainder is complemented behind the division
abbrev pub crc32 : List ℕ → ℕ
crc32 bytes = 2 ^ 32 - 1 - remainder_of bytes
