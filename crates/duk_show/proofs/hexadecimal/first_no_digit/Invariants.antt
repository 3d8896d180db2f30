use Rattle.std.proofs.Common.{take}
use Rattle.std.specs.List.{AllPass}
use Rattle.hex.specs.Hex.{is_hex_digit}
use Rattle.duk_show.proofs.hexadecimal.first_no_digit.Given as goal

-- the characters so far are digits
abbrev pub invariant-loop-place : goal.invariant-loop-place
invariant-loop-place l = AllPass is_hex_digit (take l.place l.text)
