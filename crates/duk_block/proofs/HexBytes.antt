-- Bytes that are written in hexadecimal are read back.
use Rattle.std.proofs.Common.{ℕ, ◌<◌, ◌^◌, List, length, arith}
use Rattle.std.specs.List.{All}
use Rattle.std.proofs.lemmas.Bool.{cases_lt}
use Rattle.std.proofs.Common.{inl, inr}
use Rattle.std.proofs.lemmas.List.{get_or_past}
use Rattle.std.proofs.lemmas.List.Elements.{All-get_or}
use Rattle.hex.specs.Hex.{IsBytes, encode_upper}
use Rattle.hex.proofs.HexLemmas.{decode_of-encode_upper}
use Rattle.duk_block.specs.Hexadecimal.{IsHexadecimal}

pub IsBytes-from_All : (bytes : List ℕ) → All (λ byte. byte < 2 ^ 8) bytes → IsBytes bytes
IsBytes-from_All bytes fit i =
    elim (cases_lt i (length bytes)) [
      | inl below ↦ All-get_or (λ byte. byte < 2 ^ 8) bytes i 0 below fit
      | inr past ↦ let zero_there = get_or_past bytes i 0 past in omega arith
    ]

pub IsHexadecimal-encode_upper : (bytes : List ℕ) → All (λ byte. byte < 2 ^ 8) bytes → IsHexadecimal (encode_upper bytes) bytes
IsHexadecimal-encode_upper bytes fit = decode_of-encode_upper bytes (IsBytes-from_All bytes fit)
