-- Bytes of a header.
use Rattle.std.proofs.Common.{◌≡◌, ℕ, List, arith, drop, get_or, length, length-drop, refl, take}
use Rattle.std.proofs.lemmas.List.{length-take-le}
use Rattle.duk_journal.specs.Header.{header_of, said_in_front}

-- its gate, the byte behind it, the byte behind that, and how many bytes a record has
pub gate_in : (kind identity : ℕ) → get_or (header_of kind identity) 0 0 ≡ 0x01
unfolding said_in_front
gate_in kind identity = refl

pub mark_in : (kind identity : ℕ) → get_or (header_of kind identity) 1 0 ≡ 0xD5
unfolding said_in_front
mark_in kind identity = refl

pub third_in : (kind identity : ℕ) → get_or (header_of kind identity) 2 0 ≡ 0x44
unfolding said_in_front
third_in kind identity = refl

pub length_in : (kind identity : ℕ) → get_or (header_of kind identity) 15 0 ≡ 32
unfolding said_in_front
length_in kind identity = refl

-- what stands from its third byte to the one that says how many bytes a record has
pub low_length : (bytes : List ℕ) → length bytes ≡ 32 → length (take 13 (drop 2 bytes)) ≡ 13
low_length bytes long = length-take-le 13 (drop 2 bytes) (omega (arith, length-drop 2 bytes, long))
