-- A message as a list of blocks (NIST SP 800-38B section 6.2).
use Rattle.std.specs.Prelude.{ℕ, zero, suc, ◌+◌, ◌/◌, List, [], ◌∷◌, length, take, drop}

-- so many times the next eight bytes
abbrev pub leading_blocks : ℕ → List ℕ → List (List ℕ)
leading_blocks zero bytes = []
leading_blocks (suc count) bytes = take 8 bytes ∷ leading_blocks count (drop 8 bytes)

-- the blocks of a message: eight bytes each, but for the last, which has what is left
unfoldable pub blocks_of : List ℕ → List (List ℕ)
blocks_of bytes = leading_blocks ((length bytes + 7) / 8) bytes
