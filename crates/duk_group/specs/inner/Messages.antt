-- How a lane goes along its message: this project's own.
use Rattle.std.specs.Prelude.{◌≡◌, ◌≤◌, ◌*◌, ℕ, true, false, List, ◌∷◌, length, drop}
use Rattle.duk_des.specs.Block.{IsBlock}
use Rattle.duk_tdes.specs.Blocks.{blocks_of}
use Rattle.duk_mac.specs.Retail.{zero_filled}
use Rattle.duk_group.specs.declared.turns.Turn.{Turn}

-- the blocks of a message that are left after so many, filled with zero bytes
abbrev pub blocks_after : List ℕ → ℕ → List (List ℕ)
blocks_after message count = blocks_of (zero_filled (drop (8 * count) message))

-- the next block of a message after so many
pub record IsNextBlock (message : List ℕ) (count : ℕ) (turn : Turn) : Type 0 where
  pub goes : turn.goes ≡ true → blocks_after message count ≡ turn.block ∷ blocks_of (zero_filled (drop 8 (drop (8 * count) message)))
  pub is_block : turn.goes ≡ true → IsBlock turn.block
  pub stays : turn.goes ≡ false → length message ≤ 8 * count
