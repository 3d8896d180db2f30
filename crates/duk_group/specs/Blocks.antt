-- What a lane holds, as bytes: this project's own.
use Rattle.std.specs.Prelude.{ℕ, Bool, List, ◌++◌}
use Rattle.std.specs.List.{flat_map}
use Rattle.duk_des.specs.Bits.{bytes_of_bits}
use Rattle.duk_lanes.specs.Lanes.{lane_of}

-- the block of a lane, eight bytes
unfoldable pub block_of : {L : Type 0} → (L → ℕ → Bool) → ℕ → List L → List ℕ
block_of lane i words = bytes_of_bits 8 (lane_of lane i words)

-- the double-length key of a lane, from its two halves
abbrev pub key_of : {L : Type 0} → (L → ℕ → Bool) → ℕ → List L → List L → List ℕ
key_of lane i left right = block_of lane i left ++ block_of lane i right

-- the message of a lane: its blocks, one after another
abbrev pub message_in : {L : Type 0} → (L → ℕ → Bool) → ℕ → List (List L) → List ℕ
message_in lane i blocks = flat_map (block_of lane i) blocks
