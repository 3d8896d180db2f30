-- Round keys as windows of the key's halves: the words are this project's own.
use Rattle.std.specs.Prelude.{ℕ, Bool, List, ◌++◌, map, take, drop}
use Rattle.duk_des.specs.Bits.{permute}
use Rattle.duk_des.specs.Tables.{left_key_places, right_key_places, round_key_places}

-- 28 bits from a place on: of a half that is written twice they are the half, rotated left by as
-- many places
abbrev pub window : ℕ → List Bool → List Bool
window place twice = take 28 (drop place twice)

-- the round key of halves that are each written twice and rotated by this many places in all
unfoldable pub round_key_at : List Bool → List Bool → ℕ → List Bool
round_key_at c d total = permute round_key_places (window total c ++ window total d)

-- the round keys of a key, by how far its halves are rotated in all in each round
unfoldable pub round_keys_at : List ℕ → List Bool → List (List Bool)
round_keys_at totals key =
    let c = permute left_key_places key in
    let d = permute right_key_places key in map (round_key_at (c ++ c) (d ++ d)) totals
