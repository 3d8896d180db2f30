-- The round keys at the rotations of the sixteen rounds are those of the standard.
use Rattle.std.proofs.Common.{◌≡◌, Bool, List, [], ◌∷◌, reverse, refl}
use Rattle.duk_des.specs.Des.{schedule, round_keys}
use Rattle.duk_lanes.specs.inner.Schedule.{round_key_at, round_keys_at}

pub in_order : (key : List Bool)
    → round_keys_at (1 ∷ 2 ∷ 4 ∷ 6 ∷ 8 ∷ 10 ∷ 12 ∷ 14 ∷ 15 ∷ 17 ∷ 19 ∷ 21 ∷ 23 ∷ 25 ∷ 27 ∷ 28 ∷ []) key ≡ round_keys key
unfolding round_key_at round_keys_at schedule round_keys
in_order key = refl

pub backwards : (key : List Bool)
    → round_keys_at (28 ∷ 27 ∷ 25 ∷ 23 ∷ 21 ∷ 19 ∷ 17 ∷ 15 ∷ 14 ∷ 12 ∷ 10 ∷ 8 ∷ 6 ∷ 4 ∷ 2 ∷ 1 ∷ []) key ≡ reverse (round_keys key)
unfolding round_key_at round_keys_at schedule round_keys
backwards key = refl
