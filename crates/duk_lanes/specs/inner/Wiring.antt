-- Tables of places: the words are this project's own.
use Rattle.std.specs.Prelude.{ℕ, ◌-◌, ◌&&◌, nat_lt, nat_le, Bool, true, List, [], ◌∷◌, slice_set}
use Rattle.std.specs.Bool.{xor}
use Rattle.duk_des.specs.Bits.{bit}

-- whether each entry of a table is the number of one of `count` words, counted from 1
abbrev pub are_places : ℕ → List ℕ → Bool
are_places count [] = true
are_places count (place ∷ places) =
    nat_lt 0 place && (nat_le place count && are_places count places)

-- bits xored in turn into those with the numbers of a table, counted from 1
abbrev pub xored_at : List ℕ → List Bool → List Bool → List Bool
xored_at [] bits sums = sums
xored_at (place ∷ places) [] sums = sums
xored_at (place ∷ places) (b ∷ bits) sums =
    xored_at places bits (slice_set sums (place - 1) (xor (bit sums place) b))
