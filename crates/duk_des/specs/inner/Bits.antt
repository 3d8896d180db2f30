-- What only private functions and proofs say beside `Bits.antt`: this project's own.
use Rattle.std.specs.Prelude.{ℕ, ◌&&◌, nat_lt, nat_le, Bool, true, List, [], ◌∷◌}

-- whether each entry of a table is the number of a bit, where there are `count` bits
abbrev pub are_places : ℕ → List ℕ → Bool
are_places count [] = true
are_places count (place ∷ places) =
    nat_lt 0 place && (nat_le place count && are_places count places)
