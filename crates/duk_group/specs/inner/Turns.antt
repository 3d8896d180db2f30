-- Turns by their places: this project's own.
use Rattle.std.specs.Prelude.{ℕ, false, List, [], slice_index_or}
use Rattle.duk_group.specs.declared.turns.Turn.{Turn}

-- what a lane does
abbrev pub turn_at : List Turn → ℕ → Turn
turn_at turns i = slice_index_or turns i (record { goes = false; block = [] })
