-- What a reversal found: this project's own.
use Rattle.std.specs.Prelude.{ℕ}
use Rattle.duk_reversal.specs.declared.state.ReversalState.{ReversalState}
use Rattle.duk_reversal.specs.declared.state.ReversalState.TheVariants.{Undone, NoneStands}

-- the byte of a state
abbrev pub state_byte : ReversalState → ℕ
state_byte Undone = 1
state_byte NoneStands = 0
