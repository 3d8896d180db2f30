-- An open file whose bytes are read ahead: this project's own.
use Rattle.std.specs.Prelude.{ℕ}
use Rattle.duk_store.specs.Medium.{MediumState}

-- an open file that is read ahead: the file, and how many bytes it had when it was opened
pub record ReadAheadOf (F : Type 0) : Type 0 where
  pub file : F
  pub size : ℕ

-- the file as it is made
abbrev pub new_read_ahead : {F : Type 0} → F → ℕ → ReadAheadOf F
new_read_ahead file size = record { file = file; size = size }

-- it is known to be what the file below it is known to be
abbrev pub read_ahead_state : {F : Type 0} → (F → MediumState) → ReadAheadOf F → MediumState
read_ahead_state state ahead = state ahead.file
