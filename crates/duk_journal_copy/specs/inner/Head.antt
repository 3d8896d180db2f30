-- What only private functions and proofs say of the first two bytes of a disk: this project's own.
use Rattle.std.specs.Prelude.{◌≡◌, ◌≢◌, ◌⊎◌, ℕ, List, slice_index}
use Rattle.duk_store.specs.Disk.{DiffersWithin, DiskState, LeavesReads, PreservesDisk}

-- the first byte of a header, which is its gate, and the byte behind it
abbrev pub header_gate : ℕ
header_gate = 0x01

abbrev pub header_mark : ℕ
header_mark = 0xD5

-- bytes are those of others, but for the first two
abbrev pub HasRestOf : List ℕ → List ℕ → Type 0
HasRestOf others bytes = DiffersWithin 0 2 others bytes

-- a byte is this one, and all others are as they were; what was synced is
pub record IsByteSettled (place byte : ℕ) (old new : DiskState) : Type 0 where
  pub nature : PreservesDisk old new
  pub no_failure : new.failures ≡ old.failures
  pub others : old.honest → DiffersWithin place 1 old.reads new.reads
  pub is : old.honest → slice_index new.reads place ≡ byte
  pub leaves : old.honest → LeavesReads old → LeavesReads new

-- the first two bytes are those of a header
pub record IsHeadSettled (old new : DiskState) : Type 0 where
  pub nature : PreservesDisk old new
  pub no_failure : new.failures ≡ old.failures
  pub rest : old.honest → HasRestOf old.reads new.reads
  pub gate_is : old.honest → slice_index new.reads 0 ≡ header_gate
  pub mark_is : old.honest → slice_index new.reads 1 ≡ header_mark
  pub leaves : old.honest → LeavesReads old → LeavesReads new

-- the gate is settled, or it was another and the byte behind it is as it was
pub record IsHeadInTurn (old bytes : List ℕ) : Type 0 where
  pub rest : HasRestOf old bytes
  pub in_turn : (slice_index bytes 0 ≡ header_gate)
      ⊎ ((slice_index old 0 ≢ header_gate) × (slice_index bytes 1 ≡ slice_index old 1))

-- whenever a synced disk is stopped, one or the other is so
abbrev pub LeavesHeadInTurn : DiskState → DiskState → Type 0
LeavesHeadInTurn old new =
    old.honest → LeavesReads old → (bytes : List ℕ) → new.may_leave bytes
    → IsHeadInTurn old.reads bytes
