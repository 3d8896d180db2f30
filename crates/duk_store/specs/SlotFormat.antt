-- The disk of a cell: a format of this project's own. It has 1,024 bytes, which are two slots of
-- 512: a commit byte, a sequence in 8 bytes with the highest first, and a body in 503.
use Rattle.std.specs.Prelude.{◌≡◌, ◌<◌, ℕ, List, Some, None, take, drop, replicate, slice_index}
use Rattle.byteorder.specs.Endian.{big_number}
use Rattle.duk_store.specs.Cell.{Kept}
use Rattle.duk_store.specs.declared.slot_format.Place.{Place}
use Rattle.duk_store.specs.declared.slot_format.Place.TheVariants.{First, Second}

-- the bytes of the disk
abbrev pub cell_disk_size : ℕ
cell_disk_size = 1024

-- the slot at a place of the disk
abbrev pub slot_at : Place → List ℕ → List ℕ
slot_at First bytes = take 512 bytes
slot_at Second bytes = drop 512 bytes

-- the place of the other slot
abbrev pub other_than : Place → Place
other_than First = Second
other_than Second = First

-- the commit byte of a slot, and what stands after it
abbrev pub commit_of : List ℕ → ℕ
commit_of slot = slice_index slot 0

abbrev pub after_commit : List ℕ → List ℕ
after_commit slot = drop 1 slot

abbrev pub sequence_of : List ℕ → ℕ
sequence_of slot = big_number 8 (after_commit slot)

abbrev pub body_of : List ℕ → List ℕ
body_of slot = drop 8 (after_commit slot)

-- a slot is open where its commit byte is 1, and closed where it is anything else
abbrev pub IsOpen : List ℕ → Type 0
IsOpen slot = commit_of slot ≡ 1

-- a slot that is closed, with zeros after its commit byte
pub record IsBlank (slot : List ℕ) : Type 0 where
  pub closed : ¬ IsOpen slot
  pub zeros : after_commit slot ≡ replicate 511 0

-- the slot that counts: it is open, and the other is closed or of smaller sequence
pub record Counts (slot beside : List ℕ) : Type 0 where
  pub is_open : IsOpen slot
  pub newer : IsOpen beside → sequence_of beside < sequence_of slot

-- what the cell of such a disk keeps: nothing where both slots are closed, else the body of the
-- slot that counts
abbrev pub KeepsBody : List ℕ → Kept → Type 0
KeepsBody bytes None = (place : Place) → ¬ IsOpen (slot_at place bytes)
KeepsBody bytes (Some body) =
    (place : Place) × Counts (slot_at place bytes) (slot_at (other_than place) bytes)
    × (body ≡ body_of (slot_at place bytes))

-- one slot is open, with this sequence and this body, and the other is closed and zero
pub record HoldsAlone (place : Place) (sequence : ℕ) (body bytes : List ℕ) : Type 0 where
  pub is_open : IsOpen (slot_at place bytes)
  pub sequence_is : sequence_of (slot_at place bytes) ≡ sequence
  pub body_is : body_of (slot_at place bytes) ≡ body
  pub other_blank : IsBlank (slot_at (other_than place) bytes)
