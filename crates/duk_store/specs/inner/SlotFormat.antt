-- What only private functions and proofs say beside `SlotFormat.antt`: this project's own.
use Rattle.std.specs.Prelude.{◌≡◌, ◌↔◌, ◌++◌, ℕ, true, List}
use Rattle.byteorder.specs.Endian.{big_bytes}
use Rattle.duk_store.specs.declared.slot_format.Place.{Place}
use Rattle.duk_store.specs.declared.slot_format.Place.TheVariants.{First, Second}
use Rattle.duk_store.specs.declared.slot_format.Slot.{Slot}
use Rattle.duk_store.specs.declared.slot_format.Slots.{Slots}
use Rattle.duk_store.specs.SlotFormat.{slot_at, sequence_of, body_of, IsOpen, IsBlank}

-- the place of a slot's commit byte
abbrev pub commit_place : Place → ℕ
commit_place First = 0
commit_place Second = 512

-- a sequence and a body, as they stand after a commit byte
abbrev pub contents_of : ℕ → List ℕ → List ℕ
contents_of sequence body = big_bytes 8 sequence ++ body

-- both slots are closed and zero
abbrev pub IsEmpty : List ℕ → Type 0
IsEmpty bytes = (place : Place) → IsBlank (slot_at place bytes)

-- what the bytes of a slot say
pub record Says (bytes : List ℕ) (slot : Slot) : Type 0 where
  pub commit : (slot.is_open ≡ true) ↔ IsOpen bytes
  pub sequence : slot.sequence ≡ sequence_of bytes
  pub body : slot.body ≡ body_of bytes

-- the slot that was read at this place
abbrev pub slot_in : Place → Slots → Slot
slot_in First slots = slots.first
slot_in Second slots = slots.second

-- what the bytes of a disk say
abbrev pub SlotsSay : List ℕ → Slots → Type 0
SlotsSay bytes slots = (place : Place) → Says (slot_at place bytes) (slot_in place slots)
