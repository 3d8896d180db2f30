-- Which of two slots counts, by what was read of them: this project's own.
use Rattle.std.specs.Prelude.{◌≡◌, ◌<◌, true, false, Option, Some, None}
use Rattle.duk_store.specs.SlotFormat.{other_than}
use Rattle.duk_store.specs.inner.SlotFormat.{slot_in}
use Rattle.duk_store.specs.declared.slot_format.Place.{Place}
use Rattle.duk_store.specs.declared.slot_format.Slots.{Slots}

-- neither slot is open, or the one at this place is, and the other is closed or of smaller sequence
abbrev pub IsCurrent : Slots → Option Place → Type 0
IsCurrent slots None = (place : Place) → (slot_in place slots).is_open ≡ false
IsCurrent slots (Some place) = ((slot_in place slots).is_open ≡ true)
    × ((slot_in (other_than place) slots).is_open ≡ true
    → (slot_in (other_than place) slots).sequence < (slot_in place slots).sequence)

-- both slots are open, and neither is newer
pub record AreEquallyNew (slots : Slots) : Type 0 where
  pub open_both : (place : Place) → (slot_in place slots).is_open ≡ true
  pub same : slots.first.sequence ≡ slots.second.sequence
