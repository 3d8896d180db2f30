-- What is known of a disk whose slots were found, and while the one that does not count is cleared.
use Rattle.std.proofs.Common.{◌≡◌, inr, Some, None, refl, sym, ◌∙◌, ap, subst, arith}
use Rattle.duk_store.specs.Cell.{Kept}
use Rattle.duk_store.specs.Disk.{DiskState, LeavesChanged}
use Rattle.duk_store.specs.SlotCell.{IsRestored}
use Rattle.duk_store.specs.inner.SlotCell.{IsCellBroughtUp, RecoveryFailed}
use Rattle.duk_store.specs.inner.SlotChoice.{AreEquallyNew, IsCurrent}
use Rattle.duk_store.specs.SlotFormat.{Counts, HoldsAlone, IsOpen, KeepsBody, body_of, other_than, sequence_of, slot_at}
use Rattle.duk_store.specs.inner.SlotFormat.{slot_in}
use Rattle.duk_store.specs.inner.SlotSteps.{ChangesAt, IsCleared, IsFound, IsPartlyCleared, IsStepDone, IsStepFailed}
use Rattle.duk_store.specs.declared.fault.StoreFault.{StoreFault}
use Rattle.duk_store.specs.declared.fault.StoreFault.TheVariants.{Damaged}
use Rattle.duk_store.specs.declared.slot_format.Place.{Place}
use Rattle.duk_store.specs.declared.slot_format.Place.TheVariants.{First, Second}
use Rattle.duk_store.specs.declared.slot_format.Slot.{Slot}
use Rattle.duk_store.specs.declared.slot_format.Slots.{Slots}
use Rattle.duk_store.specs.declared.slot_format.SlotState.TheVariants.{Holds}
use Rattle.duk_store.proofs.StepsInTurn.{keeps_on}
use Rattle.duk_store.proofs.WhatIsKept.{alone_keeps, cleared, cleared_alone, torn_clear}

module _ (old mid : DiskState) (slots : Slots) (found : IsFound old mid slots) where
  -- what is read was one of the states that a stop could leave
  reads_left : old.honest → old.may_leave mid.reads
  reads_left h = let start = found.done.changed h in subst (λ bytes. old.may_leave bytes) start.2 start.1

  open_at : old.honest → AreEquallyNew slots → (place : Place) → IsOpen (slot_at place mid.reads)
  open_at h same place = (found.says h place).commit.0 (same.open_both place)

  -- two open slots of one sequence keep nothing, not even nothing
  keeps_none : old.honest → AreEquallyNew slots → (kept : Kept) → ¬ KeepsBody mid.reads kept
  keeps_none h same None none = none First (open_at h same First)
  keeps_none h same (Some body) (First, counts, is) = omega (arith, counts.newer (open_at h same Second), (found.says h First).sequence, (found.says h Second).sequence, same.same)
  keeps_none h same (Some body) (Second, counts, is) = omega (arith, counts.newer (open_at h same First), (found.says h First).sequence, (found.says h Second).sequence, same.same)

  pub damaged : AreEquallyNew slots → RecoveryFailed old mid Damaged
  damaged same = record {
    nature = found.done.nature;
    disarmed = found.disarmed;
    cause = record { no_failure = found.done.no_failure; damage = λ h. inr (mid.reads, reads_left h, keeps_none h same) };
  }

  module _ (place : Place) (current : IsCurrent slots (Some place)) where
    counts : old.honest → Counts (slot_at place mid.reads) (slot_at (other_than place) mid.reads)
    counts h = record {
      is_open = (found.says h place).commit.0 current.0;
      newer = λ is_open.
          let less = current.1 ((found.says h (other_than place)).commit.1 is_open) in
          omega (arith, less, (found.says h place).sequence, (found.says h (other_than place)).sequence);
    }

    module _ (beside : Place) (beside_is : beside ≡ other_than place) (new : DiskState) where
      pub failed_restores : (fault : StoreFault) → IsStepFailed (ChangesAt beside IsPartlyCleared) mid new fault → LeavesChanged IsRestored old new
      failed_restores fault failed h bytes left =
          let start = failed.changed (found.done.nature.honest.0 h) bytes left in
          let is : start.0 ≡ mid.reads = (found.done.leaves h start.0).0 start.1 in
          let changes : ChangesAt (other_than place) IsPartlyCleared mid.reads bytes =
          subst (λ at. ChangesAt at IsPartlyCleared mid.reads bytes) beside_is (subst (λ before. ChangesAt beside IsPartlyCleared before bytes) is start.2) in
          (mid.reads, reads_left h, torn_clear place mid.reads bytes (counts h) changes)

      changes_are : IsStepDone (ChangesAt beside IsCleared) mid new → old.honest → ChangesAt (other_than place) IsCleared mid.reads new.reads
      changes_are done h =
          let start = done.changed (found.done.nature.honest.0 h) in
          let is : start.0 ≡ mid.reads = (found.done.leaves h start.0).0 start.1 in
          subst (λ at. ChangesAt at IsCleared mid.reads new.reads) beside_is (subst (λ before. ChangesAt beside IsCleared before new.reads) is start.2)

      pub cleared_restores : IsStepDone (ChangesAt beside IsCleared) mid new → LeavesChanged IsRestored old new
      cleared_restores done h bytes left =
          let is : bytes ≡ new.reads = (done.leaves (found.done.nature.honest.0 h) bytes).0 left in
          (mid.reads, reads_left h, subst (λ bytes. IsRestored mid.reads bytes) (sym is) (cleared place mid.reads new.reads (counts h) (changes_are done h)))

      pub brought_up : IsStepDone (ChangesAt beside IsCleared) mid new → (slot : Slot) → slot ≡ slot_in place slots → IsCellBroughtUp old new (Holds place slot.sequence) (Some slot.body)
      brought_up done slot slot_is =
          let nature = keeps_on old mid new found.done.nature done.nature in
          let sequence : old.honest → sequence_of (slot_at place mid.reads) ≡ slot.sequence = λ h. sym (ap (λ (s : Slot). s.sequence) slot_is ∙ (found.says h place).sequence) in
          let body : old.honest → body_of (slot_at place mid.reads) ≡ slot.body = λ h. sym (ap (λ (s : Slot). s.body) slot_is ∙ (found.says h place).body) in
          let alone = λ (h : old.honest). cleared_alone place mid.reads new.reads (counts h) (changes_are done h) in
          record {
            nature = nature;
            no_failure = done.no_failure ∙ found.done.no_failure;
            disarmed = done.nature.disarmed found.disarmed;
            runs = refl;
            knows = (
              done.nature.size ∙ found.size,
              λ honest.
                  let h = nature.honest.1 honest in (
                    done.leaves (found.done.nature.honest.0 h),
                    (
                      body_of (slot_at place mid.reads),
                      subst (λ sequence. HoldsAlone place sequence (body_of (slot_at place mid.reads)) new.reads) (sequence h) (alone h),
                    ),
                  ),
            );
            found = λ h. (mid.reads, reads_left h, (place, counts h, sym (body h)));
            keeps = λ h. (done.leaves (found.done.nature.honest.0 h), subst (λ body. KeepsBody new.reads (Some body)) (body h) (alone_keeps place _ _ new.reads (alone h)));
          }
