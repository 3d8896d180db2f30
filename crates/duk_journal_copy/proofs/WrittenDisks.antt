-- What calls in turn do to a disk of which a range is written.
use Rattle.std.proofs.Common.{◌≡◌, ◌∙◌, ◌⊎◌, ◌+◌, ◌-◌, ◌<◌, ◌≤◌, ℕ, arith, refl, sym}
use Rattle.duk_journal_copy.specs.inner.Blank.{LeavesByte, LeavesOutside}
use Rattle.duk_journal_copy.specs.inner.Copy.{StaysRead}
use Rattle.duk_store.specs.Disk.{DiffersWithin, DiskState, HasFailed, LeavesChanged, LeavesWithin, PreservesBytes, PreservesDisk}
use Rattle.duk_store.specs.declared.fault.StoreFault.{StoreFault}
use Rattle.duk_journal_copy.proofs.WrittenLists.{differs_not, differs_then, differs_wider}

pub keeps_on : (old mid new : DiskState) → PreservesDisk old mid → PreservesDisk mid new → PreservesDisk old new
keeps_on old mid new first second = record {
  honest = ((λ h. second.honest.0 (first.honest.0 h)), (λ h. first.honest.1 (second.honest.1 h)));
  size = second.size ∙ first.size;
  calm = λ calm. second.calm (first.calm calm);
  disarmed = λ disarmed. second.disarmed (first.disarmed disarmed);
}

-- a failure after calls without one
pub fails_later : (old mid new : DiskState) (fault : StoreFault) → PreservesDisk old mid → mid.failures ≡ old.failures
    → HasFailed mid new fault → HasFailed old new fault
fails_later old mid new fault keeps none fails = record {
  fault_is = fails.fault_is;
  failure = λ same. fails.failure (same ∙ sym none);
  not_calm = λ calm. fails.not_calm (keeps.calm calm);
}

pub bytes_then : (old mid new : DiskState) → PreservesBytes old mid → PreservesBytes mid new → PreservesBytes old new
bytes_then old mid new first second = record {
  reads = second.reads ∙ first.reads;
  may_leave = λ bytes. (
    (λ left. (first.may_leave bytes).0 ((second.may_leave bytes).0 left)),
    (λ left. (second.may_leave bytes).1 ((first.may_leave bytes).1 left)),
  );
}

pub stays_on : (old mid new : DiskState) → StaysRead old mid → StaysRead mid new → StaysRead old new
stays_on old mid new first second = record {
  nature = keeps_on _ _ _ first.nature second.nature;
  no_failure = second.no_failure ∙ first.no_failure;
  bytes = bytes_then old mid new first.bytes second.bytes;
}

-- ---- no call

pub keeps_none : (disk : DiskState) → PreservesDisk disk disk
keeps_none disk = record { honest = ((λ h. h), (λ h. h)); size = refl; calm = λ calm. calm; disarmed = λ disarmed. disarmed }

pub bytes_none : (disk : DiskState) → PreservesBytes disk disk
bytes_none disk = record { reads = refl; may_leave = λ bytes. ((λ left. left), (λ left. left)) }

pub stays_none : (disk : DiskState) → StaysRead disk disk
stays_none disk = record { nature = keeps_none disk; no_failure = refl; bytes = bytes_none disk }

-- ---- what a stop leaves

pub outside_none : (from to : ℕ) (disk : DiskState) → LeavesOutside from to disk disk
outside_none from to disk = λ h bytes left. (bytes, left, differs_not from (to - from) bytes)

pub outside_then : (from to : ℕ) (old mid new : DiskState) → PreservesDisk old mid → LeavesOutside from to old mid → LeavesOutside from to mid new → LeavesOutside from to old new
outside_then from to old mid new nature first second = λ h bytes left.
    let one = second (nature.honest.0 h) bytes left in
    let two = first h one.0 one.1 in
    (two.0, two.1, differs_then from (to - from) two.0 one.0 bytes two.2 one.2)

pub outside_wider : (from to at some : ℕ) (old new : DiskState) → from ≤ at → at + some ≤ to → LeavesChanged (DiffersWithin at some) old new → LeavesOutside from to old new
outside_wider from to at some old new low high changed = λ h bytes left.
    let one = changed h bytes left in
    (one.0, one.1, differs_wider from (to - from) at some one.0 bytes low (omega (arith, low, high)) one.2)

-- a sync adds nothing
pub outside_synced : (from to : ℕ) (old mid new : DiskState) → PreservesDisk old mid → LeavesOutside from to old mid → LeavesWithin mid new → LeavesOutside from to old new
outside_synced from to old mid new nature first within = λ h bytes left. first h bytes (within (nature.honest.0 h) bytes left)

-- ---- a byte that stays

pub byte_outside : (place at count : ℕ) (old new : DiskState) → (place < at) ⊎ (at + count ≤ place) → LeavesChanged (DiffersWithin at count) old new → LeavesByte place old new
byte_outside place at count old new out changed = λ h bytes left.
    let one = changed h bytes left in
    (one.0, one.1, one.2.outside place out)

pub byte_within : (place : ℕ) (old new : DiskState) → LeavesWithin old new → LeavesByte place old new
byte_within place old new within = λ h bytes left. (bytes, within h bytes left, refl)

pub byte_then : (place : ℕ) (old mid new : DiskState) → PreservesDisk old mid → LeavesByte place old mid → LeavesByte place mid new → LeavesByte place old new
byte_then place old mid new nature first second = λ h bytes left.
    let one = second (nature.honest.0 h) bytes left in
    let two = first h one.0 one.1 in
    (two.0, two.1, one.2 ∙ two.2)
