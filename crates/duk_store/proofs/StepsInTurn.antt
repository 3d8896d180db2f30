-- One step of a disk after another.
use Rattle.std.proofs.Common.{◌≡◌, ℕ, List, Ok, Err, Result, IfOk, OnOk, length, ◌∙◌, subst, sym}
use Rattle.duk_store.specs.Disk.{DiskState, HasFailed, PreservesBytes, PreservesDisk, LeavesItsSize}
use Rattle.duk_store.specs.inner.SlotSteps.{Change, IsStepDone, IsStepFailed}
use Rattle.duk_store.specs.declared.fault.StoreFault.{StoreFault}

pub keeps_on : (old mid new : DiskState) → PreservesDisk old mid → PreservesDisk mid new → PreservesDisk old new
keeps_on old mid new first second = record {
  honest = ((λ h. second.honest.0 (first.honest.0 h)), (λ h. first.honest.1 (second.honest.1 h)));
  size = second.size ∙ first.size;
  calm = λ calm. second.calm (first.calm calm);
  disarmed = λ disarmed. second.disarmed (first.disarmed disarmed);
}

-- a failure after steps without one
pub fails_later : (old mid new : DiskState) (fault : StoreFault) → PreservesDisk old mid → mid.failures ≡ old.failures → HasFailed mid new fault → HasFailed old new fault
fails_later old mid new fault keeps none fails = record {
  fault_is = fails.fault_is;
  failure = λ same. fails.failure (same ∙ sym none);
  not_calm = λ calm. fails.not_calm (keeps.calm calm);
}

pub done_then : (one two both : Change) (old mid new : DiskState) → IsStepDone one old mid → IsStepDone two mid new → ((a b c : List ℕ) → one a b → two b c → both a c) → IsStepDone both old new
done_then one two both old mid new first second joins = record {
  nature = keeps_on old mid new first.nature second.nature;
  no_failure = second.no_failure ∙ first.no_failure;
  leaves = λ h. second.leaves (first.nature.honest.0 h);
  changed = λ h.
      let start = first.changed h in
      let middle = second.changed (first.nature.honest.0 h) in
      let is : middle.0 ≡ mid.reads = (first.leaves h middle.0).0 middle.1 in
      (start.0, start.1, joins start.0 mid.reads new.reads start.2 (subst (λ bytes. two bytes new.reads) is middle.2));
}

pub done_then_failed : (one two both : Change) (old mid new : DiskState) (fault : StoreFault) → IsStepDone one old mid → IsStepFailed two mid new fault → ((a b c : List ℕ) → one a b → two b c → both a c)
    → IsStepFailed both old new fault
done_then_failed one two both old mid new fault first second joins = record {
  nature = keeps_on old mid new first.nature second.nature;
  failed = fails_later old mid new fault first.nature first.no_failure second.failed;
  changed = λ h bytes left.
      let start = first.changed h in
      let middle = second.changed (first.nature.honest.0 h) bytes left in
      let is : middle.0 ≡ mid.reads = (first.leaves h middle.0).0 middle.1 in
      (start.0, start.1, joins start.0 mid.reads bytes start.2 (subst (λ before. two before bytes) is middle.2));
}

-- a change that is another one, at the disk's size
pub done_as : (one other : Change) (old new : DiskState) (size : ℕ) → LeavesItsSize old → old.size ≡ size → ((a b : List ℕ) → length a ≡ size → one a b → other a b) → IsStepDone one old new → IsStepDone other old new
done_as one other old new size lengths size_is follows done = record {
  nature = done.nature;
  no_failure = done.no_failure;
  leaves = done.leaves;
  changed = λ h. let start = done.changed h in (start.0, start.1, follows start.0 new.reads (lengths h start.0 start.1 ∙ size_is) start.2);
}

pub failed_as : (one other : Change) (old new : DiskState) (size : ℕ) (fault : StoreFault) → LeavesItsSize old → old.size ≡ size → ((a b : List ℕ) → length a ≡ size → one a b → other a b)
    → IsStepFailed one old new fault → IsStepFailed other old new fault
failed_as one other old new size fault lengths size_is follows failed = record {
  nature = failed.nature;
  failed = failed.failed;
  changed = λ h bytes left. let start = failed.changed h bytes left in (start.0, start.1, follows start.0 bytes (lengths h start.0 start.1 ∙ size_is) start.2);
}

-- a change that is another one where a stop could have left these bytes
pub done_where : (one other : Change) (old new : DiskState) → (old.honest → (a b : List ℕ) → old.may_leave a → one a b → other a b) → IsStepDone one old new → IsStepDone other old new
done_where one other old new follows done = record {
  nature = done.nature;
  no_failure = done.no_failure;
  leaves = done.leaves;
  changed = λ h. let start = done.changed h in (start.0, start.1, follows h start.0 new.reads start.1 start.2);
}

pub failed_where : (one other : Change) (old new : DiskState) (fault : StoreFault) → (old.honest → (a b : List ℕ) → old.may_leave a → one a b → other a b) → IsStepFailed one old new fault → IsStepFailed other old new fault
failed_where one other old new fault follows failed = record {
  nature = failed.nature;
  failed = failed.failed;
  changed = λ h bytes left. let start = failed.changed h bytes left in (start.0, start.1, follows h start.0 bytes start.1 start.2);
}

-- bytes that stay, and stay again
pub bytes_on : (old mid new : DiskState) → PreservesBytes old mid → PreservesBytes mid new → PreservesBytes old new
bytes_on old mid new first second = record {
  reads = second.reads ∙ first.reads;
  may_leave = λ bytes. (
    (λ left. (first.may_leave bytes).0 ((second.may_leave bytes).0 left)),
    (λ left. (second.may_leave bytes).1 ((first.may_leave bytes).1 left)),
  );
}

-- two facts of what succeeded
pub both_ok : {T E P Q R : Type 0} (result : Result T E) → OnOk result P → OnOk result Q → (P → Q → R) → OnOk result R
both_ok (Ok value) one two join = join one two
both_ok (Err fault) one two join = tt

pub both_if_ok : {T E : Type 0} {P Q R : T → Type 0} (result : Result T E) → IfOk result P → IfOk result Q → ((value : T) → P value → Q value → R value) → IfOk result R
both_if_ok (Ok value) one two join = join value one two
both_if_ok (Err fault) one two join = tt
