-- A body put in the place of another, step by step.
use Rattle.std.proofs.Common.{◌≡◌, inr, ℕ, ◌<◌, ◌^◌, List, sym, subst}
use Rattle.duk_store.specs.Disk.{DiskState}
use Rattle.duk_store.specs.SlotCell.{IsReplaced}
use Rattle.duk_store.specs.inner.SlotCell.{IsReadyFor, KeepsOldOrNew, ReplaceFailed}
use Rattle.duk_store.specs.SlotFormat.{HoldsAlone, IsOpen, other_than, sequence_of, slot_at}
use Rattle.duk_store.specs.inner.SlotSteps.{ChangesAt, IsEmptied, IsFilled, IsPartlyEmptied, IsPartlyFilled, IsStepDone, IsStepFailed}
use Rattle.duk_store.specs.declared.fault.StoreFault.{StoreFault}
use Rattle.duk_store.specs.declared.slot_format.Place.{Place}
use Rattle.duk_store.proofs.StepsInTurn.{done_then, done_then_failed, done_where, failed_where}
use Rattle.duk_store.proofs.WhatIsKept.{Leads, emptied_alone, filled_leads, torn_empty, torn_fill}

module _ (place : Place) (sequence : ℕ) (body : List ℕ) (fits : sequence < 2 ^ 64) (old : DiskState) (ready : old.honest → IsReadyFor place sequence old) where
  was_closed : old.honest → (a : List ℕ) → old.may_leave a → ¬ IsOpen (slot_at place a)
  was_closed h a left = subst (λ bytes. ¬ IsOpen (slot_at place bytes)) (sym (((ready h).leaves a).0 left)) (ready h).closed

  was_older : old.honest → (a : List ℕ) → old.may_leave a → sequence_of (slot_at (other_than place) a) < sequence
  was_older h a left = subst (λ bytes. sequence_of (slot_at (other_than place) bytes) < sequence) (sym (((ready h).leaves a).0 left)) (ready h).older

  pub fill_failed : (new : DiskState) (fault : StoreFault) → IsStepFailed (ChangesAt place (IsPartlyFilled sequence body)) old new fault → ReplaceFailed body old new fault
  fill_failed new fault failed =
      let step = failed_where _ (KeepsOldOrNew body) old new fault (λ h a b left changes. torn_fill place sequence body fits a b (was_closed h a left) (was_older h a left) changes) failed in
      record { nature = step.nature; failed = step.failed; changed = step.changed }

  leads_then : (mid : DiskState) → IsStepDone (ChangesAt place (IsFilled sequence body)) old mid → IsStepDone (λ before after. Leads place sequence body after) old mid
  leads_then mid done =
      done_where _ (λ before after. Leads place sequence body after) old mid (λ h a b left changes. filled_leads place sequence body fits a b (was_closed h a left) (was_older h a left) changes) done

  module _ (mid : DiskState) (done : IsStepDone (ChangesAt place (IsFilled sequence body)) old mid) (beside : Place) (beside_is : beside ≡ other_than place) (new : DiskState) where
    pub empty_failed : (fault : StoreFault) → IsStepFailed (ChangesAt beside IsPartlyEmptied) mid new fault → ReplaceFailed body old new fault
    empty_failed fault failed =
        let step = done_then_failed _ _ (KeepsOldOrNew body) old mid new fault (leads_then mid done) failed
        (λ a b d leads changes. inr (torn_empty place sequence body b d leads (subst (λ at. ChangesAt at IsPartlyEmptied b d) beside_is changes))) in
        record { nature = step.nature; failed = step.failed; changed = step.changed }

    pub replaced : IsStepDone (ChangesAt beside IsEmptied) mid new → IsReplaced place sequence body old new
    replaced emptied =
        let step = done_then _ _ (λ before after. HoldsAlone place sequence body after) old mid new (leads_then mid done) emptied
        (λ a b d leads changes. emptied_alone place sequence body b d leads (subst (λ at. ChangesAt at IsEmptied b d) beside_is changes)) in
        record { nature = step.nature; no_failure = step.no_failure; holds = λ h. (step.leaves h, (step.changed h).2) }
