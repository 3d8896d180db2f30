-- The meaning of a cell on a disk, from what its disk may leave.
use Rattle.std.proofs.Common.{◌≡◌, ◌≢◌, ◌↔◌, inl, inr, ℕ, ◌+◌, ◌-◌, ◌<◌, ◌^◌, true, false, List, length, get_or, Some, None, Result, OnOk, IfOk, IfErr, replicate, refl, sym, ◌∙◌, ap, subst, arith}
use Rattle.std.proofs.lemmas.Bool.{false≢true}
use Rattle.std.proofs.lemmas.Grind.{same_number_lists}
use Rattle.std.proofs.lemmas.List.{get_or-replicate}
use Rattle.std.proofs.lemmas.Result.{IfErr-weaker, on_ok_weaker}
use Rattle.duk_store.specs.MemoryDisk.{memory_disk_state, new_disk}
use Rattle.duk_store.specs.Cell.{IsPut, Kept, OldOrNew, PutFailed}
use Rattle.duk_store.specs.Disk.{DiskMeaning, DiskState, PreservesDisk, LeavesChanged, LeavesReads, ReadsMayStay, StaysButArmed}
use Rattle.duk_store.specs.Restart.{RestartFailed, Restarted}
use Rattle.duk_store.specs.SlotCell.{IsBlankDisk, IsZeroDisk, LeavesOneBody, RunsWithBody, IsCellReplaced, IsInItsSlot, IsNextOf, IsPutNext, IsReplaced, IsRestored, IsSoundDisk, IsWorn, MayFind, SlotCellOf, StandsAlone, is_running, slot_cell_meaning, slot_cell_state}
use Rattle.duk_store.specs.inner.SlotCell.{CellReplaceFailed, IsCellBroughtUp, IsDamagedDisk, IsReadyFor, Knows, RecoveryFailed, ReplaceFailed}
use Rattle.duk_store.specs.SlotFormat.{HoldsAlone, IsOpen, KeepsBody, cell_disk_size, other_than, sequence_of, slot_at}
use Rattle.duk_store.specs.inner.SlotFormat.{IsEmpty}
use Rattle.duk_store.specs.StoreState.{FindsSome, FindsWithin, IsNew, KeepsNothing, StaysButCalm}
use Rattle.duk_store.specs.declared.fault.StoreFault.{StoreFault}
use Rattle.duk_store.specs.declared.fault.StoreFault.TheVariants as fault
use Rattle.duk_store.specs.declared.slot_format.Place.{Place}
use Rattle.duk_store.specs.declared.slot_format.Place.TheVariants.{First, Second}
use Rattle.duk_store.specs.declared.slot_format.SlotState.{SlotState}
use Rattle.duk_store.specs.declared.slot_format.SlotState.TheVariants as state
use Rattle.duk_store.proofs.WhatIsKept.{alone_keeps, kept_once, other_twice}

-- a stop that leaves one image leaves what that keeps
pub finds_only : (disk : DiskState) (image : List ℕ) (kept : Kept) → ((bytes : List ℕ) → disk.may_leave bytes ↔ (bytes ≡ image)) → KeepsBody image kept → (other : Kept) → MayFind disk other ↔ (other ≡ kept)
finds_only disk image kept leaves keeps other = (
  (λ found. kept_once image other kept (subst (λ bytes. KeepsBody bytes other) ((leaves found.0).0 found.1) found.2) keeps),
  (λ is. (image, (leaves image).1 refl, subst (λ kept. KeepsBody image kept) (sym is) keeps)),
)

sound_alone : (disk : DiskState) (image : List ℕ) (kept : Kept) → disk.size ≡ cell_disk_size → ((bytes : List ℕ) → disk.may_leave bytes ↔ (bytes ≡ image)) → KeepsBody image kept → IsSoundDisk disk
sound_alone disk image kept size leaves keeps = record { size = size; each_keeps = λ bytes left. (kept, subst (λ bytes. KeepsBody bytes kept) (sym ((leaves bytes).0 left)) keeps) }

-- zeros keep nothing
zeros_keep : KeepsBody (replicate 1024 0) None
zeros_keep First is_open = omega (arith, is_open)
zeros_keep Second is_open = omega (arith, is_open)

pub zero_cell_is : (disk : DiskState) → IsZeroDisk disk → KeepsNothing (slot_cell_state disk state.Stopped) None
zero_cell_is disk zero = record {
  sound = sound_alone disk (replicate 1024 0) None zero.size zero.zeros zeros_keep;
  finds = finds_only disk (replicate 1024 0) None zero.zeros zeros_keep;
}

pub new_cell_is : (disk : DiskState) → IsBlankDisk disk → IsNew (slot_cell_state disk state.Stopped) None
new_cell_is disk blank = record {
  honest = blank.honest;
  sound = (zero_cell_is disk blank.zero).sound;
  calm = blank.calm;
  stopped = refl;
  finds = (zero_cell_is disk blank.zero).finds;
}

-- what a restart does
module _ (old new : DiskState) (was : SlotState) (restored : LeavesChanged IsRestored old new) where
  sound_stays : PreservesDisk old new → old.honest → IsSoundDisk old → IsSoundDisk new
  sound_stays nature h sound = record {
    size = nature.size ∙ sound.size;
    each_keeps = λ bytes left.
        let start = restored h bytes left in
        let kept = sound.each_keeps start.0 start.1 in
        (kept.0, (start.2.keeps kept.0).0 kept.1);
  }

  pub is_restarted : (now : SlotState) (kept : Kept) → IsCellBroughtUp old new now kept → Restarted (slot_cell_state old was) (slot_cell_state new now) kept
  is_restarted now kept up = record {
    settles = record {
      nature = record { honest = up.nature.honest; sound = sound_stays up.nature; calm = up.nature.calm };
      no_failure = up.no_failure;
      runs = up.runs;
      finds = λ h. let keeps = up.keeps h in finds_only new new.reads kept keeps.0 keeps.1;
    };
    was_found = up.found;
  }

  within : old.honest → FindsWithin (slot_cell_state new state.Stopped) (MayFind old)
  within h value found =
      let start = restored h found.0 found.1 in
      (start.0, start.1, (start.2.keeps value).1 found.2)

  some_of : ReadsMayStay new → PreservesDisk old new → old.honest → IsSoundDisk old → FindsSome (slot_cell_state new state.Stopped)
  some_of stays nature h sound =
      let left = stays (nature.honest.0 h) in
      let kept = (sound_stays nature h sound).each_keeps new.reads left in
      (kept.0, (new.reads, left, kept.1))

  unsound : IsSoundDisk old → IsDamagedDisk old → ⊥
  unsound sound (inl size) = size sound.size
  unsound sound (inr bad) = let kept = sound.each_keeps bad.0 bad.1 in bad.2 kept.0 kept.1

  pub restart_failed : ReadsMayStay new → (why : StoreFault) → RecoveryFailed old new why → RestartFailed (slot_cell_state old was) (slot_cell_state new state.Stopped) why
  restart_failed stays fault.Device failed = record {
    stops = record {
      nature = record { honest = failed.nature.honest; sound = sound_stays failed.nature; calm = failed.nature.calm };
      quiet = λ calm. absurd (failed.cause.not_calm calm);
      stopped = refl;
      within = within;
      some = some_of stays failed.nature;
    };
    fault_is = failed.cause.failure;
  }
  restart_failed stays fault.Damaged failed = record {
    stops = record {
      nature = record { honest = failed.nature.honest; sound = sound_stays failed.nature; calm = failed.nature.calm };
      quiet = λ calm. failed.cause.no_failure;
      stopped = refl;
      within = within;
      some = some_of stays failed.nature;
    };
    fault_is = record { unsound = λ h sound. unsound sound (failed.cause.damage h); no_failure = failed.cause.no_failure };
  }
  restart_failed stays fault.Stopped failed = absurd failed.cause
  restart_failed stays fault.Worn failed = absurd failed.cause
  restart_failed stays fault.NoMemory failed = absurd failed.cause

-- a disk of which one image is possible, and what that keeps
pub record Standing (disk : DiskState) : Type 0 where
  leaves : LeavesReads disk
  kept : Kept
  keeps : KeepsBody disk.reads kept

-- what a write does
module _ {D : Type 0} (meaning : DiskMeaning D) (old new : SlotCellOf D) (body : List ℕ)
    (runs : is_running old.state ≡ true) (not_worn : ¬ IsWorn old.state) (size : (meaning.state_of old.disk).size ≡ cell_disk_size) (standing : (meaning.state_of old.disk).honest → Standing (meaning.state_of old.disk)) where
  abbrev before : DiskState
  before = meaning.state_of old.disk

  abbrev after : DiskState
  after = meaning.state_of new.disk

  pub is_put : (place : Place) (sequence : ℕ) → IsReplaced place sequence body before after → is_running new.state ≡ true → IsPut (slot_cell_meaning meaning) old new body
  is_put place sequence done runs_on = record {
    was_running = runs;
    not_worn = not_worn;
    settles = record {
      nature = record {
        honest = done.nature.honest;
        sound = λ h sound. let holds = done.holds h in sound_alone after after.reads (Some body) (done.nature.size ∙ size) holds.0 (alone_keeps place sequence body after.reads holds.1);
        calm = done.nature.calm;
      };
      no_failure = done.no_failure;
      runs = runs_on;
      finds = λ h. let holds = done.holds h in finds_only after after.reads (Some body) holds.0 (alone_keeps place sequence body after.reads holds.1);
    };
  }

  pub stands_alone : (place : Place) (sequence : ℕ) → IsReplaced place sequence body before after → StandsAlone after body
  stands_alone place sequence done honest =
      let holds = done.holds (done.nature.honest.1 honest) in (
        finds_only after after.reads (Some body) holds.0 (alone_keeps place sequence body after.reads holds.1),
        record { image = after.reads; leaves = holds.0; place = place; sequence = sequence; alone = holds.1 },
      )

  -- each image that a stop could leave keeps what was kept, or the new body
  each_keeps : (why : StoreFault) → ReplaceFailed body before after why → before.honest → (bytes : List ℕ) → after.may_leave bytes → (kept : Kept) × KeepsBody bytes kept × OldOrNew (slot_cell_state before old.state) body kept
  each_keeps why failed h bytes left =
      let start = failed.changed h bytes left in
      let was = standing h in
      let is : start.0 ≡ before.reads = (was.leaves start.0).0 start.1 in
      elim start.2 [
        | inl stays ↦ (was.kept, stays was.kept (subst (λ bytes. KeepsBody bytes was.kept) (sym is) was.keeps), inl (before.reads, (was.leaves before.reads).1 refl, was.keeps))
        | inr keeps ↦ (Some body, keeps, inr refl)
      ]

  pub put_failed : ReadsMayStay after → new.state ≡ state.Stopped → (why : StoreFault) → ReplaceFailed body before after why → PutFailed (slot_cell_meaning meaning) old new body why
  put_failed stays stopped why failed = subst (λ why. PutFailed (slot_cell_meaning meaning) old new body why) (sym failed.failed.fault_is) (record {
    was_running = runs;
    not_worn = not_worn;
    stops = record {
      nature = record {
        honest = failed.nature.honest;
        sound = sound_then;
        calm = failed.nature.calm;
      };
      quiet = λ calm. absurd (failed.failed.not_calm calm);
      stopped = ap is_running stopped;
      within = λ h value found.
          let kept = each_keeps why failed h found.0 found.1 in
          subst (λ kept. OldOrNew (slot_cell_state before old.state) body kept) (kept_once found.0 kept.0 value kept.1 found.2) kept.2;
      some = λ h sound.
          let left = stays (failed.nature.honest.0 h) in
          let kept = each_keeps why failed h after.reads left in
          (kept.0, (after.reads, left, kept.1));
    };
    failure = failed.failed.failure;
  })
    where
      sound_then : before.honest → IsSoundDisk before → IsSoundDisk after
      sound_then h sound = record {
        size = failed.nature.size ∙ size;
        each_keeps = λ bytes left. let kept = each_keeps why failed h bytes left in (kept.0, kept.1);
      }

-- what arming leaves
module _ (old new : DiskState) (stays : StaysButArmed old new) where
  leaves_still : LeavesReads old → LeavesReads new
  leaves_still leaves bytes = (
    (λ left. (leaves bytes).0 ((stays.bytes.may_leave bytes).0 left) ∙ sym stays.bytes.reads),
    (λ is. (stays.bytes.may_leave bytes).1 ((leaves bytes).1 (is ∙ stays.bytes.reads))),
  )

  pub armed_stays : (was : SlotState) → StaysButCalm (slot_cell_state old was) (slot_cell_state new was)
  armed_stays was = record {
    honest = stays.honest;
    sound = λ h sound. record { size = stays.size ∙ sound.size; each_keeps = λ bytes left. sound.each_keeps bytes ((stays.bytes.may_leave bytes).0 left) };
    no_failure = stays.no_failure;
    running = refl;
    found = λ h value. (
      (λ found. (found.0, (stays.bytes.may_leave found.0).0 found.1, found.2)),
      (λ found. (found.0, (stays.bytes.may_leave found.0).1 found.1, found.2)),
    );
  }

  pub knows_still : (was : SlotState) → Knows old was → Knows new was
  knows_still state.Stopped knows = tt
  knows_still state.Empty knows = (
    stays.size ∙ knows.0,
    λ honest. let holds = knows.1 (stays.honest.1 honest) in (leaves_still holds.0, subst (λ bytes. IsEmpty bytes) (sym stays.bytes.reads) holds.1),
  )
  knows_still (state.Holds place sequence) knows = (
    stays.size ∙ knows.0,
    λ honest.
        let holds = knows.1 (stays.honest.1 honest) in
        (leaves_still holds.0, (holds.1.0, subst (λ bytes. HoldsAlone place sequence holds.1.0 bytes) (sym stays.bytes.reads) holds.1.1)),
  )

-- what is known of the disk of a running cell
pub empty_stands : (disk : DiskState) → Knows disk state.Empty → disk.honest → Standing disk
empty_stands disk knows h = let holds = knows.1 h in record { leaves = holds.0; kept = None; keeps = λ place. (holds.1 place).closed }

pub empty_ready : (disk : DiskState) → Knows disk state.Empty → disk.honest → IsReadyFor First 1 disk
empty_ready disk knows h =
    let holds = knows.1 h in
    record { leaves = holds.0; closed = (holds.1 First).closed; older = rw (holds.1 Second).zeros (omega arith) }

pub body_stands : (disk : DiskState) (place : Place) (sequence : ℕ) → Knows disk (state.Holds place sequence) → disk.honest → Standing disk
body_stands disk place sequence knows h =
    let holds = knows.1 h in
    record { leaves = holds.0; kept = Some holds.1.0; keeps = alone_keeps place sequence holds.1.0 disk.reads holds.1.1 }

pub body_ready : (disk : DiskState) (place beside : Place) (sequence : ℕ) → beside ≡ other_than place → Knows disk (state.Holds place sequence) → disk.honest → IsReadyFor beside (sequence + 1) disk
body_ready disk place beside sequence beside_is knows h =
    let holds = knows.1 h in
    let alone = holds.1.1 in
    let older : sequence_of (slot_at (other_than (other_than place)) disk.reads) < sequence + 1 =
    subst (λ at. sequence_of (slot_at at disk.reads) < sequence + 1) (sym (other_twice place)) (omega (arith, alone.sequence_is)) in
    subst (λ at. IsReadyFor at (sequence + 1) disk) (sym beside_is) (record { leaves = holds.0; closed = alone.other_blank.closed; older = older })

-- a put by a running cell, in the one slot or the other
module _ {D : Type 0} (meaning : DiskMeaning D) (old new : SlotCellOf D) (body : List ℕ) (result : Result (Unit {0}) StoreFault) where
  put_by : (place : Place) (sequence : ℕ) → is_running old.state ≡ true → ¬ IsWorn old.state → (meaning.state_of old.disk).size ≡ cell_disk_size → ((meaning.state_of old.disk).honest → Standing (meaning.state_of old.disk))
      → OnOk result (IsCellReplaced meaning place sequence body old new) → IfOk result (λ _. IsPut (slot_cell_meaning meaning) old new body)
  put_by place sequence runs not_worn size standing done =
      on_ok_weaker result (λ done. is_put meaning old new body runs not_worn size standing place sequence done.disk (ap is_running done.state)) done

  alone_by : (place : Place) (sequence : ℕ) → is_running old.state ≡ true → ¬ IsWorn old.state → (meaning.state_of old.disk).size ≡ cell_disk_size → ((meaning.state_of old.disk).honest → Standing (meaning.state_of old.disk))
      → OnOk result (IsCellReplaced meaning place sequence body old new) → IfOk result (λ _. StandsAlone (meaning.state_of new.disk) body)
  alone_by place sequence runs not_worn size standing done =
      on_ok_weaker result (λ done. stands_alone meaning old new body runs not_worn size standing place sequence done.disk) done

  failed_by : ReadsMayStay (meaning.state_of new.disk) → is_running old.state ≡ true → ¬ IsWorn old.state → (meaning.state_of old.disk).size ≡ cell_disk_size → ((meaning.state_of old.disk).honest → Standing (meaning.state_of old.disk))
      → IfErr result (CellReplaceFailed meaning body old new) → IfErr result (PutFailed (slot_cell_meaning meaning) old new body)
  failed_by stays runs not_worn size standing failed =
      IfErr-weaker result _ _ (λ why failed. put_failed meaning old new body runs not_worn size standing stays failed.state why failed.disk) failed

  -- by a cell that keeps nothing
  module _ (is : old.state ≡ state.Empty) (knows : Knows (meaning.state_of old.disk) old.state) where
    knows_empty : Knows (meaning.state_of old.disk) state.Empty
    knows_empty = subst (λ s. Knows (meaning.state_of old.disk) s) is knows

    runs_empty : is_running old.state ≡ true
    runs_empty = ap is_running is

    fresh : ¬ IsWorn old.state
    fresh worn = subst (λ s. IsWorn s) is worn

    pub empty_put : OnOk result (IsCellReplaced meaning First 1 body old new) → IfOk result (λ _. IsPut (slot_cell_meaning meaning) old new body)
    empty_put done = put_by First 1 runs_empty fresh knows_empty.0 (empty_stands _ knows_empty) done

    pub empty_alone : OnOk result (IsCellReplaced meaning First 1 body old new) → IfOk result (λ _. StandsAlone (meaning.state_of new.disk) body)
    empty_alone done = alone_by First 1 runs_empty fresh knows_empty.0 (empty_stands _ knows_empty) done

    pub empty_put_failed : ReadsMayStay (meaning.state_of new.disk) → IfErr result (CellReplaceFailed meaning body old new) → IfErr result (PutFailed (slot_cell_meaning meaning) old new body)
    empty_put_failed stays failed = failed_by stays runs_empty fresh knows_empty.0 (empty_stands _ knows_empty) failed

    pub empty_next : OnOk result (IsCellReplaced meaning First 1 body old new) → OnOk result (IsPutNext meaning body old new)
    empty_next done =
        on_ok_weaker result (λ done. record { place = First; sequence = 1; is_next = subst (λ s. IsNextOf s First 1) (sym is) (refl, refl); replaced = done }) done

  -- by a cell that keeps a body
  module _ (place : Place) (sequence : ℕ) (is : old.state ≡ state.Holds place sequence) (less : sequence ≢ 2 ^ 64 - 1) (knows : Knows (meaning.state_of old.disk) old.state) where
    knows_body : Knows (meaning.state_of old.disk) (state.Holds place sequence)
    knows_body = subst (λ s. Knows (meaning.state_of old.disk) s) is knows

    runs_body : is_running old.state ≡ true
    runs_body = ap is_running is

    not_last : ¬ IsWorn old.state
    not_last worn = less (subst (λ s. IsWorn s) is worn)

    pub body_put : (target : Place) (next : ℕ) → OnOk result (IsCellReplaced meaning target next body old new) → IfOk result (λ _. IsPut (slot_cell_meaning meaning) old new body)
    body_put target next done = put_by target next runs_body not_last knows_body.0 (body_stands _ place sequence knows_body) done

    pub body_alone : (target : Place) (next : ℕ) → OnOk result (IsCellReplaced meaning target next body old new) → IfOk result (λ _. StandsAlone (meaning.state_of new.disk) body)
    body_alone target next done = alone_by target next runs_body not_last knows_body.0 (body_stands _ place sequence knows_body) done

    pub body_put_failed : ReadsMayStay (meaning.state_of new.disk) → IfErr result (CellReplaceFailed meaning body old new) → IfErr result (PutFailed (slot_cell_meaning meaning) old new body)
    body_put_failed stays failed = failed_by stays runs_body not_last knows_body.0 (body_stands _ place sequence knows_body) failed

    pub body_next : (target : Place) → target ≡ other_than place → OnOk result (IsCellReplaced meaning target (sequence + 1) body old new) → OnOk result (IsPutNext meaning body old new)
    body_next target target_is done =
        on_ok_weaker result (λ done. record { place = target; sequence = sequence + 1; is_next = subst (λ s. IsNextOf s target (sequence + 1)) (sym is) (target_is, refl); replaced = done }) done

-- nothing is kept on an empty disk
not_empty : (disk : DiskState) → Knows disk state.Empty → (body : List ℕ) → MayFind disk (Some body) → disk.honest → ⊥
not_empty disk knows body found h =
    let holds = knows.1 h in
    let is : found.0 ≡ disk.reads = (holds.0 found.0).0 found.1 in
    (holds.1 found.2.0).closed (subst (λ bytes. IsOpen (slot_at found.2.0 bytes)) is found.2.1.is_open)

-- the body of a running cell stands alone on its disk
pub runs_alone : (disk : DiskState) (was : SlotState) → Knows disk was → (body : List ℕ) → RunsWithBody disk was body → StandsAlone disk body
runs_alone disk state.Stopped knows body runs h = absurd (false≢true runs.runs)
runs_alone disk state.Empty knows body runs h = absurd (not_empty disk knows body runs.kept h)
runs_alone disk (state.Holds place sequence) knows body runs h =
    let holds = knows.1 h in
    let kept = holds.1.0 in
    let finds = finds_only disk disk.reads (Some kept) holds.0 (alone_keeps place sequence kept disk.reads holds.1.1) in
    let same = (finds (Some body)).0 runs.kept in
    let is : kept ≡ body = cc in
    subst (λ body. ((other : Kept) → MayFind disk other ↔ (other ≡ Some body)) × LeavesOneBody disk body) is
    (finds, record { image = disk.reads; leaves = holds.0; place = place; sequence = sequence; alone = holds.1.1 })

-- and that in the slot of the cell's state
pub runs_in_its_slot : (disk : DiskState) (was : SlotState) → Knows disk was → (body : List ℕ) → RunsWithBody disk was body → disk.honest → IsInItsSlot disk was body
runs_in_its_slot disk state.Stopped knows body runs h = absurd (false≢true runs.runs)
runs_in_its_slot disk state.Empty knows body runs h = absurd (not_empty disk knows body runs.kept h)
runs_in_its_slot disk (state.Holds place sequence) knows body runs h =
    let holds = knows.1 h in
    let kept = holds.1.0 in
    let finds = finds_only disk disk.reads (Some kept) holds.0 (alone_keeps place sequence kept disk.reads holds.1.1) in
    let same = (finds (Some body)).0 runs.kept in
    let is : kept ≡ body = cc in
    record {
      place = place;
      sequence = sequence;
      state_is = refl;
      alone = λ bytes left. subst (λ bytes. HoldsAlone place sequence body bytes) (sym ((holds.0 bytes).0 left)) (subst (λ body. HoldsAlone place sequence body disk.reads) is holds.1.1);
    }

-- a new disk in memory is blank
pub new_disk_is_blank : IsBlankDisk (memory_disk_state (new_disk 1024))
new_disk_is_blank = record {
  honest = record {
    synced_length = refl;
    wanted_length = refl;
    unsynced_length = refl;
    reads_synced = λ place none. refl;
    wanted_synced = λ place none. refl;
  };
  calm = record { not_armed = refl; no_single_failure = refl };
  zero = record {
    size = refl;
    zeros = λ bytes. (
      (λ could. same_number_lists bytes (replicate 1024 0) could.same_length (λ place less. could.as_synced place (get_or-replicate 1024 place false false (omega (arith, less, could.same_length))))),
      (λ is. record { same_length = ap length is; as_synced = λ place none. ap (λ (l : List ℕ). get_or l place 0) is }),
    );
  };
}
