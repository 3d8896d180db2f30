-- What the end of a file means, to which bytes are appended (this project's own). A stop leaves as
-- many of the appended bytes as it leaves, from the first on.
use Rattle.std.specs.Prelude.{◌≡◌, ◌↔◌, ◌≤◌, ◌++◌, ℕ, List, [], length, take}
use Rattle.duk_store.specs.Disk.{DiskState}

-- what may be said of the end of a file
pub record EndState : Type 1 where
  -- it keeps to this model, so that what is said of its bytes is so
  pub honest : Type 0
  -- no call of it fails
  pub calm : Type 0
  -- all bytes of the file, as a read gives them
  pub reads : List ℕ
  -- all bytes that a stop could leave
  pub may_leave : List ℕ → Type 0

-- one that reports nothing: nothing is known of its bytes, and each call of it may fail
abbrev pub unknown_end : EndState
unknown_end = record { honest = ⊥; calm = ⊥; reads = []; may_leave = λ bytes. ⊥ }

-- what no call changes: honesty stays, and calm does
pub record PreservesEnd (old new : EndState) : Type 0 where
  pub honest : old.honest ↔ new.honest
  pub calm : old.calm → new.calm

-- bytes with the first of these behind them, so many as a stop left
pub record HasSomeOf (more before after : List ℕ) : Type 0 where
  pub count : ℕ
  pub most : count ≤ length more
  pub is : after ≡ before ++ take count more

-- each state that a stop could leave now comes by this change from one that it could leave before
abbrev pub LeavesLonger : (List ℕ → List ℕ → Type 0) → EndState → EndState → Type 0
LeavesLonger change old new =
    old.honest → (bytes : List ℕ) → new.may_leave bytes
    → (before : List ℕ) × old.may_leave before × change before bytes

-- a stop could leave nothing that it could not leave before
abbrev pub LeavesFewer : EndState → EndState → Type 0
LeavesFewer old new = old.honest → (bytes : List ℕ) → new.may_leave bytes → old.may_leave bytes

-- all is synced: a read gives what it gave, and a stop leaves that
pub record IsEndSynced (old new : EndState) : Type 0 where
  pub reads : new.reads ≡ old.reads
  pub leaves : (bytes : List ℕ) → new.may_leave bytes ↔ (bytes ≡ new.reads)

-- it is the end of the file that a disk is over
pub record IsEndOf (disk : DiskState) (end : EndState) : Type 0 where
  pub honest : disk.honest ↔ end.honest
  pub calm : disk.calm → end.calm
  pub reads : disk.honest → end.reads ≡ disk.reads
  pub leaves : disk.honest → (bytes : List ℕ) → end.may_leave bytes ↔ disk.may_leave bytes
