-- What a medium means, as a file under a disk: this project's own.
use Rattle.std.specs.Prelude.{◌≡◌, ◌≤◌, ◌+◌, ℕ, List, [], ⊤, length}
use Rattle.duk_store.specs.Disk.{DiskState}

-- what may be said of a medium
pub record MediumState : Type 1 where
  -- it reports which bytes it holds, and keeps to the model of a disk
  pub honest : Type 0
  -- no call of it fails
  pub calm : Type 0
  -- a write or a sync of it has failed since it was opened
  pub failed : Type 0
  -- the bytes that a read gives
  pub reads : List ℕ
  -- the bytes that a stop could leave
  pub may_leave : List ℕ → Type 0

-- a medium that reports nothing: nothing is known of its bytes, and each call of it may fail
abbrev pub unknown_medium : MediumState
unknown_medium = record { honest = ⊥; calm = ⊥; failed = ⊥; reads = []; may_leave = λ bytes. ⊥ }

-- a medium as a disk that is never armed and counts no failure
abbrev pub as_disk : MediumState → DiskState
as_disk medium = record {
  honest = medium.honest;
  calm = medium.calm;
  disarmed = ⊤;
  size = length medium.reads;
  failures = 0;
  reads = medium.reads;
  may_leave = medium.may_leave;
}

-- a range lies inside a medium that reports its bytes
abbrev pub IsInside : MediumState → ℕ → ℕ → Type 0
IsInside medium at count = medium.honest → at + count ≤ length medium.reads

-- these are all bytes of a medium that reports them
abbrev pub IsSizeOf : ℕ → MediumState → Type 0
IsSizeOf size medium = medium.honest → length medium.reads ≡ size
