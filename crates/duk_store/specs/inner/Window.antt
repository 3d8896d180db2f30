-- The bytes of a file that were read ahead: this project's own.
use Rattle.std.specs.Prelude.{◌≡◌, ◌≤◌, ◌+◌, ◌-◌, ℕ, List, [], length}
use Rattle.duk_store.specs.Disk.{range_of}
use Rattle.duk_store.specs.Medium.{MediumState}

-- bytes of a file, and the place of the first of them
pub record WindowOf : Type 0 where
  pub start : ℕ
  pub bytes : List ℕ

-- no byte
abbrev pub new_window : WindowOf
new_window = record { start = 0; bytes = [] }

-- the file, where it reports its bytes, has those of the window at their place
pub record Agrees (file : MediumState) (window : WindowOf) : Type 0 where
  pub inside : file.honest → window.start + length window.bytes ≤ length file.reads
  pub same : file.honest
      → window.bytes ≡ range_of window.start (length window.bytes) file.reads

-- these bytes, from this place of the file on, are in the window
pub record Gives (at : ℕ) (bytes : List ℕ) (window : WindowOf) : Type 0 where
  pub behind_start : window.start ≤ at
  pub before_end : at + length bytes ≤ window.start + length window.bytes
  pub given : bytes ≡ range_of (at - window.start) (length bytes) window.bytes
