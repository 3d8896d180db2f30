-- What reading does to a reader (this project's own).
use Rattle.std.specs.Prelude.{◌≡◌, ◌+◌, ℕ, List, ⊤, Option, Some, None}
use Rattle.std.specs.Io.KnownBytes.{Consumes}
use Rattle.duk_io.specs.Known.{Known, Rose, Stayed}

-- these bytes were read, and no read failed
pub record AreBytesRead (old new : Known) (bytes : List ℕ) : Type 0 where
  pub given : Consumes old.contents new.contents bytes
  pub unfailed : Stayed old.failures new.failures

-- these bytes were read, and then a read failed
pub record IsBroken (old new : Known) (bytes : List ℕ) : Type 0 where
  pub given : Consumes old.contents new.contents bytes
  pub failed : Rose old.failures new.failures

-- so many reads were made, where their count is known
abbrev pub AreReadsMade : Option ℕ → Option ℕ → ℕ → Type 0
AreReadsMade None new count = ⊤
AreReadsMade (Some before) new count = new ≡ Some (before + count)
