-- Reading all that a reader has left (this project's own).
use Rattle.std.specs.Prelude.{◌<◌, ◌≤◌, ℕ, List, length}
use Rattle.std.specs.Io.KnownBytes.{IsAtEnd}
use Rattle.duk_config.specs.ConfigFile.{longest_file}
use Rattle.duk_config.specs.declared.fault.ScriptFault.{ScriptFault}
use Rattle.duk_config.specs.declared.fault.ScriptFault.TheVariants as fault
use Rattle.duk_io.specs.Known.{Known}
use Rattle.duk_io.specs.Source.{AreBytesRead, IsBroken}

-- these bytes were read, and they are all that was left
pub record IsReadWhole (old new : Known) (bytes : List ℕ) : Type 0 where
  pub read : AreBytesRead old new bytes
  pub end : IsAtEnd new.contents
  pub fits : length bytes ≤ longest_file

-- more bytes were read than a file may have
pub record IsReadTooFar (old new : Known) : Type 0 where
  pub bytes : List ℕ
  pub read : AreBytesRead old new bytes
  pub too_long : longest_file < length bytes

-- why not all is read: a read failed, or there is too much
abbrev pub ReadRefused : Known → Known → ScriptFault → Type 0
ReadRefused old new fault.CannotRead = (bytes : List ℕ) × IsBroken old new bytes
ReadRefused old new fault.TooLong = IsReadTooFar old new
ReadRefused old new fault.NoMemory = Unit {0}
ReadRefused old new _ = ⊥
