-- The configuration that a file states, and why it states none: this project's own.
use Rattle.std.specs.Prelude.{◌≡◌, ◌<◌, ◌≤◌, ℕ, List, Some, IsUtf8, length}
use Rattle.toml.specs.Data.{Members}
use Rattle.toml.specs.Parse.{parse_document}
use Rattle.duk_config.specs.declared.fault.ScriptFault.{ScriptFault}
use Rattle.duk_config.specs.declared.fault.ScriptFault.TheVariants as fault
use Rattle.duk_config.specs.ConfigFaults.{IsFirstTableFault}
use Rattle.duk_config.specs.ConfigTable.{IsConfigOf}
use Rattle.duk_config.specs.Settings.{Settings}

-- the bytes are a text of TOML, in UTF-8, with this table
pub record IsToml (bytes : List ℕ) (document : Members) : Type 0 where
  pub utf8 : IsUtf8 bytes
  pub table : parse_document bytes ≡ Some document

-- a file is at most so many bytes long
abbrev pub longest_file : ℕ
longest_file = 1048576

-- the file states this configuration
pub record IsConfigFile (bytes : List ℕ) (config : Settings) : Type 0 where
  pub document : Members
  pub fits : length bytes ≤ longest_file
  pub table : IsToml bytes document
  pub config_is : IsConfigOf document config

-- the file is not too long, and this is the first fault of its table
pub record HasTableFault (bytes : List ℕ) (why : ScriptFault) : Type 0 where
  pub document : Members
  pub fits : length bytes ≤ longest_file
  pub table : IsToml bytes document
  pub first : IsFirstTableFault document why

-- the first fault of a file
abbrev pub IsConfigFault : List ℕ → ScriptFault → Type 0
IsConfigFault bytes fault.ConfigTooLong = longest_file < length bytes
IsConfigFault bytes fault.NotToml =
    (length bytes ≤ longest_file) × ((document : Members) → ¬ IsToml bytes document)
IsConfigFault bytes (fault.UnknownKey name) = HasTableFault bytes (fault.UnknownKey name)
IsConfigFault bytes (fault.BadKey key) = HasTableFault bytes (fault.BadKey key)
IsConfigFault bytes (fault.BadEntry key place) = HasTableFault bytes (fault.BadEntry key place)
IsConfigFault bytes fault.NoMemory = length bytes ≤ longest_file
IsConfigFault bytes _ = ⊥
