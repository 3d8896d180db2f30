-- The configuration that a file states, or why it states none (this project's own). Where files
-- make nothing known, what they hold may be any bytes.
use Rattle.std.specs.Prelude.{◌≡◌, ◌⊎◌, ℕ, List}
use Rattle.duk_config.specs.ConfigFile.{IsConfigFault, IsConfigFile, longest_file}
use Rattle.duk_config.specs.Settings.{Settings}
use Rattle.duk_config.specs.declared.fault.ScriptFault.{ScriptFault}
use Rattle.duk_config.specs.declared.fault.ScriptFault.TheVariants as script_fault
use Rattle.duk_program.specs.declared.fault.Fault.{Fault}
use Rattle.duk_program.specs.declared.fault.Fault.TheVariants as fault
use Rattle.duk_service.specs.Files.{FileKnown, IsFileUnread, HasBytes}
use Rattle.duk_service.specs.declared.file_system.FileFault.{FileFault}
use Rattle.duk_service.specs.declared.file_system.FileFault.TheVariants as file

-- the file states this configuration
pub record IsConfigured (held : FileKnown) (config : Settings) : Type 0 where
  pub bytes : List ℕ
  pub bytes_are : HasBytes held bytes
  pub states : IsConfigFile bytes config

-- the fault where the file of a configuration is not read
abbrev pub config_fault : FileFault → Fault
config_fault file.CannotRead = fault.ConfigUnread
config_fault file.TooLong = fault.Script script_fault.ConfigTooLong
config_fault file.NoMemory = fault.Script script_fault.NoMemory

-- the file is not read
pub record IsConfigUnread (held : FileKnown) (why : Fault) : Type 0 where
  pub cause : FileFault
  pub unread : IsFileUnread held longest_file cause
  pub why_is : why ≡ config_fault cause

-- the file is read, and refused
pub record IsConfigBad (held : FileKnown) (why : Fault) : Type 0 where
  pub bytes : List ℕ
  pub bytes_are : HasBytes held bytes
  pub cause : ScriptFault
  pub refused : IsConfigFault bytes cause
  pub why_is : why ≡ fault.Script cause

-- why the file states no configuration: the first of these
abbrev pub IsConfigRefused : FileKnown → Fault → Type 0
IsConfigRefused held why = IsConfigUnread held why ⊎ IsConfigBad held why
