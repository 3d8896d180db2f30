-- What `run` answers over files (this project's own, over what the script of a file does). Where
-- files make nothing known, what they hold may be any bytes.
use Rattle.std.specs.Prelude.{◌≡◌, ◌⊎◌, ℕ, Bool, List}
use Rattle.duk_config.specs.ConfigFile.{longest_file}
use Rattle.duk_config.specs.Settings.{Settings}
use Rattle.duk_config.specs.declared.fault.ScriptFault.{ScriptFault}
use Rattle.duk_config.specs.declared.fault.ScriptFault.TheVariants as script_fault
use Rattle.duk_io.specs.Known.{Known}
use Rattle.duk_io.specs.Sink.{IsUntouched}
use Rattle.duk_program.specs.Configured.{IsConfigRefused, IsConfigured}
use Rattle.duk_program.specs.Run.{HasNotPlayed, HasPlayed, IsDoneOver, IsRefusedOver}
use Rattle.duk_program.specs.declared.fault.Fault.{Fault}
use Rattle.duk_program.specs.declared.fault.Fault.TheVariants as fault
use Rattle.duk_service.specs.Files.{FileKnown, IsFileRead, IsFileUnread}
use Rattle.duk_service.specs.declared.file_system.FileFault.{FileFault}
use Rattle.duk_service.specs.declared.file_system.FileFault.TheVariants as file

-- what the files of a configuration and of a script hold, whether that is played over a journal, and
-- what the writer of lines makes known before and after
pub record FileRun : Type 0 where
  pub config_held : FileKnown
  pub script_held : FileKnown
  pub journal : Bool
  pub output_before : Known
  pub output_after : Known

abbrev pub file_run : FileKnown → FileKnown → Bool → Known → Known → FileRun
file_run config_held script_held journal output_before output_after = record {
  config_held = config_held;
  script_held = script_held;
  journal = journal;
  output_before = output_before;
  output_after = output_after;
}

-- the script of its file was played to its end under the configuration of its file
pub record HasRunFiles (r : FileRun) : Type 0 where
  pub config : Settings
  pub configured : IsConfigured r.config_held config
  pub script : List ℕ
  pub script_read : IsFileRead r.script_held longest_file script
  pub run : HasPlayed (IsDoneOver r.journal config script r.output_before) r.output_after

-- the fault where the file of a script is not read
abbrev pub script_fault_of : FileFault → ScriptFault
script_fault_of file.CannotRead = script_fault.CannotRead
script_fault_of file.TooLong = script_fault.TooLong
script_fault_of file.NoMemory = script_fault.NoMemory

-- the configuration's file states none, and nothing is written
pub record HasNoRunConfig (r : FileRun) (why : Fault) : Type 0 where
  pub refused : IsConfigRefused r.config_held why
  pub quiet : IsUntouched r.output_before r.output_after

-- there is a configuration, the script's file is not read, and nothing is written
pub record HasUnreadScript (r : FileRun) (why : Fault) : Type 0 where
  pub config : Settings
  pub configured : IsConfigured r.config_held config
  pub cause : FileFault
  pub unread : IsFileUnread r.script_held longest_file cause
  pub why_is : why ≡ fault.Script (script_fault_of cause)
  pub quiet : IsUntouched r.output_before r.output_after

-- both files are read, and the script is refused under the configuration, or what it wrote could
-- not be handed on
pub record HasFailedRun (r : FileRun) (why : Fault) : Type 0 where
  pub config : Settings
  pub configured : IsConfigured r.config_held config
  pub script : List ℕ
  pub script_read : IsFileRead r.script_held longest_file script
  pub cause : ScriptFault
  pub why_is : why ≡ fault.Script cause
  pub run : HasNotPlayed (IsDoneOver r.journal config script r.output_before)
      (λ cause output'. IsRefusedOver r.journal config script r.output_before output' cause) cause
      r.output_after

-- why it was not: the first of these
abbrev pub HasNotRunFiles : FileRun → Fault → Type 0
HasNotRunFiles r why = HasNoRunConfig r why ⊎ HasUnreadScript r why ⊎ HasFailedRun r why
