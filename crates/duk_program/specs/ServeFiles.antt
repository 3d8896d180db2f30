-- What `serve` answers over files (this project's own).
use Rattle.std.specs.Prelude.{◌≡◌, ◌⊎◌, Option, Some, None, codes, List, ℕ}
use Rattle.duk_arguments.specs.Request.{Written, value_in}
use Rattle.duk_config.specs.NewHost.{new_host_of}
use Rattle.duk_config.specs.Settings.{Settings}
use Rattle.duk_program.specs.Configured.{IsConfigRefused, IsConfigured}
use Rattle.duk_program.specs.declared.fault.Fault.{Fault}
use Rattle.duk_program.specs.declared.fault.Fault.TheVariants as fault
use Rattle.duk_service.specs.Files.{FileKnown}
use Rattle.duk_service.specs.LogFiles.{DiskKnown}
use Rattle.duk_service.specs.Serve.{HasNotServedLog, HasServedLog, HasNothingServed, Serving, over_log}
use Rattle.duk_service.specs.ServeJournalFiles.{IsServedOnJournal, IsUnservedOnJournal}
use Rattle.duk_service.specs.ServeLogFiles.{IsServedOnDisk, IsUnservedOnDisk}
use Rattle.duk_service.specs.declared.serve_fault.ServeFault.{ServeFault}
use Rattle.duk_store.specs.Disk.{DiskMeaning}
use Rattle.duk_store.specs.MemoryLog.{memory_log_meaning, new_log}

-- where the used numbers are kept: in memory, or in a log or a journal, of whose disk this is known
pub data KeptKnown (D : Type 0) : Type 0 where
  in_memory : KeptKnown D
  in_log : DiskKnown D → KeptKnown D
  in_journal : DiskKnown D → KeptKnown D

-- the same, by the paths of a log and of a journal, where there are any
abbrev pub kept_by : {D : Type 0} → (List ℕ → DiskKnown D) → Option (List ℕ) → Option (List ℕ) → KeptKnown D
kept_by disks (Some log) journal = in_log (disks log)
kept_by disks None (Some journal) = in_journal (disks journal)
kept_by disks None None = in_memory

-- where a request keeps them
abbrev pub kept_in : {D : Type 0} → (List ℕ → DiskKnown D) → Written → KeptKnown D
kept_in disks asked =
    kept_by disks (value_in (codes "log") asked) (value_in (codes "journal") asked)

-- what the file of a configuration holds, where the used numbers are kept, and what the reader of
-- frames and the writer of answers make known
pub record FileService (D : Type 0) : Type 0 where
  pub config_held : FileKnown
  pub kept : KeptKnown D
  pub streams : Serving

abbrev pub file_service : {D : Type 0} → FileKnown → KeptKnown D → Serving → FileService D
file_service config_held kept streams =
    record { config_held = config_held; kept = kept; streams = streams }

-- the host of a configuration served to the end of the input, over the log or the journal of the
-- file that is given, or, where none is, over a log in memory with the room that the configuration
-- says
abbrev pub IsServedOver : {D : Type 0} → DiskMeaning D → KeptKnown D → Settings → Serving → Type 0
IsServedOver meaning in_memory config s =
    HasServedLog (over_log memory_log_meaning) (new_host_of config (new_log config.log)) s
IsServedOver meaning (in_log known) config s = IsServedOnDisk meaning known config s
IsServedOver meaning (in_journal known) config s = IsServedOnJournal meaning known config s

-- why it did not, over that log, over that journal, or over a log in memory
abbrev pub IsUnservedOver : {D : Type 0} → DiskMeaning D → KeptKnown D → Settings → Serving
    → ServeFault → Type 0
IsUnservedOver meaning in_memory config s =
    HasNotServedLog (over_log memory_log_meaning) (new_host_of config (new_log config.log)) s
IsUnservedOver meaning (in_log known) config s = IsUnservedOnDisk meaning known config s
IsUnservedOver meaning (in_journal known) config s = IsUnservedOnJournal meaning known config s

-- the configuration's file states one, and a host of it served to the end of the input
pub record HasServedFiles {D : Type 0} (meaning : DiskMeaning D) (r : FileService D)
    : Type 0 where
  pub config : Settings
  pub configured : IsConfigured r.config_held config
  pub served : IsServedOver meaning r.kept config r.streams

-- the configuration's file states none, and nothing is read or written
pub record HasNoServiceConfig {D : Type 0} (r : FileService D) (why : Fault) : Type 0 where
  pub refused : IsConfigRefused r.config_held why
  pub idle : HasNothingServed r.streams

-- the configuration's file states one, and the input is not served to its end
pub record HasFailedService {D : Type 0} (meaning : DiskMeaning D) (r : FileService D) (why : Fault)
    : Type 0 where
  pub config : Settings
  pub configured : IsConfigured r.config_held config
  pub cause : ServeFault
  pub why_is : why ≡ fault.Serve cause
  pub failed : IsUnservedOver meaning r.kept config r.streams cause

-- why the input is not served to its end: the first of these
abbrev pub HasNotServedFiles : {D : Type 0} → DiskMeaning D → FileService D → Fault → Type 0
HasNotServedFiles meaning r why = HasNoServiceConfig r why ⊎ HasFailedService meaning r why
