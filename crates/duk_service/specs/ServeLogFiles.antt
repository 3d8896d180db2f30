-- What `serve` answers over the file of a log (this project's own).
use Rattle.std.specs.Prelude.{◌≡◌}
use Rattle.duk_config.specs.NewHost.{new_host_of}
use Rattle.duk_config.specs.Settings.{Settings}
use Rattle.duk_service.specs.LogFiles.{DiskKnown}
use Rattle.duk_service.specs.OwnFiles.{IsNoOwnDisk, IsOwnDisk}
use Rattle.duk_service.specs.Serve.{HasNotServedLog, HasNothingServed, HasServedLog, Serving, over_log}
use Rattle.duk_service.specs.declared.left_records.RecordFormat.{RecordFormat}
use Rattle.duk_service.specs.declared.left_records.RecordFormat.TheVariants.{Log}
use Rattle.duk_service.specs.declared.serve_fault.ServeFault.{ServeFault}
use Rattle.duk_service.specs.declared.serve_fault.ServeFault.TheVariants as fault
use Rattle.duk_store.specs.Disk.{DiskMeaning}
use Rattle.duk_store.specs.DiskLog.{disk_log_meaning, new_disk_log}

-- the disk of a file, which a log or a journal left, is opened, and this is what is served over it
pub record IsOverDisk (format : RecordFormat) {D : Type 0} (meaning : DiskMeaning D)
    (known : DiskKnown D) (Over : D → Type 0) : Type 0 where
  pub disk : D
  pub own : IsOwnDisk format meaning known disk
  pub over : Over disk

-- why the input is not served to its end over the disk of a file: it is not opened, and then nothing
-- is answered or written, or it is, and this says why
abbrev pub IsNotOverDisk : RecordFormat → {D : Type 0} → DiskMeaning D → DiskKnown D
    → (D → ServeFault → Type 0) → Serving → ServeFault → Type 0
IsNotOverDisk format meaning known Over s (fault.NotOpened kind why) =
    (kind ≡ format) × IsNoOwnDisk format meaning known why × HasNothingServed s
IsNotOverDisk format meaning known Over s why =
    IsOverDisk format meaning known (λ disk. Over disk why)

-- a host of the configuration over the log of a file served to the end of the input
abbrev pub IsServedOnDisk : {D : Type 0} → DiskMeaning D → DiskKnown D → Settings → Serving → Type 0
IsServedOnDisk meaning known config s = IsOverDisk Log meaning known
    (λ disk. HasServedLog (over_log (disk_log_meaning meaning))
    (new_host_of config (new_disk_log disk)) s)

-- why it did not
abbrev pub IsUnservedOnDisk : {D : Type 0} → DiskMeaning D → DiskKnown D → Settings → Serving
    → ServeFault → Type 0
IsUnservedOnDisk meaning known config s = IsNotOverDisk Log meaning known
    (λ disk. HasNotServedLog (over_log (disk_log_meaning meaning))
    (new_host_of config (new_disk_log disk)) s) s
