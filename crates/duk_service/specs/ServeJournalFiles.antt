-- What `serve` answers over the file of a journal (this project's own).
use Rattle.duk_config.specs.Settings.{Settings}
use Rattle.duk_journal.specs.DiskJournal.{disk_journal_meaning, new_disk_journal}
use Rattle.duk_service.specs.LogFiles.{DiskKnown}
use Rattle.duk_service.specs.Serve.{Serving}
use Rattle.duk_service.specs.ServeJournal.{HasNotServedJournal, HasServedJournal, journal_host_of, over_journal}
use Rattle.duk_service.specs.ServeLogFiles.{IsNotOverDisk, IsOverDisk}
use Rattle.duk_service.specs.declared.left_records.RecordFormat.TheVariants.{Journal}
use Rattle.duk_service.specs.declared.serve_fault.ServeFault.{ServeFault}
use Rattle.duk_store.specs.Disk.{DiskMeaning}

-- a host of the configuration over the journal of a file served to the end of the input
abbrev pub IsServedOnJournal : {D : Type 0} → DiskMeaning D → DiskKnown D → Settings → Serving → Type 0
IsServedOnJournal meaning known config s = IsOverDisk Journal meaning known
    (λ disk. HasServedJournal (over_journal (disk_journal_meaning meaning))
    (journal_host_of config (new_disk_journal disk)) s)

-- why it did not
abbrev pub IsUnservedOnJournal : {D : Type 0} → DiskMeaning D → DiskKnown D → Settings → Serving
    → ServeFault → Type 0
IsUnservedOnJournal meaning known config s = IsNotOverDisk Journal meaning known
    (λ disk. HasNotServedJournal (over_journal (disk_journal_meaning meaning))
    (journal_host_of config (new_disk_journal disk)) s) s
