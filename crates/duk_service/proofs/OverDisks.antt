-- What is served over the disk of a file.
use Rattle.std.proofs.Common.{Result, Ok, Err, IfErr, OnOk}
use Rattle.duk_service.specs.LogFiles.{DiskKnown}
use Rattle.duk_service.specs.OwnFiles.{IsOwnDisk}
use Rattle.duk_service.specs.Serve.{Serving}
use Rattle.duk_service.specs.ServeLogFiles.{IsNotOverDisk, IsOverDisk}
use Rattle.duk_service.specs.declared.left_records.RecordFormat.{RecordFormat}
use Rattle.duk_service.specs.declared.own_files.OpenFault.{OpenFault}
use Rattle.duk_service.specs.declared.serve_fault.ServeFault.{ServeFault}
use Rattle.duk_service.specs.declared.serve_fault.ServeFault.TheVariants as fault
use Rattle.duk_store.specs.Disk.{DiskMeaning}

pub over : {D V : Type 0} (format : RecordFormat) (meaning : DiskMeaning D) (known : DiskKnown D) (Over : D → Type 0) (disk : D) (ended : Result V ServeFault)
    → IsOwnDisk format meaning known disk → OnOk ended (Over disk) → OnOk ended (IsOverDisk format meaning known Over)
over format meaning known Over disk (Ok done) own is = record { disk = disk; own = own; over = is }
over format meaning known Over disk (Err why) own is = tt

-- a disk that is opened is not one that is not
pub not_over : {D V : Type 0} (format : RecordFormat) (meaning : DiskMeaning D) (known : DiskKnown D) (Over : D → ServeFault → Type 0) (s : Serving) (disk : D)
    (ended : Result V ServeFault) → ((kind : RecordFormat) (why : OpenFault) → Over disk (fault.NotOpened kind why) → ⊥)
    → IsOwnDisk format meaning known disk → IfErr ended (Over disk) → IfErr ended (IsNotOverDisk format meaning known Over s)
not_over format meaning known Over s disk (Ok done) opened own is = tt
not_over format meaning known Over s disk (Err (fault.NotOpened kind why)) opened own is = absurd (opened kind why is)
not_over format meaning known Over s disk (Err (fault.Host kind why)) opened own is = record { disk = disk; own = own; over = is }
not_over format meaning known Over s disk (Err (fault.StoreAndAnswers kind)) opened own is = record { disk = disk; own = own; over = is }
