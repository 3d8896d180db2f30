-- The lines of the faults of a service (this project's own).
use Rattle.std.specs.Prelude.{ℕ, List, ◌++◌, codes}
use Rattle.duk_host.specs.declared.fault.HostFault.{HostFault}
use Rattle.duk_host.specs.declared.fault.HostFault.TheVariants as why
use Rattle.duk_io.specs.Known.{Known}
use Rattle.duk_io.specs.Sink.{IsTried}
use Rattle.duk_service.specs.Serve.{serve_line}
use Rattle.duk_service.specs.declared.left_records.RecordFormat.{RecordFormat}
use Rattle.duk_service.specs.declared.left_records.RecordFormat.TheVariants.{Journal, Ledger, Log}
use Rattle.duk_service.specs.declared.own_files.OpenFault.{OpenFault}
use Rattle.duk_service.specs.declared.own_files.OpenFault.TheVariants.{OldVersion, Unopened}
use Rattle.duk_service.specs.declared.serve_fault.ServeFault.{ServeFault}
use Rattle.duk_service.specs.declared.serve_fault.ServeFault.TheVariants as fault

-- the line where a log, a journal or a ledger failed
abbrev pub store_line : RecordFormat → List ℕ
store_line Log = codes "log: failed\n"
store_line Journal = codes "journal: failed\n"
store_line Ledger = codes "ledger: failed\n"

-- the line where the file of one is not opened: one that none of them leaves is as a damaged one, and
-- one that a journal or a ledger of version 1 leaves is to be copied
abbrev pub open_line : RecordFormat → OpenFault → List ℕ
open_line Log Unopened = codes "log: cannot open\n"
open_line Journal Unopened = codes "journal: cannot open\n"
open_line Journal OldVersion = codes "journal: version 1, use copy-journal\n"
open_line Ledger Unopened = codes "ledger: cannot open\n"
open_line Ledger OldVersion = codes "ledger: version 1, use copy-ledger\n"
open_line format _ = store_line format

-- the line of the fault of a host over one
abbrev pub host_line : RecordFormat → HostFault → List ℕ
host_line Log cause = serve_line cause
host_line Journal (why.Store cause) = store_line Journal
host_line Journal why.Stopped = store_line Journal
host_line Journal cause = serve_line cause
host_line Ledger (why.Store cause) = store_line Ledger
host_line Ledger why.Stopped = store_line Ledger
host_line Ledger cause = serve_line cause

-- the line of a fault, or both lines of two
abbrev pub serve_fault_line : ServeFault → List ℕ
serve_fault_line (fault.NotOpened format cause) = open_line format cause
serve_fault_line (fault.Host format cause) = host_line format cause
serve_fault_line (fault.StoreAndAnswers format) = store_line format ++ serve_line why.Write

-- a service ends with a fault, and its answers are handed on, or the fault tells that they are lost
abbrev pub IsLossIn : Type 0 → ServeFault → Type 0
IsLossIn HandedOn (fault.Host format why.Write) = Unit {0}
IsLossIn HandedOn (fault.StoreAndAnswers format) = Unit {0}
IsLossIn HandedOn _ = HandedOn

-- a service ended with a fault, for which this is the cause, and the line of the fault was written
pub record HasReported (NotDone : ServeFault → Type 0) (HandedOn : Type 0) (old new : Known)
    : Type 0 where
  pub why : ServeFault
  pub not_done : NotDone why
  pub handed_on : IsLossIn HandedOn why
  pub line : IsTried old new (serve_fault_line why)
