-- What only private functions and proofs say beside `Serve.antt`: this project's own.
use Rattle.std.specs.Prelude.{◌≡◌, ◌⊎◌, false, true, Err, Ok, Result}
use Rattle.duk_commands.specs.HandedOn.{IsFlushLost}
use Rattle.duk_host.specs.declared.fault.HostFault.{HostFault}
use Rattle.duk_host.specs.declared.fault.HostFault.TheVariants as why
use Rattle.duk_io.specs.Known.{Known}
use Rattle.duk_io.specs.Sink.{IsUntouched}
use Rattle.duk_service.specs.Serve.{is_of_store}
use Rattle.duk_service.specs.declared.left_records.RecordFormat.{RecordFormat}
use Rattle.duk_service.specs.declared.serve_fault.ServeFault.{ServeFault}
use Rattle.duk_service.specs.declared.serve_fault.ServeFault.TheVariants as fault

-- a host ended as it did, and its answers are handed on
abbrev pub IsEndAsItDid : RecordFormat → Result (Unit {0}) HostFault → Result (Unit {0}) ServeFault → Type 0
IsEndAsItDid format (Ok done) end = end ≡ Ok tt
IsEndAsItDid format (Err why) end = end ≡ Err (fault.Host format why)

-- its answers are lost: that is told alone, or beside a fault of its store
abbrev pub IsEndInLoss : RecordFormat → Result (Unit {0}) HostFault → Result (Unit {0}) ServeFault → Type 0
IsEndInLoss format (Ok done) end = end ≡ Err (fault.Host format why.Write)
IsEndInLoss format (Err cause) end =
    ((is_of_store cause ≡ true) × (end ≡ Err (fault.StoreAndAnswers format)))
    ⊎ ((is_of_store cause ≡ false) × (end ≡ Err (fault.Host format why.Write)))

-- how a service ends, by how its host did
abbrev pub IsEndOfService : RecordFormat → Result (Unit {0}) HostFault → Result (Unit {0}) ServeFault
    → Known → Known → Type 0
IsEndOfService format ended end old new =
    (IsEndAsItDid format ended end × IsUntouched old new)
    ⊎ (IsEndInLoss format ended end × IsFlushLost old new)
