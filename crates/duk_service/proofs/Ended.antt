-- How a service ends once its answers are handed on, or lost.
use Rattle.std.proofs.Common.{◌≡◌, ◌⊎◌, Result, Ok, Err, IfErr, OnOk, inl, inr, false, true, refl, subst, sym}
use Rattle.duk_commands.specs.HandedOn.{HasHandedOn, HasLost}
use Rattle.duk_host.specs.declared.fault.HostFault.{HostFault}
use Rattle.duk_host.specs.declared.fault.HostFault.TheVariants as why
use Rattle.duk_io.specs.Known.{Known}
use Rattle.duk_service.specs.Serve.{HasNotServed, HasRefused, HasServed, Serving, answered_at, is_of_store}
use Rattle.duk_service.specs.inner.Serve.{IsEndOfService}
use Rattle.duk_service.specs.declared.left_records.RecordFormat.{RecordFormat}
use Rattle.duk_service.specs.declared.serve_fault.ServeFault.{ServeFault}
use Rattle.duk_service.specs.declared.serve_fault.ServeFault.TheVariants as fault

pub served : (format : RecordFormat) (Served : Serving → Type 0) (ended : Result (Unit {0}) HostFault) (end : Result (Unit {0}) ServeFault) (s : Serving) (written : Known)
    → OnOk ended (Served (answered_at s written)) → IsEndOfService format ended end written s.output_after → OnOk end (HasServed Served s)
served format Served ended (Err cause) s written is end = tt
served format Served (Ok done) (Ok all) s written is (inl end) = record { written = written; came = is; kept = end.1 }
served format Served (Err cause) (Ok all) s written is (inl end) = absurd (cc end.0)
served format Served (Ok done) (Ok all) s written is (inr end) = absurd (cc end.0)
served format Served (Err cause) (Ok all) s written is (inr (inl told, lost)) = absurd (cc told.1)
served format Served (Err cause) (Ok all) s written is (inr (inr told, lost)) = absurd (cc told.1)

-- a service that ends with a fault
abbrev ends_with : ServeFault → Result (Unit {0}) ServeFault
ends_with why = Err why

err_same : (one other : ServeFault) → ends_with one ≡ ends_with other → one ≡ other
err_same one other same = cc same

pub not_served : (format : RecordFormat) (Served : Serving → Type 0) (Refused : HostFault → Serving → Type 0) (ended : Result (Unit {0}) HostFault)
    (end : Result (Unit {0}) ServeFault) (s : Serving) (written : Known) → OnOk ended (Served (answered_at s written))
    → IfErr ended (λ cause. Refused cause (answered_at s written)) → IsEndOfService format ended end written s.output_after
    → IfErr end (HasNotServed format Served Refused s)
not_served format Served Refused ended (Ok all) s written is not end = tt
not_served format Served Refused (Ok done) (Err cause) s written is not (inl end) = absurd (cc end.0)
not_served format Served Refused (Err reason) (Err cause) s written is not (inl end) =
    subst (HasNotServed format Served Refused s) (sym (err_same cause (fault.Host format reason) end.0))
    (refl, inl (record { written = written; came = not; kept = end.1 }))
not_served format Served Refused (Ok done) (Err cause) s written is not (inr end) =
    subst (HasNotServed format Served Refused s) (sym (err_same cause (fault.Host format why.Write) end.0))
    (refl, inr (refl, record { written = written; came = inl is; lost = end.1 }))
not_served format Served Refused (Err reason) (Err cause) s written is not (inr (inl told, lost)) =
    subst (HasNotServed format Served Refused s) (sym (err_same cause (fault.StoreAndAnswers format) told.1))
    (refl, record { written = written; came = (reason, told.0, not); lost = lost })
not_served format Served Refused (Err reason) (Err cause) s written is not (inr (inr told, lost)) =
    subst (HasNotServed format Served Refused s) (sym (err_same cause (fault.Host format why.Write) told.1))
    (refl, inr (refl, record { written = written; came = inr (reason, told.0, not); lost = lost }))
