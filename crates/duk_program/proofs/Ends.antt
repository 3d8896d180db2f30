-- How a command ends whose output is handed on.
use Rattle.std.proofs.Common.{◌≡◌, ◌⊎◌, Result, Ok, Err, IfErr, IfOk, OnOk, inl, inr, refl, subst, sym}
use Rattle.std.specs.Prelude.{IsOk}
use Rattle.duk_commands.specs.HandedOn.{HasFailed, HasHandedOn, IsEndOf}
use Rattle.duk_io.specs.Known.{Known}
use Rattle.duk_io.specs.Sink.{IsUntouched}

abbrev value_of : (V E : Type 0) → V → Result V E
value_of V E value = Ok value

abbrev fault_of : (V E : Type 0) → E → Result V E
fault_of V E why = Err why

pub ok_same : {V E : Type 0} (one other : V) → value_of V E one ≡ value_of V E other → one ≡ other
ok_same one other same = cc same

err_same : {V E : Type 0} (one other : E) → fault_of V E one ≡ fault_of V E other → one ≡ other
err_same one other same = cc same

pub done : {V E : Type 0} (Done : Known → Type 0) (ended : Result V E) (lost : E) (end : Result V E) (old new : Known)
    → OnOk ended (Done old) → IsEndOf ended lost end old new → OnOk end (HasHandedOn Done new)
done Done ended lost (Err why) old new is end = tt
done Done (Ok value) lost (Ok other) old new is (inl end) = record { written = old; came = is; kept = end.1 }
done Done (Err why) lost (Ok other) old new is (inl end) = absurd (cc end.0)
done Done ended lost (Ok other) old new is (inr end) = absurd (cc end.0)

cause : {V E : Type 0} (Done : Known → Type 0) (NotDone : E → Known → Type 0) (ended : Result V E) (old : Known)
    → OnOk ended (Done old) → IfErr ended (λ why. NotDone why old) → Done old ⊎ ((why : E) × NotDone why old)
cause Done NotDone (Ok value) old is not = inl is
cause Done NotDone (Err why) old is not = inr (why, not)

pub failed : {V E : Type 0} (Done : Known → Type 0) (NotDone : E → Known → Type 0) (ended : Result V E) (lost : E) (end : Result V E) (old new : Known)
    → OnOk ended (Done old) → IfErr ended (λ why. NotDone why old) → IsEndOf ended lost end old new
    → IfErr end (λ why. HasFailed Done NotDone lost why new)
failed Done NotDone ended lost (Ok value) old new is not end = tt
failed Done NotDone (Ok value) lost (Err why) old new is not (inl end) = absurd (cc end.0)
failed {V} Done NotDone (Err reason) lost (Err why) old new is not (inl end) =
    inl (record { written = old; came = subst (λ it. NotDone it old) (sym (err_same {V = V} why reason end.0)) not; kept = end.1 })
failed {V} Done NotDone ended lost (Err why) old new is not (inr end) =
    inr (err_same {V = V} why lost end.0, record { written = old; came = cause Done NotDone ended old is not; lost = end.1 })

-- the value with which a command ended
pub value : {V E : Type 0} (Done : V → Known → Type 0) (ended : Result V E) (lost : E) (end : V) (old new : Known)
    → IfOk ended (λ it. Done it old) → IsEndOf ended lost (Ok end) old new → Done end old × IsUntouched old new
value {E} Done (Ok it) lost end old new is (inl ends) = (subst (λ value. Done value old) (sym (ok_same {E = E} end it ends.0)) is, ends.1)
value Done (Err why) lost end old new is (inl ends) = absurd (cc ends.0)
value Done ended lost end old new is (inr ends) = absurd (cc ends.0)

-- what holds where a command is done
pub on_ok : {V E : Type 0} (Done : Type 0) (ended : Result V E) → (IsOk ended → Done) → OnOk ended Done
on_ok Done (Ok value) is = is refl
on_ok Done (Err why) is = tt
