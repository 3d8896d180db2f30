use Rattle.std.proofs.Common.{Err, IfErr, Ok, OnOk, Result, refl}
use Rattle.duk_commands.specs.KeyArgument.{key_argument}
use Rattle.duk_program.proofs.items.LineCommand.ready.Goals as goal

on_ok : {T E : Type 0} {P Q : Type 0} → (P → Q) → (made : Result T E) → OnOk made P → OnOk made Q
on_ok f (Ok it) holds = f holds
on_ok f (Err why) holds = tt

if_err : {T E : Type 0} {P Q : E → Type 0} → ((why : E) → P why → Q why) → (made : Result T E) → IfErr made P
    → IfErr made Q
if_err f (Ok it) holds = tt
if_err f (Err why) holds = f why holds

pub returns-in-Derive-clause-ready : goal.returns-in-Derive-clause-ready
returns-in-Derive-clause-ready c =
    let items = c.in-Derive.items in
    rw c.in-Derive.is (on_ok (λ ready. (
      key_argument items.bdk items.initial,
      record { written = items.bdk; written_is = refl; key_is = refl },
      ready,
    )) c.ready.result c.ready.ensures.ready)

pub returns-in-Derive-clause-refused : goal.returns-in-Derive-clause-refused
returns-in-Derive-clause-refused c =
    let items = c.in-Derive.items in
    rw c.in-Derive.is (if_err (λ why refused. (
      key_argument items.bdk items.initial,
      record { written = items.bdk; written_is = refl; key_is = refl },
      refused,
    )) c.ready.result c.ready.ensures.refused)
