-- What is said of the answer of a call.
use Rattle.std.proofs.Common.{Result, Ok, Err, IfErr, IfOk}
use Rattle.std.specs.Prelude.{OnOk}

-- what is said of a value, or of an error, may be said otherwise
pub if_ok : {T E : Type 0} (P Q : T → Type 0) (answer : Result T E) → ((value : T) → P value → Q value) → IfOk answer P → IfOk answer Q
if_ok P Q (Ok value) says is = says value is
if_ok P Q (Err error) says is = tt

pub if_err : {T E : Type 0} (P Q : E → Type 0) (answer : Result T E) → ((error : E) → P error → Q error) → IfErr answer P → IfErr answer Q
if_err P Q (Ok value) says is = tt
if_err P Q (Err error) says is = says error is

pub on_ok : {T E : Type 0} (P Q : Type 0) (answer : Result T E) → (P → Q) → OnOk answer P → OnOk answer Q
on_ok P Q (Ok value) says is = says is
on_ok P Q (Err error) says is = tt
