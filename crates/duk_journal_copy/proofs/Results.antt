-- What is said of the answer of a call.
use Rattle.std.proofs.Common.{◌≡◌, Result, Ok, Err, false, sym, true, true≢false}
use Rattle.std.specs.Prelude.{OnErr, OnOk}
use Rattle.std.specs.Result.{is_err}

-- what is said of each answer without an error may be said otherwise
pub on_ok : {T E : Type 0} (P Q : Type 0) (answer : Result T E) → (P → Q) → OnOk answer P → OnOk answer Q
on_ok P Q (Ok value) says is = says is
on_ok P Q (Err error) says is = tt

pub on_both : {T E : Type 0} (P Q R : Type 0) (answer : Result T E) → (P → Q → R) → OnOk answer P → OnOk answer Q → OnOk answer R
on_both P Q R (Ok value) says one other = says one other
on_both P Q R (Err error) says one other = tt

pub always_err : {T E : Type 0} (P : Type 0) (answer : Result T E) → P → OnErr answer P
always_err P (Ok value) says = tt
always_err P (Err error) says = says

-- an answer that is tested
pub where_ok : {T E : Type 0} (P : Type 0) (answer : Result T E) → is_err answer ≡ false → OnOk answer P → P
where_ok P (Ok value) ok holds = holds
where_ok P (Err error) ok holds = absurd (true≢false ok)

pub where_err : {T E : Type 0} (P : Type 0) (answer : Result T E) → is_err answer ≡ true → OnErr answer P → P
where_err P (Ok value) err holds = absurd (true≢false (sym err))
where_err P (Err error) err holds = holds
