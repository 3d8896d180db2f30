use Rattle.std.proofs.Common.{Option, arith, subst, sym}
use Rattle.std.specs.Prelude.{IfSome}
use Rattle.duk_ledger.specs.Issued.{AreMadeFields}
use Rattle.duk_ledger.specs.declared.issued.Made.{Made}
use Rattle.duk_ledger.proofs.format.append_made.Goals as goal

pub returns-in-Some-clause-fields : goal.returns-in-Some-clause-fields
returns-in-Some-clause-fields c =
    subst (λ (it : Option Made). IfSome it AreMadeFields) (sym c.in-Some.is) (record { key_length = omega arith; key_set_length = omega arith; run_fits = omega arith })
