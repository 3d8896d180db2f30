use Rattle.std.proofs.Common.{IfNone, None, Option, Some}
use Rattle.duk_hosts.proofs.settle.code_kept.Goals as goal

if_none : {T : Type 0} (P : Type 0) (found : Option T) → P → IfNone found P
if_none P None is = is
if_none P (Some it) is = tt

pub returns-in_err-code-clause-none : goal.returns-in_err-code-clause-none
returns-in_err-code-clause-none c =
    if_none _ c.from_residual.result (λ code knows. c.in_err-code.ensures.none code (record { amount = knows.amount; kept = knows.kept }))
