use Rattle.std.proofs.Common.{inl, inr, refl}
use Rattle.duk_service.proofs.Results.{if_err, if_ok}
use Rattle.duk_service.proofs.serve.serve_host.Goals as goal

pub returns-in-Ok-clause-served : goal.returns-in-Ok-clause-served
returns-in-Ok-clause-served g c =
    if_ok _ _ c.serve.result (λ count read_up. record { up = _; last = _; is_up = record { found = _; restarted = c.in-Ok.ensures.restarted }; read_up = read_up })
    c.serve.ensures.served

pub returns-in-Ok-clause-refused : goal.returns-in-Ok-clause-refused
returns-in-Ok-clause-refused g c =
    if_err _ _ c.serve.result (λ why failed. inr (record { up = _; last = _; is_up = record { found = _; restarted = c.in-Ok.ensures.restarted }; failed = failed }))
    c.serve.ensures.refused

pub returns-in-Err-clause-refused : goal.returns-in-Err-clause-refused
returns-in-Err-clause-refused g c = inl (record { idle = record { unread = refl; quiet = refl }; last = _; refused = c.in-Err.ensures.refused })
