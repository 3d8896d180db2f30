use Rattle.std.proofs.Common.{inl, inr, refl}
use Rattle.duk_service.proofs.Results.{if_err, on_ok}
use Rattle.duk_service.proofs.serve_journal.serve_host.Goals as goal

pub returns-in-Ok-restart-clause-served : goal.returns-in-Ok-restart-clause-served
returns-in-Ok-restart-clause-served g c =
    on_ok _ _ c.serve.result (λ read_up. record { up = _; last = _; is_up = record { found = _; restarted = c.in-Ok-restart.ensures.restarted }; read_up = read_up })
    c.serve.ensures.served

pub returns-in-Ok-restart-clause-refused : goal.returns-in-Ok-restart-clause-refused
returns-in-Ok-restart-clause-refused g c =
    if_err _ _ c.serve.result (λ why failed. inr (inr (record { up = _; last = _; is_up = record { found = _; restarted = c.in-Ok-restart.ensures.restarted }; failed = failed })))
    c.serve.ensures.refused

pub returns-clause-refused : goal.returns-clause-refused
returns-clause-refused g c = inr (inl (record { idle = record { unread = refl; quiet = refl }; last = _; refused = c.in-Err.ensures.refused }))
