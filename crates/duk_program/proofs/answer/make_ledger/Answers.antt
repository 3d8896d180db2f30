use Rattle.std.proofs.Common.{inr}
use Rattle.duk_program.proofs.ByRequest.{if_err, on_ok}
use Rattle.duk_program.proofs.answer.make_ledger.Goals as goal

pub returns-in-Ok-clause-made : goal.returns-in-Ok-clause-made
returns-in-Ok-clause-made g c =
    on_ok _ _ c.make_file.result
    (λ made. record { identity = c.in-Ok.identity; drawn = c.in-Ok.ensures.drawn; came = made })
    c.make_file.ensures.made

pub returns-in-Ok-clause-refused : goal.returns-in-Ok-clause-refused
returns-in-Ok-clause-refused g c =
    if_err _ _ c.make_file.result
    (λ why refused. inr (record {
      identity = c.in-Ok.identity;
      drawn = c.in-Ok.ensures.drawn;
      came = record { cause = refused.0; why_is = refused.1; refused = refused.2 };
    }))
    c.make_file.ensures.refused
