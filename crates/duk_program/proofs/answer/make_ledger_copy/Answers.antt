use Rattle.std.proofs.Common.{inr, refl}
use Rattle.duk_program.proofs.answer.make_ledger_copy.Goals as goal

pub returns-in-Err-copy_ledger-clause-refused : goal.returns-in-Err-copy_ledger-clause-refused
returns-in-Err-copy_ledger-clause-refused g c = inr (record {
  identity = c.in-Ok.identity;
  drawn = c.in-Ok.ensures.drawn;
  came = record {
    cause = c.in-Err-copy_ledger.why;
    why_is = refl;
    refused = rw (← c.text.ensures) (rw (← c.text-2.ensures) c.in-Err-copy_ledger.ensures.refused);
  };
})
