use Rattle.std.proofs.Common.{refl}
use Rattle.duk_reversal.proofs.laws.authentic.Goals as goal

pub returns-clause-reversal : goal.returns-clause-reversal
returns-clause-reversal c = λ key numbers are. record {
  fields = record { numbers_are = are; mac_is = c.retail_is_a_block.ensures _ _ };
  laid_out = refl;
}

pub returns-clause-reply : goal.returns-clause-reply
returns-clause-reply c = λ key numbers state are. record {
  fields = record { numbers_are = are; mac_is = c.retail_is_a_block.ensures _ _ };
  laid_out = refl;
}
