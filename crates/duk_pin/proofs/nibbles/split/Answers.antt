use Rattle.std.proofs.Common.{◌<◌, arith}
use Rattle.std.proofs.lemmas.Grind.{common_steps}
use Rattle.std.proofs.lemmas.List.Elements.{All-set}
use Rattle.duk_pin.proofs.XorOfNibbles.{split_next}
use Rattle.duk_pin.proofs.nibbles.split.Goals as goal

pub loop-i-preserved : goal.loop-i-preserved
loop-i-preserved c =
    record {
      sixteen = grind (arith, common_steps);
      nibbles_fit = All-set (λ nibble. nibble < 16) _ _ _ (omega arith) (All-set (λ nibble. nibble < 16) _ _ _ (omega arith) c.loop-i.invariant.nibbles_fit);
      written = split_next _ _ _ (omega arith) (omega arith) c.loop-i.invariant.written;
    }
