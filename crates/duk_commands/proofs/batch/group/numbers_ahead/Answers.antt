use Rattle.std.proofs.Common.{refl, sym, subst, arith}
use Rattle.std.proofs.lemmas.List.{get_or-replicate}
use Rattle.duk_group.specs.declared.transposed.TheConstants.{WIDTH}
use Rattle.duk_tree.specs.Path.{IsUsable}
use Rattle.duk_tree.specs.Serial.{Serial}
use Rattle.duk_commands.proofs.batch.group.numbers_ahead.Goals as goal

pub loop-count-init : goal.loop-count-init
loop-count-init c = record {
  size = refl;
  within = omega arith;
  usable = λ i h.
      subst (λ (number : Serial). IsUsable number.counter)
      (sym (get_or-replicate WIDTH i c.args.first (record { iksn = 0; counter = 0 }) h)) c.requires;
}
