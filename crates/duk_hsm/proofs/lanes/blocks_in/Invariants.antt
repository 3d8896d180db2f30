use Rattle.std.proofs.Common.{◌≡◌, ◌<◌, ℕ, IfSome, length}
use Rattle.duk_des.specs.Block.{IsBlock}
use Rattle.duk_group.specs.Numbers.{bytes_at}
use Rattle.duk_group.specs.declared.transposed.TheConstants.{WIDTH}
use Rattle.duk_hsm.specs.inner.Group.{asked_at}
use Rattle.duk_hsm.proofs.lanes.blocks_in.Given as goal

abbrev pub invariant-loop-i : goal.invariant-loop-i
invariant-loop-i l = record {
  size : length l.blocks ≡ WIDTH;
  below : (p : ℕ) → p < l.i → IfSome (asked_at l.asked p).pin (λ pin. bytes_at l.blocks p ≡ pin.block);
  are_blocks : (p : ℕ) → p < l.i → IsBlock (bytes_at l.blocks p);
}
