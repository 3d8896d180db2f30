use Rattle.std.proofs.Common.{◌≡◌, ◌<◌, ℕ, length}
use Rattle.duk_group.specs.Numbers.{bytes_at}
use Rattle.duk_group.specs.inner.Turns.{turn_at}
use Rattle.duk_group.proofs.turns.blocks_of_turns.Given as goal

abbrev pub invariant-loop-i : goal.invariant-loop-i
invariant-loop-i l = record {
  size : length l.blocks ≡ 128;
  below : (p : ℕ) → p < l.i → bytes_at l.blocks p ≡ (turn_at l.turns p).block;
}
