use Rattle.std.proofs.Common.{◌≡◌, ◌<◌, ℕ, length}
use Rattle.duk_group.specs.Numbers.{message_at}
use Rattle.duk_group.specs.inner.Messages.{IsNextBlock}
use Rattle.duk_group.specs.inner.Turns.{turn_at}
use Rattle.duk_group.proofs.retail.next_blocks.Given as goal

abbrev pub invariant-loop-i : goal.invariant-loop-i
invariant-loop-i l = record {
  size : length l.turns ≡ 128;
  below : (p : ℕ) → p < l.i → IsNextBlock (message_at l.messages p) l.count (turn_at l.turns p);
}
