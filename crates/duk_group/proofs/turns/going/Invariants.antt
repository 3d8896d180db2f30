use Rattle.std.proofs.Common.{◌≡◌, ◌<◌, ℕ, false, length, get_or}
use Rattle.duk_group.specs.inner.Turns.{turn_at}
use Rattle.duk_group.proofs.turns.going.Given as goal

abbrev pub invariant-loop-i : goal.invariant-loop-i
invariant-loop-i l = record {
  size : length l.flags ≡ 128;
  below : (p : ℕ) → p < l.i → get_or l.flags p false ≡ (turn_at l.turns p).goes;
}
