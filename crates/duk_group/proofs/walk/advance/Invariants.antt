use Rattle.std.proofs.Common.{◌≡◌, ◌<◌, ◌≤◌, ℕ, false, length, get_or}
use Rattle.duk_group.specs.Numbers.{number_at}
use Rattle.duk_group.specs.inner.Turns.{turn_at}
use Rattle.duk_group.specs.inner.Walk.{IsNext}
use Rattle.duk_group.proofs.walk.advance.Given as goal

abbrev pub invariant-loop-i : goal.invariant-loop-i
invariant-loop-i l = record {
  size : length l.places ≡ 128;
  turns_size : length l.turns ≡ 128;
  next : (p : ℕ) → p < l.i → IsNext (number_at l.numbers p) (get_or l.fn.places p 0) (get_or l.places p 0) (turn_at l.turns p);
  same : (p : ℕ) → l.i ≤ p → get_or l.places p 0 ≡ get_or l.fn.places p 0;
  any : l.any ≡ false → (p : ℕ) → p < l.i → (turn_at l.turns p).goes ≡ false;
}
