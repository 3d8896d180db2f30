use Rattle.std.proofs.Common.{◌≡◌, ◌≢◌, ◌<◌, ℕ, IsTrue, false, get_or, length}
use Rattle.duk_calls.proofs.cards.same_digits.Given as goal

abbrev pub invariant-loop-i : goal.invariant-loop-i
invariant-loop-i l = record {
  as_long : length l.one ≡ length l.other;
  same : l.differ ≡ false → (p : ℕ) → p < l.i → get_or l.one p 0 ≡ get_or l.other p 0;
  other : IsTrue l.differ → l.one ≢ l.other;
}
