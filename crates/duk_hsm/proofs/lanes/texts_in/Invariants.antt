use Rattle.std.proofs.Common.{◌≡◌, ◌<◌, ℕ, length}
use Rattle.duk_group.specs.Numbers.{message_at}
use Rattle.duk_group.specs.declared.transposed.TheConstants.{WIDTH}
use Rattle.duk_hsm.specs.inner.Group.{asked_at}
use Rattle.duk_hsm.proofs.lanes.texts_in.Given as goal

abbrev pub invariant-loop-i : goal.invariant-loop-i
invariant-loop-i l = record {
  size : length l.texts ≡ WIDTH;
  below : (p : ℕ) → p < l.i → message_at l.texts p ≡ (asked_at l.asked p).text;
}
