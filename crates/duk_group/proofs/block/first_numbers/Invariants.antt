use Rattle.std.proofs.Common.{◌≡◌, ◌<◌, ◌+◌, ◌*◌, ℕ, length}
use Rattle.duk_group.specs.Numbers.{number_at}
use Rattle.duk_group.specs.declared.transposed.TheConstants.{WIDTH}
use Rattle.duk_group.proofs.block.first_numbers.Given as goal

abbrev pub invariant-loop-i : goal.invariant-loop-i
invariant-loop-i l = record {
  size : length l.numbers ≡ WIDTH;
  below : (p : ℕ) → p < l.i → number_at l.numbers p ≡ record { iksn = l.iksn; counter = l.base + 64 * p };
}
