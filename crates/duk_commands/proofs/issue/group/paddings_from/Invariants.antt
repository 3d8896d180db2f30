use Rattle.std.proofs.Common.{◌≡◌, ◌<◌, ◌+◌, ℕ, length}
use Rattle.duk_group.specs.Numbers.{bytes_at}
use Rattle.duk_group.specs.declared.transposed.TheConstants.{WIDTH}
use Rattle.duk_commands.specs.IssuedLines.{padding_at}
use Rattle.duk_commands.proofs.issue.group.paddings_from.Given as goal

abbrev pub invariant-loop-lane : goal.invariant-loop-lane
invariant-loop-lane l = record {
  size : length l.paddings ≡ WIDTH;
  below : (p : ℕ) → p < l.lane → bytes_at l.paddings p ≡ padding_at l.padding (l.base + p);
}
