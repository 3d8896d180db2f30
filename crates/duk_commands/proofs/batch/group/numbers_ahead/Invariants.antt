use Rattle.std.proofs.Common.{◌≡◌, ◌≤◌, length}
use Rattle.duk_group.specs.declared.transposed.TheConstants.{WIDTH}
use Rattle.duk_commands.specs.inner.Group.{AreUsable}
use Rattle.duk_commands.proofs.batch.group.numbers_ahead.Given as goal

-- the numbers so far are usable
abbrev pub invariant-loop-count : goal.invariant-loop-count
invariant-loop-count l = record {
  size : length l.numbers ≡ WIDTH;
  within : l.count ≤ WIDTH;
  usable : AreUsable l.numbers;
}

abbrev pub decreases-loop-count : goal.decreases-loop-count
decreases-loop-count l = length l.rest
