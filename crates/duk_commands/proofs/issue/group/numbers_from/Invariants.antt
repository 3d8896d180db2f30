use Rattle.std.proofs.Common.{◌≡◌, ◌<◌, ◌+◌, ℕ, length}
use Rattle.std.specs.Prelude.{slice_index_or}
use Rattle.duk_group.specs.declared.transposed.TheConstants.{WIDTH}
use Rattle.duk_commands.specs.Numbers.{iksn_at}
use Rattle.duk_commands.proofs.issue.group.numbers_from.Given as goal

abbrev pub invariant-loop-lane : goal.invariant-loop-lane
invariant-loop-lane l = record {
  size : length l.numbers ≡ WIDTH;
  below : (p : ℕ) → p < l.lane → slice_index_or l.numbers p 0 ≡ iksn_at l.order.first (l.base + p);
}
