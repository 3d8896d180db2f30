use Rattle.std.proofs.Common.{ℕ, [], ◌+◌}
use Rattle.duk_block.specs.Optional.{Leaves}
use Rattle.duk_block.proofs.WholeBlocks.{FollowBy}
use Rattle.duk_block.proofs.optional.count_whole.Given as goal

-- the text is whole blocks exactly where what is left of it is
abbrev pub invariant-loop-count : goal.invariant-loop-count
invariant-loop-count l = record {
  onward : (more : ℕ) → Leaves more l.rest [] → Leaves (l.count + more) l.fn.text [];
  back : (total : ℕ) → Leaves total l.fn.text [] → FollowBy l.rest l.count total;
}
