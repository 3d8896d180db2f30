use Rattle.std.proofs.Common.{◌≡◌, ◌<◌, ℕ, [], ◌++◌, length, get_or}
use Rattle.duk_group.proofs.transposed.scatter_keys.Given as goal

abbrev pub invariant-loop-i : goal.invariant-loop-i
invariant-loop-i l = record {
  size : length l.all ≡ 128;
  below : (p : ℕ) → p < l.i → get_or l.all p [] ≡ get_or l.left p [] ++ get_or l.right p [];
}
