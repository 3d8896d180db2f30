use Rattle.std.proofs.Common.{◌≡◌, ◌<◌, ◌++◌, ℕ, length}
use Rattle.duk_group.specs.Numbers.{bytes_at}
use Rattle.duk_group.proofs.key_blocks.scatter_payloads.Given as goal

abbrev pub invariant-loop-i : goal.invariant-loop-i
invariant-loop-i l = record {
  size : length l.payloads ≡ 128;
  below : (p : ℕ) → p < l.i → bytes_at l.payloads p ≡ bytes_at l.first p ++ bytes_at l.second p ++ bytes_at l.third p;
}
