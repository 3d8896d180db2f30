use Rattle.std.proofs.Common.{◌≡◌, ◌<◌, ℕ, length, take, drop}
use Rattle.duk_des.specs.Block.{IsBlock}
use Rattle.duk_group.specs.Numbers.{bytes_at}
use Rattle.duk_group.proofs.key_blocks.gather_part.Given as goal

abbrev pub invariant-loop-i : goal.invariant-loop-i
invariant-loop-i l = record {
  size : length l.parts ≡ 128;
  below : (p : ℕ) → p < l.i → bytes_at l.parts p ≡ take 8 (drop l.start (bytes_at l.payloads p));
  width : (p : ℕ) → p < l.i → length (bytes_at l.payloads p) ≡ 24;
  blocks : (p : ℕ) → p < l.i → IsBlock (bytes_at l.parts p);
}
