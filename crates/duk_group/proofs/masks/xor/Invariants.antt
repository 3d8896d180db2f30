use Rattle.std.proofs.Common.{◌≡◌, ◌<◌, ℕ, false, length, get_or}
use Rattle.std.specs.Bool.{xor}
use Rattle.duk_lanes.specs.Lanes.{lane_of}
use Rattle.duk_group.proofs.masks.xor.Given as goal

abbrev pub invariant-loop-place : goal.invariant-loop-place
invariant-loop-place g l = record {
  size : length l.sum ≡ 64;
  below : (i : ℕ) → i < g.L.Lanes.count → (p : ℕ) → p < l.place
      → get_or (lane_of g.L.Lanes.lane i l.sum) p false
      ≡ xor (get_or (lane_of g.L.Lanes.lane i l.block) p false) (get_or (lane_of g.L.Lanes.lane i l.other) p false);
}
