use Rattle.std.proofs.Common.{◌≡◌, ◌<◌, ℕ, false, length, get_or}
use Rattle.duk_lanes.specs.Lanes.{lane_of}
use Rattle.duk_group.proofs.BitsOfMasks.{one_of}
use Rattle.duk_group.proofs.masks.chosen.Given as goal

abbrev pub invariant-loop-place : goal.invariant-loop-place
invariant-loop-place g l = record {
  size : length l.words ≡ 64;
  below : (i : ℕ) → i < g.L.Lanes.count → (p : ℕ) → p < l.place
      → get_or (lane_of g.L.Lanes.lane i l.words) p false
      ≡ one_of (g.L.Lanes.lane l.first i) (get_or (lane_of g.L.Lanes.lane i l.block) p false) (get_or (lane_of g.L.Lanes.lane i l.other) p false);
}
