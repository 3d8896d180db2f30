use Rattle.std.proofs.Common.{◌≡◌, ◌<◌, ◌≤◌, ℕ, false, length, get_or}
use Rattle.std.specs.Bool.{xor}
use Rattle.duk_des.specs.Bits.{bits_of_bytes}
use Rattle.duk_lanes.specs.Lanes.{lane_of}
use Rattle.duk_group.proofs.masks.masked.Given as goal

abbrev pub invariant-loop-place : goal.invariant-loop-place
invariant-loop-place g l = record {
  size : length l.sum ≡ 64;
  below : (i : ℕ) → i < g.L.Lanes.count → (p : ℕ) → p < l.place
      → get_or (lane_of g.L.Lanes.lane i l.sum) p false
      ≡ xor (get_or (lane_of g.L.Lanes.lane i l.block) p false) (get_or (bits_of_bytes l.mask) p false);
  above : (i : ℕ) → i < g.L.Lanes.count → (p : ℕ) → l.place ≤ p
      → get_or (lane_of g.L.Lanes.lane i l.sum) p false ≡ get_or (lane_of g.L.Lanes.lane i l.block) p false;
}
