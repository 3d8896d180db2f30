-- The first numbers stand in their places, and zeros after them.
use Rattle.std.proofs.Common.{◌≡◌, ◌+◌, ◌-◌, ◌*◌, ◌∷◌, drop, length, map, replicate, take}
use Rattle.std.specs.List.{concat}
use Rattle.duk_tree.specs.Serial.{iksn_bytes}
use Rattle.duk_regs.proofs.past_image.write_past.Given as goal

abbrev pub invariant-loop-place : goal.invariant-loop-place
invariant-loop-place l = record {
  is_81 : length l.bytes ≡ 81;
  written : take (1 + 10 * l.place) l.bytes ≡ length l.iksns ∷ concat (map iksn_bytes (take l.place l.iksns));
  zeros : drop (1 + 10 * l.place) l.bytes ≡ replicate (10 * (8 - l.place)) 0;
}
