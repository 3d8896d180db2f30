-- The first registers stand in the image.
use Rattle.std.proofs.Common.{◌≡◌, ◌<◌, ◌+◌, ◌*◌, [], ◌∷◌, ℕ, length, take}
use Rattle.duk_regs.specs.Registers.{register_at}
use Rattle.duk_regs.specs.Image.{present_bytes}
use Rattle.duk_regs.proofs.image.write_present.Given as goal

abbrev pub invariant-loop-place : goal.invariant-loop-place
invariant-loop-place l = record {
  is_350 : length l.image ≡ 350;
  written : take (14 + 16 * l.place) l.image ≡ 2 ∷ present_bytes (record { iksn = l.fn.iksn; counter = l.counter; registers = take l.place l.registers; past = [] });
  are_16 : (place : ℕ) → place < l.place → length (register_at l.registers place) ≡ 16;
}
