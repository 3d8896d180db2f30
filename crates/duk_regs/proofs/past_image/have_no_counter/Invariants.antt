use Rattle.std.proofs.Common.{◌≡◌, ◌<◌, ℕ}
use Rattle.duk_regs.specs.Image.{past_serial_in}
use Rattle.duk_regs.proofs.past_image.have_no_counter.Given as goal

abbrev pub invariant-loop-place : goal.invariant-loop-place
invariant-loop-place l = (place : ℕ) → place < l.place → (past_serial_in l.image place).counter ≡ 0
