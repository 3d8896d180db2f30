use Rattle.std.proofs.Common.{◌≡◌, ◌<◌, ℕ}
use Rattle.duk_regs.specs.Registers.{IsEmptyAt, register_at, empty_register}
use Rattle.duk_regs.proofs.frontier.leaves_empty.Given as goal

abbrev pub invariant-loop-place : goal.invariant-loop-place
invariant-loop-place l = (place : ℕ) → place < l.place → IsEmptyAt l.counter place → register_at l.registers place ≡ empty_register
