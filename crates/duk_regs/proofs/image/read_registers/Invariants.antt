use Rattle.std.proofs.Common.{◌≡◌, ◌<◌, ◌+◌, ◌*◌, ℕ, length, take, drop}
use Rattle.duk_regs.specs.Registers.{register_at}
use Rattle.duk_regs.proofs.image.read_registers.Given as goal

abbrev pub invariant-loop-place : goal.invariant-loop-place
invariant-loop-place l = record {
  are_21 : length l.registers ≡ 21;
  read : (place : ℕ) → place < l.place → register_at l.registers place ≡ take 16 (drop (14 + 16 * place) l.image);
}
