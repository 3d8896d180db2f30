use Rattle.std.proofs.Common.{◌≡◌, ◌<◌, ◌^◌, ℕ, length}
use Rattle.duk_tree.specs.Derivation.{step_of}
use Rattle.duk_tree.specs.Serial.{low_bytes}
use Rattle.duk_regs.specs.Registers.{register_at}
use Rattle.duk_regs.proofs.frontier.first_registers.Given as goal

abbrev pub invariant-loop-place : goal.invariant-loop-place
invariant-loop-place l = record {
  are_21 : length l.registers ≡ 21;
  filled : (place : ℕ) → place < l.place
      → register_at l.registers place ≡ step_of l.fn.initial (low_bytes (record { iksn = l.fn.iksn; counter = 2 ^ place }));
}
