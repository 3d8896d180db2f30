use Rattle.std.proofs.Common.{◌≡◌, ◌<◌, ℕ, length}
use Rattle.duk_tree.specs.Derivation.{transaction_key_of}
use Rattle.duk_tree.specs.Frontier.{IsInFrontier}
use Rattle.duk_regs.specs.Registers.{IsEmptyAt, empty_register, lowest_place, register_at}
use Rattle.duk_regs.proofs.frontier.registers_at.Given as goal

abbrev pub invariant-loop-place : goal.invariant-loop-place
invariant-loop-place l = record {
  are_21 : length l.registers ≡ 21;
  filled : (node : ℕ) → IsInFrontier l.fn.ksn.counter node → lowest_place node < l.place
      → register_at l.registers (lowest_place node) ≡ transaction_key_of l.fn.initial l.fn.ksn.iksn node;
  empty : (place : ℕ) → place < l.place → IsEmptyAt l.fn.ksn.counter place
      → register_at l.registers place ≡ empty_register;
}
