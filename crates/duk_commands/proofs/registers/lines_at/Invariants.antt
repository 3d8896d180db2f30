use Rattle.std.proofs.Common.{◌≤◌, ◌*◌}
use Rattle.arrayvec.specs.ArrayVec.{array_vec_len}
use Rattle.duk_commands.specs.Registers.{AreRegisterLines}
use Rattle.duk_commands.proofs.registers.lines_at.Given as goal

-- the lines of the registers below the place stand there
abbrev pub invariant-loop-place : goal.invariant-loop-place
invariant-loop-place l = record {
  lines : AreRegisterLines l.start.initial l.start.ksn l.place l.lines.items;
  length : array_vec_len l.lines ≤ 70 * l.place;
}
