use Rattle.std.proofs.Common.{◌≡◌, ◌≤◌, ◌+◌, ◌*◌, ◌++◌}
use Rattle.arrayvec.specs.ArrayVec.{array_vec_len}
use Rattle.duk_regs.specs.Image.{registers_in}
use Rattle.duk_show.specs.Image.{register_lines}
use Rattle.duk_show.proofs.image.push_registers.Given as goal

-- the lines of the registers so far stand there
abbrev pub invariant-loop-place : goal.invariant-loop-place
invariant-loop-place l = record {
  lines : l.lines.items ≡ l.fn.lines.items ++ register_lines l.show (registers_in l.bytes) l.place;
  length : array_vec_len l.lines ≤ array_vec_len l.fn.lines + 100 * l.place;
}
