use Rattle.std.proofs.Common.{◌≡◌, ◌≤◌, ◌+◌, ◌*◌, ◌++◌, flat_map}
use Rattle.arrayvec.specs.ArrayVec.{array_vec_len}
use Rattle.duk_regs.specs.Image.{past_of}
use Rattle.duk_show.specs.Image.{past_line}
use Rattle.duk_show.proofs.image.push_past.Given as goal

-- the lines of the numbers so far stand there
abbrev pub invariant-loop-place : goal.invariant-loop-place
invariant-loop-place l = record {
  lines : l.lines.items ≡ l.fn.lines.items ++ flat_map past_line (past_of l.bytes l.place);
  length : array_vec_len l.lines ≤ array_vec_len l.fn.lines + 26 * l.place;
}
