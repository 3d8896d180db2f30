use Rattle.std.proofs.Common.{◌≡◌, ◌≤◌, ◌+◌, ◌*◌, ◌++◌, ℕ, List}
use Rattle.arrayvec.specs.ArrayVec.{array_vec_len}
use Rattle.duk_commands.specs.Keys.{step_lines}
use Rattle.duk_commands.proofs.StepsOnTheWay.{IsReached}
use Rattle.duk_commands.proofs.steps.push_steps.Given as goal

-- a node on the way is reached, and the lines up to it stand there
abbrev pub invariant-loop-place : goal.invariant-loop-place
invariant-loop-place l = record {
  path : List ℕ;
  on_the_way : IsReached l.place path l.reached l.left;
  whole : l.reached + l.left ≡ l.fn.ksn.counter;
  lines : l.lines.items ≡ l.fn.lines.items ++ step_lines l.fn.initial l.fn.ksn.iksn path;
  length : array_vec_len l.lines + 59 * l.place ≤ array_vec_len l.fn.lines + 1239;
}
