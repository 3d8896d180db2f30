use Rattle.std.proofs.Common.{◌≡◌, ◌≤◌, ◌+◌, ◌*◌, ℕ, List, drop, length}
use Rattle.arrayvec.specs.ArrayVec.{array_vec_len}
use Rattle.duk_block.specs.Optional.{Leaves}
use Rattle.duk_show.specs.inner.Block.{ArePassed}
use Rattle.duk_show.proofs.block.push_optional.Given as goal

-- the blocks so far were passed, and what is left has the others
abbrev pub invariant-loop-left : goal.invariant-loop-left
invariant-loop-left l = record {
  blocks : List (List ℕ);
  passed : ArePassed l.text blocks l.place l.fn.lines.items l.lines.items;
  count : length blocks + l.left ≡ l.fn.count;
  room : array_vec_len l.lines + 16 * l.left + 64 ≤ array_vec_len l.fn.lines + 16 * l.fn.count + 4 * l.place;
  back : (rest : List ℕ) → Leaves l.fn.count (drop 16 l.text) rest → Leaves l.left (drop l.place l.text) rest;
}

abbrev pub decreases-loop-left : goal.decreases-loop-left
decreases-loop-left l = l.left
