use Rattle.std.proofs.Common.{◌≡◌, ◌*◌, List, map, take}
use Rattle.arrayvec.specs.ArrayVec.{array_vec_len}
use Rattle.duk_tdes.specs.declared.key.KeyBytes.{KeyBytes}
use Rattle.duk_components.specs.Components.{Write, component_lines}
use Rattle.duk_commands.specs.CheckValues.{IsSumOf}
use Rattle.duk_components.proofs.components.combine.Given as goal

-- the lines so far write components, their check values stand there, and their sum is known
abbrev pub invariant-loop-place : goal.invariant-loop-place
invariant-loop-place l = record {
  keys : List KeyBytes;
  written : Write (take l.place (map (λ text. text.now) l.texts)) keys;
  sum : IsSumOf keys l.sum;
  lines : l.lines.items ≡ component_lines 1 keys;
  length : array_vec_len l.lines ≡ 19 * l.place;
}
