use Rattle.std.proofs.Common.{◌≡◌, ◌*◌, List, map, take}
use Rattle.arrayvec.specs.ArrayVec.{array_vec_len}
use Rattle.duk_tdes.specs.declared.key.KeyBytes.{KeyBytes}
use Rattle.duk_commands.specs.CheckValues.{IsSumOf, Write, component_values, lines_of}
use Rattle.duk_commands.proofs.check_values.component_lines.Given as goal

-- the texts so far write components, their lines stand there, and their sum is known
abbrev pub invariant-loop-text : goal.invariant-loop-text
invariant-loop-text l = record {
  keys : List KeyBytes;
  written : Write (take l.text-index (map (λ text. text.now) l.texts)) keys;
  sum : IsSumOf keys l.sum;
  lines : l.lines.items ≡ lines_of component_values keys;
  length : array_vec_len l.lines ≡ 47 * l.text-index;
}
