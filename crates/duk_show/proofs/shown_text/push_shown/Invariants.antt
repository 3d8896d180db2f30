use Rattle.std.proofs.Common.{◌≡◌, ◌≤◌, ◌+◌, ◌*◌, ◌++◌, drop}
use Rattle.arrayvec.specs.ArrayVec.{array_vec_len}
use Rattle.duk_show.specs.ShownText.{shown_text}
use Rattle.duk_show.proofs.shown_text.push_shown.Given as goal

-- what is shown so far, and what is left, is the whole text, with room for it
abbrev pub invariant-loop-byte : goal.invariant-loop-byte
invariant-loop-byte l = record {
  text : l.lines.items ++ shown_text (drop l.byte-index l.text) ≡ l.fn.lines.items ++ shown_text l.text;
  len : array_vec_len l.lines ≤ array_vec_len l.fn.lines + 4 * l.byte-index;
}
