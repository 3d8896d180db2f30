-- The lines that commands write (this project's own).
use Rattle.std.specs.Prelude.{ℕ, List, codes, ◌++◌}
use Rattle.hex.specs.Hex.{encode_upper}
use Rattle.duk_commands.specs.Fault.{line_end}

-- a line that names some bytes: the name, a space, the bytes in upper-case hexadecimal
abbrev pub named_line : List ℕ → List ℕ → List ℕ
named_line name bytes = name ++ codes " " ++ encode_upper bytes ++ line_end

-- a line that names a text: the name, a space, the text
abbrev pub text_line : List ℕ → List ℕ → List ℕ
text_line name text = name ++ codes " " ++ text ++ line_end
