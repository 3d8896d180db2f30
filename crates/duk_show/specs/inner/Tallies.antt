-- What only private functions and proofs say of the terminals of a log: this project's own.
use Rattle.std.specs.Prelude.{◌≡◌, ◌≤◌, ◌+◌, ℕ, List, Option, None, Some, IfSome, ◌++◌, [], codes, decimal, flat_map, length, nat_eq}
use Rattle.std.specs.List.{IsDistinct, filter, list_any}
use Rattle.std.specs.Map.{keys_of, lookup}
use Rattle.std.specs.Option.{is_some}
use Rattle.hex.specs.Hex.{encode_upper}
use Rattle.duk_commands.specs.Lines.{text_line}
use Rattle.duk_tree.specs.Serial.{Serial, iksn_bytes, serial_bytes}
use Rattle.duk_show.specs.Log.{is_of, last_after, terminal_lines}
use Rattle.duk_show.specs.declared.tallies.Tally.{Tally}

-- the tally of a terminal after a number of its own
abbrev pub next_tally : Option Tally → Serial → Tally
next_tally None number = record { first = number; count = 1; last = number }
next_tally (Some tally) number = record { first = tally.first; count = tally.count + 1; last = number }

-- a tally, with more numbers of the terminal
abbrev pub with_own : Tally → List Serial → Tally
with_own tally own =
    record { first = tally.first; count = tally.count + length own; last = last_after tally.last own }

-- the line of a tally
abbrev pub tally_line : Tally → List ℕ
tally_line tally =
    text_line (codes "terminal")
    (encode_upper (iksn_bytes tally.first.iksn) ++ codes " " ++ decimal tally.count ++ codes " "
    ++ encode_upper (serial_bytes tally.first) ++ codes " "
    ++ encode_upper (serial_bytes tally.last))

-- the line of a terminal, with what is left to count of it
abbrev pub line_with : List Serial → ℕ × Tally → List ℕ
line_with rest entry = tally_line (with_own entry.1 (filter (is_of entry.0) rest))

-- the terminals of the numbers before, as they stand in the index; with what is left to count their
-- lines, and those of terminals still to come, are the lines of all
pub record AreTallies (before rest all : List Serial) (entries : List (ℕ × Tally)) : Type 0 where
  pub lines : flat_map (line_with rest) entries ++ terminal_lines before rest ≡ terminal_lines [] all
  pub seen : (iksn : ℕ) → is_some (lookup (nat_eq iksn) entries) ≡ list_any (is_of iksn) before
  pub fits : (iksn : ℕ) → IfSome (lookup (nat_eq iksn) entries) (λ tally. tally.count ≤ length before)
  pub unique : IsDistinct nat_eq (keys_of entries)
