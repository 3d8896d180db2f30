-- What is read of the matches, by their rows.
use Rattle.std.proofs.Common.{◌≡◌, sym}
use Rattle.std.specs.Prelude.{option_map}
use Rattle.clap.specs.Words.{Text, all_of, first_of, first_value, matched_of, raw_values, rows_of}
use Rattle.clap.specs.declared.parser.matches.Found.{Found}
use Rattle.clap.proofs.WalkLemmas.{first_value-rows, raw_values-rows}

pub first_by_rows : (found : Found) (name : Text) → first_of name (rows_of found) ≡ first_value found name
first_by_rows found name = sym (first_value-rows found name)

pub all_by_rows : (found : Found) (name : Text) → all_of name (rows_of found) ≡ option_map raw_values (matched_of found name)
all_by_rows found name = sym (raw_values-rows found name)

pub ruleset by_rows = (first_by_rows, all_by_rows)
