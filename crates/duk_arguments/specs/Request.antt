-- What a request of the command line is: this project's own.
use Rattle.std.specs.Prelude.{[], ℕ, Bool, List, Option, bytes_eq, filter, is_some, map, slice_get, unwrap_or}
use Rattle.duk_arguments.specs.declared.name.CommandName.{CommandName}
use Rattle.duk_arguments.specs.declared.entry.Entry.{Entry}

-- a command, and what was written after it: each text beside the name of its argument, in the order
-- of the command's row, and `true` of a flag
pub record Written : Type 0 where
  pub command : CommandName
  pub entries : List (List ℕ × List ℕ)

-- an entry of the code
abbrev pub pair_of : Entry → List ℕ × List ℕ
pair_of entry = (entry.name.now, entry.text.now)

-- the texts under a name, the first of them, and that or no text at all
abbrev pub texts_in : List ℕ → Written → List (List ℕ)
texts_in name request =
    map (λ entry. entry.1) (filter (λ entry. bytes_eq entry.0 name) request.entries)

abbrev pub value_in : List ℕ → Written → Option (List ℕ)
value_in name request = slice_get (texts_in name request) 0

abbrev pub text_in : List ℕ → Written → List ℕ
text_in name request = unwrap_or (value_in name request) []

-- whether there is one
abbrev pub flag_in : List ℕ → Written → Bool
flag_in name request = is_some (value_in name request)
