-- A command is found by its name.
use Rattle.std.proofs.Common.{List, Some, [], ap, ap₂, bytes_eq, find, flat_map, inl, inr, sym, ◌∙◌, ◌∷◌, ◌≡◌}
use Rattle.clap.specs.Words.{Row, Text}
use Rattle.duk_program.specs.Asked.{AsksFor, entries_found}
use Rattle.duk_program.specs.CommandLine.{all_commands, row_of}
use Rattle.duk_arguments.specs.Request.{Written}
use Rattle.duk_arguments.specs.declared.name.CommandName.{CommandName}
use Rattle.duk_program.proofs.Known.{Facts, known}
use Rattle.std.proofs.lemmas.Bool.{cases_Bool}
use Rattle.std.proofs.lemmas.Slice.Eq.{bytes_eq-Decides}

pub named : (command : CommandName)
    → find (λ other. bytes_eq (row_of other).name (row_of command).name) all_commands ≡ Some command
named command = ap (λ (f : Facts). f.named) (known (λ name. []) command)

same_command : (a b : CommandName) → (row_of a).name ≡ (row_of b).name → a ≡ b
same_command a b same =
    let found : find (λ (command : CommandName). bytes_eq (row_of command).name (row_of b).name) all_commands ≡ Some a =
    ap (λ (name : Text). find (λ (command : CommandName). bytes_eq (row_of command).name name) all_commands) (sym same)
    ∙ named a in
    let other = named b in
    cc

-- after a command at most one request is asked for
pub one_asked : (command : CommandName) (rows : List Row) (request : Written)
    → AsksFor (row_of command).name rows request
    → request ≡ record { command = command; entries = flat_map (entries_found rows) (row_of command).parameters }
one_asked command rows request asks =
    let same : request.command ≡ command = sym (same_command command request.command asks.0) in
    ap₂ (λ (c : CommandName) (entries : List (Text × Text)). record { command = c; entries = entries }) same
    (asks.1 ∙ ap (λ (c : CommandName). flat_map (entries_found rows) (row_of c).parameters) same)

-- the command that is found under a name has it
found_under : (name : Text) (commands : List CommandName) (command : CommandName)
    → find (λ (other : CommandName). bytes_eq (row_of other).name name) commands ≡ Some command
    → (row_of command).name ≡ name
found_under name [] command found = cc
found_under name (first ∷ rest) command found = elim (cases_Bool (bytes_eq (row_of first).name name)) [
  | inl same ↦
      let here : Some first ≡ Some command = rw same at found in
      let is : first ≡ command = cc in
      ap (λ (c : CommandName). (row_of c).name) (sym is) ∙ (bytes_eq-Decides (row_of first).name name).0 same
  | inr other ↦ found_under name rest command (rw other at found)
]

pub name_found : (name : Text) (command : CommandName)
    → find (λ (other : CommandName). bytes_eq (row_of other).name name) all_commands ≡ Some command
    → (row_of command).name ≡ name
name_found name command found = found_under name all_commands command found
