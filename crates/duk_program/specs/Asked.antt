-- What the arguments of the command line ask for: this project's own, over the matches of the crate
-- `clap`.
use Rattle.std.specs.Prelude.{◌≡◌, ◌∷◌, ◌⊎◌, ⊤, List, Bool, Option, IsSomeAnd, [], map, flat_map}
use Rattle.std.specs.Prelude.{bytes_eq, codes, false, if◌then◌else◌, not, String, string_bytes, true}
use Rattle.std.specs.Prelude.{unwrap_or}
use Rattle.std.specs.List.{list_any}
use Rattle.std.specs.Option.{option_map_or}
use Rattle.clap.specs.Words.{Row, Text, all_of, fault_of, first_of, subcommand_of}
use Rattle.clap.specs.declared.error.kind.ErrorKind.{ErrorKind}
use Rattle.clap.specs.declared.error.kind.ErrorKind.TheVariants.{DisplayHelp, DisplayVersion}
use Rattle.duk_program.specs.CommandLine.{Kind, Parameter, command_line, flag, row_of}
use Rattle.duk_program.specs.Fits.{Fits}
use Rattle.duk_arguments.specs.Request.{Written}
use Rattle.duk_program.specs.declared.command_line.reading.NoRequest.{NoRequest}
use Rattle.duk_program.specs.declared.command_line.reading.NoRequest.TheVariants as answer

-- the bytes of each argument
abbrev pub texts_of : {A : Type 0} → List (String A) → List Text
texts_of arguments = map string_bytes arguments

-- whether a flag was found, whose text is then `true`
abbrev pub is_flagged : Text → List Row → Bool
is_flagged name rows = option_map_or (bytes_eq (codes "true")) (first_of name rows) false

-- the texts that were found under a name; none of a flag that is not there
abbrev pub texts_found : Kind → Text → List Row → List Text
texts_found flag name rows = if is_flagged name rows then codes "true" ∷ [] else []
texts_found _ name rows = unwrap_or (all_of name rows) []

-- the same, each beside the name
abbrev pub entries_found : List Row → Parameter → List (Text × Text)
entries_found rows parameter = map (λ text. (parameter.name, text))
    (texts_found parameter.kind parameter.name rows)

-- this is the command of the request, and its entries are what was found after it, under each name of
-- the command's row
abbrev pub AsksFor : Text → List Row → Written → Type 0
AsksFor command rows request = (command ≡ (row_of request.command).name)
    × (request.entries ≡ flat_map (entries_found rows) (row_of request.command).parameters)
    × Fits request

-- a command was used, and what was found after it asks for this
abbrev pub AsksAfter : Option (Text × List Row) → Written → Type 0
AsksAfter used request = IsSomeAnd used (λ following. AsksFor following.0 following.1 request)

-- the arguments, the first of which is the program's name, ask for this
abbrev pub Asks : List Text → Written → Type 0
Asks arguments = AsksAfter (subcommand_of command_line arguments)

-- an error that shows help, or a version, and refuses nothing
abbrev pub is_shown : ErrorKind → Bool
is_shown DisplayHelp = true
is_shown DisplayVersion = true
is_shown kind = false

-- nothing is asked for by the arguments
abbrev pub AskForNothing : List Text → Type 0
AskForNothing arguments = (request : Written) → ¬ Asks arguments request

-- the arguments ask for help or for the version
abbrev pub AskForHelp : List Text → Type 0
AskForHelp arguments = list_any is_shown (fault_of command_line arguments) ≡ true

-- the arguments have a fault, or ask for nothing
abbrev pub AreRefused : List Text → Type 0
AreRefused arguments =
    (list_any (λ kind. not (is_shown kind)) (fault_of command_line arguments) ≡ true)
    ⊎ ((fault_of command_line arguments ≡ []) × AskForNothing arguments)

-- why this stands in place of a request; memory may be refused at any time
abbrev pub IsNoRequestOf : List Text → NoRequest → Type 0
IsNoRequestOf arguments (answer.Help text) = AskForHelp arguments
IsNoRequestOf arguments (answer.Refused text) = AreRefused arguments
IsNoRequestOf arguments answer.NoMemory = ⊤
