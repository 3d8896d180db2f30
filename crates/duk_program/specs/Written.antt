-- How a request is written on the command line: this project's own.
use Rattle.std.specs.Prelude.{◌≡◌, ◌≢◌, ◌≤◌, ◌∷◌, ◌++◌, ◌⊎◌, [], ⊤, List, codes, flat_map, length, map}
use Rattle.std.specs.List.{AllByRecursion}
use Rattle.clap.specs.Words.{Text}
use Rattle.duk_program.specs.CommandLine.{Kind, Parameter, flag, named, needed, optional, row_of, several, valued}
use Rattle.duk_program.specs.Fits.{Fits}
use Rattle.duk_arguments.specs.Request.{Written, texts_in}

-- `--name`
abbrev pub option_named : Text → Text
option_named name = codes "--" ++ name

-- a text under a name, as it is written: itself, `--name VALUE` or `--name`
abbrev pub words_by : Kind → Text → Text → List Text
words_by needed name text = text ∷ []
words_by optional name text = text ∷ []
words_by several name text = text ∷ []
words_by valued name text = option_named name ∷ text ∷ []
words_by named name text = option_named name ∷ text ∷ []
words_by flag name text = option_named name ∷ []

-- all that is written of an argument
abbrev pub words_of : Written → Parameter → List Text
words_of request parameter = flat_map (words_by parameter.kind parameter.name)
    (texts_in parameter.name request)

-- the arguments of a request, after the program's name: its command, and what was written after it
abbrev pub arguments_of : Written → List Text
arguments_of request =
    (row_of request.command).name ∷ flat_map (words_of request) (row_of request.command).parameters

-- as many texts as may be written of an argument
abbrev pub AreAsMany : Kind → List Text → Type 0
AreAsMany needed texts = length texts ≡ 1
AreAsMany optional texts = length texts ≤ 1
AreAsMany several texts = (1 ≤ length texts) × (length texts ≤ 16)
AreAsMany valued texts = length texts ≤ 1
AreAsMany named texts = length texts ≡ 1
AreAsMany flag texts = (texts ≡ []) ⊎ (texts ≡ codes "true" ∷ [])

-- the entries of a request that are under the name of an argument
abbrev pub entries_under : Written → Parameter → List (Text × Text)
entries_under request parameter =
    map (λ text. (parameter.name, text)) (texts_in parameter.name request)

-- an argument that begins with no hyphen (45), and so is no option
abbrev pub IsPlainArgument : Text → Type 0
IsPlainArgument [] = ⊤
IsPlainArgument (first ∷ rest) = first ≢ 45

-- a request in the form of its command's row: of each argument as many texts as may be written, under
-- no other name any, in the row's order, none that begins with a hyphen, and none that excludes
-- another
pub record IsInForm (request : Written) : Type 0 where
  pub many : AllByRecursion (λ parameter. AreAsMany parameter.kind (texts_in parameter.name request))
      (row_of request.command).parameters
  pub order : request.entries
      ≡ flat_map (entries_under request) (row_of request.command).parameters
  pub plain : AllByRecursion (λ entry. IsPlainArgument entry.1) request.entries
  pub fits : Fits request
