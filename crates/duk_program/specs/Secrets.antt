-- Secrets that arguments give by reference (this project's own): `@FILE` stands for the first line
-- of a file, and `@-` for that of standard input.
use Rattle.std.specs.Prelude.{◌≡◌, ◌==◌, ◌<◌, ◌⊎◌, ⊤, ℕ, zero, suc, Bool, false, List, [], ◌∷◌, ◌++◌, Option, Some, None, codes, get_or, is_some, length, map, take, if◌then◌else◌}
use Rattle.std.specs.List.{list_any}
use Rattle.std.specs.Str.{IsUtf8, bytes_eq}
use Rattle.duk_program.specs.CommandLine.{row_of}
use Rattle.duk_arguments.specs.Request.{Written}
use Rattle.duk_program.specs.References.{help_name, references_in, without_references}
use Rattle.duk_commands.specs.Fault.{line_end}
use Rattle.duk_host.specs.Serve.{Supply}
use Rattle.duk_service.specs.Files.{FileKnown, HasLongLine, IsLineRead, IsUnreadableFile}
use Rattle.duk_program.specs.InputLine.{IsInputFault, IsLineTaken, longest_line, with_input}
use Rattle.duk_program.specs.declared.secrets.Secret.{Secret}
use Rattle.duk_program.specs.declared.secrets.SecretFault.{SecretFault}
use Rattle.duk_program.specs.declared.secrets.SecretFault.TheVariants.{NoMemory, Unread}
use Rattle.duk_program.specs.declared.secrets.Unread.{Unread as Why}
use Rattle.duk_program.specs.declared.secrets.Unread.TheVariants.{CannotRead, TooLong, NotUtf8}

-- the paths under which the system has standard input
abbrev pub is_input_path : List ℕ → Bool
is_input_path path =
    list_any (bytes_eq path)
    (codes "/dev/stdin" ∷ codes "/dev/fd/0" ∷ codes "/proc/self/fd/0" ∷ [])

-- the path that is referred to: under any of them standard input, as `-`
abbrev pub path_of : List ℕ → List ℕ
path_of path = if is_input_path path then codes "-" else path

-- what a text that begins with `@` (64) refers to
abbrev pub reference_in : List ℕ → Option (List ℕ)
reference_in [] = None
reference_in (first ∷ rest) = if first == 64 then Some (path_of rest) else None

-- a text refers to the input
abbrev pub RefersToInput : List ℕ → Type 0
RefersToInput text = reference_in text ≡ Some (codes "-")

-- what a secret that is written stands for: itself, or the first line of what there is under a path
abbrev pub StandsFor : (List ℕ → FileKnown) → Option (List ℕ) → List ℕ → List ℕ → Type 0
StandsFor held None written text = text ≡ written
StandsFor held (Some path) written text = IsLineRead (held path) longest_line text

abbrev pub Means : (List ℕ → FileKnown) → List ℕ → List ℕ → Type 0
Means held written text = StandsFor held (reference_in written) written text

-- the same of texts, in their order
abbrev pub EachMeans : (List ℕ → FileKnown) → List (List ℕ) → List (List ℕ) → Type 0
EachMeans held [] [] = ⊤
EachMeans held (written ∷ others) (text ∷ texts) =
    Means held written text × EachMeans held others texts
EachMeans held others texts = ⊥

-- the first line of a file is no text
pub record HasNoText (held : FileKnown) : Type 0 where
  pub line : List ℕ
  pub read : IsLineRead held longest_line line
  pub not_utf8 : ¬ IsUtf8 line

-- why the first line of a file is not read as a secret
abbrev pub IsUnreadLine : FileKnown → Why → Type 0
IsUnreadLine held CannotRead = IsUnreadableFile held
IsUnreadLine held TooLong = HasLongLine longest_line held
IsUnreadLine held NotUtf8 = HasNoText held

-- why a secret that refers to a file is not read
abbrev pub IsUnread : (List ℕ → FileKnown) → Option (List ℕ) → Why → Type 0
IsUnread held None why = ⊥
IsUnread held (Some path) why = IsUnreadLine (held path) why

-- a path is that of the input
abbrev pub is_of_input : Option (List ℕ) → Bool
is_of_input None = false
is_of_input (Some path) = bytes_eq path (codes "-")

-- a text that refers to the input
abbrev pub is_input_reference : List ℕ → Bool
is_input_reference text = is_of_input (reference_in text)

-- how many of these texts do
abbrev pub inputs_in : List (List ℕ) → ℕ
inputs_in [] = 0
inputs_in (text ∷ texts) =
    if is_input_reference text then suc (inputs_in texts) else inputs_in texts

-- what is read of the input for so many secrets that refer to it: nothing for none, its first line
-- for one; more than one are never read
abbrev pub IsInputTaken : ℕ → Supply → Supply → Type 0
IsInputTaken zero before after = after ≡ before
IsInputTaken (suc zero) before after = (bytes : List ℕ) × IsLineTaken before after bytes
IsInputTaken (suc (suc more)) before after = ⊥

-- secrets that are written so are read, and these are the texts that they stand for
pub record AreRead (held : List ℕ → FileKnown) (written texts : List (List ℕ)) (before after : Supply)
    : Type 0 where
  pub means : EachMeans (with_input held before) written texts
  pub taken : IsInputTaken (inputs_in written) before after

-- a secret that does not refer to the input is not read, and nothing is read of the input
pub record IsFileSecretUnread (held : List ℕ → FileKnown) (before after : Supply) (written : List ℕ)
    (why : Why) : Type 0 where
  pub no_input : ¬ RefersToInput written
  pub idle : after ≡ before
  pub cause : IsUnread held (reference_in written) why

-- why the input is not read, where so many secrets before referred to it: it is read once
abbrev pub IsInputUnread : ℕ → Supply → Supply → Why → Type 0
IsInputUnread zero before after why = IsInputFault before after why
IsInputUnread (suc earlier) before after why = (why ≡ CannotRead) × (after ≡ before)

-- a secret that refers to the input is not read
pub record IsInputSecretUnread (earlier : ℕ) (before after : Supply) (written : List ℕ) (why : Why)
    : Type 0 where
  pub is_input : RefersToInput written
  pub cause : IsInputUnread earlier before after why

-- why a secret that is written so is not read, where so many before it referred to the input
abbrev pub IsNextUnread : (List ℕ → FileKnown) → ℕ → Supply → Supply → List ℕ → Why → Type 0
IsNextUnread held earlier before after written why =
    IsFileSecretUnread held before after written why
    ⊎ IsInputSecretUnread earlier before after written why

-- the texts of a request that may be references, and the names of their arguments
abbrev pub secrets_in : Written → List (List ℕ)
secrets_in asked = map (λ entry. entry.1) (references_in asked)

abbrev pub names_in : Written → List (List ℕ)
names_in asked = map (λ entry. entry.0) (references_in asked)

-- what a request means: the same, with what each text stands for that may be a reference in its place
pub record HasMeaning (held : List ℕ → FileKnown) (asked meant : Written) : Type 0 where
  pub command : meant.command ≡ asked.command
  pub rest : without_references meant ≡ without_references asked
  pub texts : EachMeans held (secrets_in asked) (secrets_in meant)

-- a secret of a request is not read, and those before it are
pub record IsFirstUnread (held : List ℕ → FileKnown) (before after : Supply) (asked : Written)
    (secret : Secret) (why : Why) : Type 0 where
  pub is_there : secret.place < length (secrets_in asked)
  pub name : secret.name.now ≡ help_name (get_or (names_in asked) secret.place []) (row_of asked.command)
  pub texts : List (List ℕ)
  pub between : Supply
  pub earlier : AreRead held (take secret.place (secrets_in asked)) texts before between
  pub cause : IsNextUnread held (inputs_in (take secret.place (secrets_in asked))) between after
      (get_or (secrets_in asked) secret.place []) why

-- the fault of the secrets of a request; memory may be refused at any time
abbrev pub IsSecretFault : (List ℕ → FileKnown) → Supply → Supply → Written → SecretFault → Type 0
IsSecretFault held before after asked (Unread secret why) =
    IsFirstUnread held before after asked secret why
IsSecretFault held before after asked NoMemory = ⊤

-- no text of a request is written as a reference, also where none may be one
abbrev pub HasWordsAlone : Written → Type 0
HasWordsAlone asked =
    list_any (λ text. is_some (reference_in text)) (map (λ entry. entry.1) asked.entries) ≡ false

-- the most bytes of a name that is told, which no name has
abbrev pub longest_name : ℕ
longest_name = 64

-- what is reported of a secret that is not read, behind its name
abbrev pub unread_text : Why → List ℕ
unread_text CannotRead = codes ": cannot read"
unread_text TooLong = codes ": too long"
unread_text NotUtf8 = codes ": not UTF-8"

-- the line of a fault: which secret is not read, and why, and never what was found
abbrev pub secret_line : SecretFault → List ℕ
secret_line (Unread secret why) =
    take longest_name secret.name.now ++ unread_text why ++ line_end
secret_line NoMemory = codes "out of memory" ++ line_end
