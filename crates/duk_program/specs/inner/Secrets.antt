-- What only private functions and proofs say beside `Secrets.antt`: this project's own.
use Rattle.std.specs.Prelude.{◌≡◌, ◌≤◌, ◌⊎◌, ⊤, ℕ, Bool, true, false, List, [], ◌∷◌, Option, Some, None, length}
use Rattle.std.specs.Io.KnownBytes.{IsAtEnd}
use Rattle.std.specs.Str.{IsUtf8}
use Rattle.duk_host.specs.Serve.{Supply}
use Rattle.duk_io.specs.Known.{Known}
use Rattle.duk_io.specs.Source.{AreBytesRead}
use Rattle.duk_service.specs.Files.{FileKnown}
use Rattle.duk_program.specs.InputLine.{HasLineTaken, IsInputBroken, IsInputTooLong, longest_line}
use Rattle.duk_program.specs.Secrets.{IsNextUnread, Means, RefersToInput}
use Rattle.duk_service.specs.declared.file_system.FileFault.{FileFault}
use Rattle.duk_service.specs.declared.file_system.FileFault.TheVariants as fault
use Rattle.duk_program.specs.declared.secrets.Secret.{Secret}
use Rattle.duk_program.specs.declared.secrets.SecretFault.{SecretFault}
use Rattle.duk_program.specs.declared.secrets.SecretFault.TheVariants.{NoMemory, Unread}
use Rattle.duk_program.specs.declared.secrets.Unread.TheVariants.{CannotRead, NotUtf8, TooLong}

-- a byte was read, or the input is at its end
abbrev pub IsNextByte : Known → Known → Option ℕ → Type 0
IsNextByte old new (Some byte) = AreBytesRead old new (byte ∷ [])
IsNextByte old new None = AreBytesRead old new [] × IsAtEnd new.contents

-- why a line of the input is not read, however long it is; memory may be refused at any time
abbrev pub IsAnyLineUnread : Supply → Supply → FileFault → Type 0
IsAnyLineUnread before after fault.CannotRead = IsInputBroken before after
IsAnyLineUnread before after fault.TooLong = ⊥
IsAnyLineUnread before after fault.NoMemory = ⊤

-- the line was read for the first secret that refers to the input, and it is not too long
pub record IsReadOnce (was_read is_read : Bool) (before after : Supply) (line : List ℕ) : Type 0 where
  pub unread : was_read ≡ false
  pub marked : is_read ≡ true
  pub taken : HasLineTaken before after line
  pub fits : length line ≤ longest_line

-- why it is not read
abbrev pub IsOnceUnread : Bool → Supply → Supply → FileFault → Type 0
IsOnceUnread true before after fault.CannotRead = after ≡ before
IsOnceUnread true before after fault.TooLong = ⊥
IsOnceUnread false before after fault.CannotRead = IsInputBroken before after
IsOnceUnread false before after fault.TooLong = IsInputTooLong before after
IsOnceUnread was_read before after fault.NoMemory = ⊤

-- a secret that refers to the input is read
pub record IsInputSecret (was_read is_read : Bool) (before after : Supply) (written text : List ℕ)
    : Type 0 where
  pub is_input : RefersToInput written
  pub once : IsReadOnce was_read is_read before after text

-- another is, and nothing of the input
pub record IsOtherSecret (held : List ℕ → FileKnown) (was_read is_read : Bool) (before after : Supply)
    (written text : List ℕ) : Type 0 where
  pub no_input : ¬ RefersToInput written
  pub kept : is_read ≡ was_read
  pub idle : after ≡ before
  pub means : Means held written text

-- a secret that is written so is read
abbrev pub IsSecretRead : (List ℕ → FileKnown) → Bool → Bool → Supply → Supply → List ℕ → List ℕ
    → Type 0
IsSecretRead held was_read is_read before after written text =
    IsInputSecret was_read is_read before after written text
    ⊎ IsOtherSecret held was_read is_read before after written text

-- how many secrets referred to the input, by whether it was read
abbrev pub inputs_read : Bool → ℕ
inputs_read false = 0
inputs_read true = 1

-- the fault of a secret that is written so; memory may be refused at any time
abbrev pub IsSecretRefused : (List ℕ → FileKnown) → Bool → Supply → Supply → Secret → List ℕ
    → SecretFault → Type 0
IsSecretRefused held was_read before after secret written (Unread named why) =
    (named ≡ secret) × IsNextUnread held (inputs_read was_read) before after written why
IsSecretRefused held was_read before after secret written NoMemory = ⊤

-- the fault of a secret whose line is not read
abbrev pub line_fault : Secret → FileFault → SecretFault
line_fault secret fault.CannotRead = Unread secret CannotRead
line_fault secret fault.TooLong = Unread secret TooLong
line_fault secret fault.NoMemory = NoMemory

-- the fault of a secret whose line is read and is no text; memory may be refused
abbrev pub IsTextRefused : Secret → List ℕ → SecretFault → Type 0
IsTextRefused secret line why =
    (why ≡ NoMemory) ⊎ ((why ≡ Unread secret NotUtf8) × ¬ IsUtf8 line)
