-- What a TEXT stands for (this project's own): its own bytes, those of a file, or all that the input
-- has left.
use Rattle.std.specs.Prelude.{◌≡◌, ◌<◌, ⊤, ℕ, List, [], Option, Some, None, codes, if◌then◌else◌, is_some, length}
use Rattle.std.specs.Io.KnownBytes.{IsAtEnd}
use Rattle.std.specs.Str.{bytes_eq}
use Rattle.duk_host.specs.Serve.{Supply}
use Rattle.duk_io.specs.Sink.{IsUntouched}
use Rattle.duk_io.specs.Source.{AreBytesRead, IsBroken}
use Rattle.duk_program.specs.Secrets.{reference_in}
use Rattle.duk_program.specs.declared.fault.Fault.{Fault}
use Rattle.duk_program.specs.declared.fault.Fault.TheVariants as fault
use Rattle.duk_service.specs.Files.{FileKnown, IsFileRead, IsFileUnread}
use Rattle.duk_service.specs.Serve.{Serving}
use Rattle.duk_service.specs.declared.file_system.FileFault.{FileFault}
use Rattle.duk_service.specs.declared.file_system.FileFault.TheVariants.{CannotRead, NoMemory, TooLong}

-- the most bytes that are read of a file or of the input
abbrev pub longest_message : ℕ
longest_message = 16777216

-- where the bytes of a TEXT stand: in itself, in the file under a path, or in the input
pub data Message : Type 0 where
  its_own : List ℕ → Message
  of_file : List ℕ → Message
  of_input : Message

-- what stands behind an `@`: the input as `-`, a text that begins with an `@` itself, or a path
abbrev pub message_behind : List ℕ → Message
message_behind path =
    if bytes_eq path (codes "-") then of_input
    else (if is_some (reference_in path) then its_own path else of_file path)

abbrev pub message_at : List ℕ → Option (List ℕ) → Message
message_at text None = its_own text
message_at text (Some path) = message_behind path

-- that of a TEXT which is written so
abbrev pub message_of : List ℕ → Message
message_of text = message_at text (reference_in text)

-- all that the input had left was read, and these are its bytes
pub record IsAllRead (before after : Supply) (bytes : List ℕ) : Type 0 where
  pub read : AreBytesRead before.known after.known bytes
  pub over : IsAtEnd after.known.contents

-- the bytes of a message
abbrev pub IsMessage : (List ℕ → FileKnown) → Supply → Supply → Message → List ℕ → Type 0
IsMessage held before after (its_own text) bytes = (bytes ≡ text) × (after ≡ before)
IsMessage held before after (of_file path) bytes =
    IsFileRead (held path) longest_message bytes × (after ≡ before)
IsMessage held before after of_input bytes = IsAllRead before after bytes

-- the input has more bytes than are read of it
pub record IsInputLong (before after : Supply) : Type 0 where
  pub bytes : List ℕ
  pub read : AreBytesRead before.known after.known bytes
  pub long : longest_message < length bytes

-- why the input is not read to its end; memory may be refused at any time
abbrev pub IsInputUnended : Supply → Supply → FileFault → Type 0
IsInputUnended before after CannotRead =
    (bytes : List ℕ) × IsBroken before.known after.known bytes
IsInputUnended before after TooLong = IsInputLong before after
IsInputUnended before after NoMemory = ⊤

-- why the bytes of a message are not read
abbrev pub IsMessageUnread : (List ℕ → FileKnown) → Supply → Supply → Message → FileFault → Type 0
IsMessageUnread held before after (its_own text) why = (why ≡ NoMemory) × (after ≡ before)
IsMessageUnread held before after (of_file path) why =
    IsFileUnread (held path) longest_message why × (after ≡ before)
IsMessageUnread held before after of_input why = IsInputUnended before after why

-- those of a TEXT that may be left out, which has none then
abbrev pub IsSomeMessage : (List ℕ → FileKnown) → Supply → Supply → Option (List ℕ) → List ℕ → Type 0
IsSomeMessage held before after None bytes = (bytes ≡ []) × (after ≡ before)
IsSomeMessage held before after (Some text) bytes =
    IsMessage held before after (message_of text) bytes

abbrev pub IsSomeMessageUnread : (List ℕ → FileKnown) → Supply → Supply → Option (List ℕ) → FileFault
    → Type 0
IsSomeMessageUnread held before after None why = ⊥
IsSomeMessageUnread held before after (Some text) why =
    IsMessageUnread held before after (message_of text) why

-- a TEXT is not read, and nothing is printed
pub record HasUnreadText (held : List ℕ → FileKnown) (s : Serving) (text : Option (List ℕ))
    (why : Fault) : Type 0 where
  pub cause : FileFault
  pub why_is : why ≡ fault.Text cause
  pub unread : IsSomeMessageUnread held s.input_before s.input_after text cause
  pub no_output : IsUntouched s.output_before s.output_after

-- the line of the fault of a TEXT that is not read
abbrev pub text_fault_line : FileFault → List ℕ
text_fault_line CannotRead = codes "TEXT: cannot read\n"
text_fault_line TooLong = codes "TEXT: too long\n"
text_fault_line NoMemory = codes "out of memory\n"
