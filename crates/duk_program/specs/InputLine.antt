-- What is read of the input for `@-` (this project's own): its first line with its end, a byte at a
-- time, and nothing of what stands behind it.
use Rattle.std.specs.Prelude.{◌≡◌, ◌<◌, ◌≤◌, ◌+◌, ◌⊎◌, ◌++◌, ℕ, false, List, Some, codes, length, option_map, if◌then◌else◌}
use Rattle.std.specs.Io.KnownBytes.{IsAtEnd}
use Rattle.std.specs.Str.{IsUtf8, bytes_eq}
use Rattle.duk_commands.specs.Fault.{line_end}
use Rattle.duk_host.specs.Serve.{Supply}
use Rattle.duk_io.specs.Source.{AreBytesRead, AreReadsMade, IsBroken}
use Rattle.duk_service.specs.Files.{FileKnown, first_line, has_end}
use Rattle.duk_program.specs.declared.secrets.Unread.{Unread as Why}
use Rattle.duk_program.specs.declared.secrets.Unread.TheVariants.{CannotRead, TooLong, NotUtf8}

-- the most bytes of a secret's line
abbrev pub longest_line : ℕ
longest_line = 4096

-- the most bytes that are read of the input: those of the longest line and of its end, CR LF
abbrev pub most_taken : ℕ
most_taken = 4098

-- what the input has left, as a file
abbrev pub input_file : Supply → FileKnown
input_file input = option_map (λ bytes. Some bytes) input.known.contents

-- what there is under a path to which a secret refers: under `-` the input, or else a file
abbrev pub with_input : (List ℕ → FileKnown) → Supply → List ℕ → FileKnown
with_input held input path = if bytes_eq path (codes "-") then input_file input else held path

-- the last of the bytes is the end of a line, LF, and no other
pub record HasEnded (before after : Supply) (bytes : List ℕ) : Type 0 where
  pub line : List ℕ
  pub bytes_are : bytes ≡ line ++ line_end
  pub no_end_within : has_end line ≡ false
  pub made : AreReadsMade before.reads after.reads (length bytes)

-- as many bytes as are read at most, and no end of a line is among them
pub record HasNoEnd (before after : Supply) (bytes : List ℕ) : Type 0 where
  pub no_end : has_end bytes ≡ false
  pub all : length bytes ≡ most_taken
  pub made : AreReadsMade before.reads after.reads (length bytes)

-- the input ended, which the last read told, before a line did
pub record IsInputOver (before after : Supply) (bytes : List ℕ) : Type 0 where
  pub no_end : has_end bytes ≡ false
  pub over : IsAtEnd after.known.contents
  pub made : AreReadsMade before.reads after.reads (length bytes + 1)

-- these bytes of the input were read for its first line
pub record IsLineTaken (before after : Supply) (bytes : List ℕ) : Type 0 where
  pub read : AreBytesRead before.known after.known bytes
  pub few : length bytes ≤ most_taken
  pub stops : HasEnded before after bytes ⊎ HasNoEnd before after bytes ⊎ IsInputOver before after bytes

-- the first line of the input was read, and this is what stands before its end
pub record HasLineTaken (before after : Supply) (line : List ℕ) : Type 0 where
  pub bytes : List ℕ
  pub taken : IsLineTaken before after bytes
  pub line_is : line ≡ first_line bytes

-- a read failed before the line had ended
pub record IsInputBroken (before after : Supply) : Type 0 where
  pub bytes : List ℕ
  pub broken : IsBroken before.known after.known bytes
  pub few : length bytes < most_taken
  pub no_end : has_end bytes ≡ false
  pub made : AreReadsMade before.reads after.reads (length bytes + 1)

-- the first line of the input is too long
pub record IsInputTooLong (before after : Supply) : Type 0 where
  pub line : List ℕ
  pub taken : HasLineTaken before after line
  pub long : longest_line < length line

-- the first line of the input is no text
pub record IsInputNoText (before after : Supply) : Type 0 where
  pub line : List ℕ
  pub taken : HasLineTaken before after line
  pub not_utf8 : ¬ IsUtf8 line

-- why the first line of the input is not read as a secret
abbrev pub IsInputFault : Supply → Supply → Why → Type 0
IsInputFault before after CannotRead = IsInputBroken before after
IsInputFault before after TooLong = IsInputTooLong before after
IsInputFault before after NotUtf8 = IsInputNoText before after
