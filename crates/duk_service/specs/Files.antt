-- What contracts know of files (this project's own). Of what there is under a path files may make
-- known nothing, that there are bytes, or that there are none that can be read.
use Rattle.std.specs.Prelude.{◌≡◌, ◌==◌, ◌-◌, ◌<◌, ◌≤◌, ℕ, Bool, List, ⊤, Option, Some, None, get_or, length, take, if◌then◌else◌}
use Rattle.std.specs.List.{before_first, list_any}
use Rattle.duk_service.specs.declared.file_system.FileFault.{FileFault}
use Rattle.duk_service.specs.declared.file_system.FileFault.TheVariants as fault

-- what files make known of what there is under a path: nothing, that there is no file that can be
-- read, or the bytes of one
abbrev pub FileKnown : Type 0
FileKnown = Option (Option (List ℕ))

-- the file has these bytes
abbrev pub HasBytes : FileKnown → List ℕ → Type 0
HasBytes None bytes = ⊤
HasBytes (Some None) bytes = ⊥
HasBytes (Some (Some held)) bytes = bytes ≡ held

-- there is a file that can be read
abbrev pub IsReadableFile : FileKnown → Type 0
IsReadableFile None = ⊤
IsReadableFile (Some None) = ⊥
IsReadableFile (Some (Some held)) = ⊤

-- there is no file that can be read
abbrev pub IsUnreadableFile : FileKnown → Type 0
IsUnreadableFile None = ⊤
IsUnreadableFile (Some None) = ⊤
IsUnreadableFile (Some (Some held)) = ⊥

-- the file has more bytes than this
abbrev pub IsLongerThan : ℕ → FileKnown → Type 0
IsLongerThan most None = ⊤
IsLongerThan most (Some None) = ⊥
IsLongerThan most (Some (Some held)) = most < length held

-- the file has these bytes, and they are not too many
pub record IsFileRead (held : FileKnown) (most : ℕ) (bytes : List ℕ) : Type 0 where
  pub bytes_are : HasBytes held bytes
  pub fits : length bytes ≤ most

-- why a file is not read; memory is refused only where the file can be read
abbrev pub IsFileUnread : FileKnown → ℕ → FileFault → Type 0
IsFileUnread held most fault.CannotRead = IsUnreadableFile held
IsFileUnread held most fault.TooLong = IsLongerThan most held
IsFileUnread held most fault.NoMemory = IsReadableFile held

-- the file begins with these bytes, so many
abbrev pub BeginsWith : FileKnown → ℕ → List ℕ → Type 0
BeginsWith None count bytes = ⊤
BeginsWith (Some None) count bytes = ⊥
BeginsWith (Some (Some held)) count bytes = bytes ≡ take count held

pub record IsFrontRead (held : FileKnown) (count : ℕ) (bytes : List ℕ) : Type 0 where
  pub bytes_are : BeginsWith held count bytes
  pub length_is : length bytes ≡ count

-- there is no file that can be read, or it has fewer bytes than this
abbrev pub IsShorterThan : ℕ → FileKnown → Type 0
IsShorterThan count None = ⊤
IsShorterThan count (Some None) = ⊤
IsShorterThan count (Some (Some held)) = length held < count

-- why the first bytes of a file are not read; memory is refused only where the file can be read
abbrev pub IsFrontUnread : FileKnown → ℕ → FileFault → Type 0
IsFrontUnread held count fault.CannotRead = IsShorterThan count held
IsFrontUnread held count fault.TooLong = ⊥
IsFrontUnread held count fault.NoMemory = IsReadableFile held

-- a line without its last byte, where that is CR (13)
abbrev pub without_return : List ℕ → List ℕ
without_return line =
    if get_or line (length line - 1) 0 == 13 then take (length line - 1) line else line

-- whether there is an LF (10)
abbrev pub has_end : List ℕ → Bool
has_end bytes = list_any (λ byte. byte == 10) bytes

-- the first line of bytes: what stands before the first LF, or CR LF; or all, where there is none
abbrev pub first_line : List ℕ → List ℕ
first_line bytes =
    if has_end bytes then without_return (before_first (λ byte. byte == 10) bytes) else bytes

-- the file's first line is this, and it is not too long
abbrev pub IsLineRead : FileKnown → ℕ → List ℕ → Type 0
IsLineRead None most line = ⊤
IsLineRead (Some None) most line = ⊥
IsLineRead (Some (Some bytes)) most line = (line ≡ first_line bytes) × (length line ≤ most)

-- the file's first line is longer than this
abbrev pub HasLongLine : ℕ → FileKnown → Type 0
HasLongLine most None = ⊤
HasLongLine most (Some None) = ⊥
HasLongLine most (Some (Some bytes)) = most < length (first_line bytes)

-- why the first line of a file is not read; memory is refused only where the file can be read
abbrev pub IsLineUnread : FileKnown → ℕ → FileFault → Type 0
IsLineUnread held most fault.CannotRead = IsUnreadableFile held
IsLineUnread held most fault.TooLong = HasLongLine most held
IsLineUnread held most fault.NoMemory = IsReadableFile held
