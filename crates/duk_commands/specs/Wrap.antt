-- What `wrap` makes of its arguments (this project's own, over key blocks of ANSI X9.143).
use Rattle.std.specs.Prelude.{◌≡◌, ◌++◌, ℕ, List, Some, IsSome, length, All}
use Rattle.duk_block.specs.HeaderText.{HasWidths, IsPrintable, fields}
use Rattle.duk_block.specs.Hexadecimal.{IsHexadecimal}
use Rattle.duk_block.specs.KeyBlock.{FitsKeyBlock, IsWithinLimits, IsWrittenKeyBlock}
use Rattle.duk_block.specs.declared.fault.BlockFault.TheVariants.{HeaderField, PadLength}
use Rattle.duk_block.specs.declared.header.Header.{Header}
use Rattle.duk_io.specs.FirstFault.{IsFirst}
use Rattle.duk_tdes.specs.KeyBytes.{bytes_of}
use Rattle.duk_tdes.specs.KeyText.{tdes_key_of_text}
use Rattle.duk_tdes.specs.declared.key.KeyBytes.{KeyBytes}
use Rattle.duk_commands.specs.Answer.{Command, command_of}
use Rattle.duk_commands.specs.Fault.{fault_rank, line_end}
use Rattle.duk_commands.specs.declared.fault.Fault.{Fault}
use Rattle.duk_commands.specs.declared.fault.Fault.TheVariants.{KbpkRefused, FieldsRefused, KeyRefused, PadRefused, BlockRefused}

-- the arguments, as written
pub record WrapArguments : Type 0 where
  pub kbpk : List ℕ
  pub fields : List ℕ
  pub key : List ℕ
  pub pad : List ℕ

-- the four arguments
abbrev pub wrap_arguments : List ℕ → List ℕ → List ℕ → List ℕ → WrapArguments
wrap_arguments kbpk fields key pad = record { kbpk = kbpk; fields = fields; key = key; pad = pad }

-- what the arguments ask for: to wrap a key with this header and this padding under a protection
-- key
pub record Wrapping : Type 0 where
  pub protection_key : KeyBytes
  pub header : Header
  pub key : KeyBytes
  pub padding : List ℕ

-- the text is the seven fields of this header
pub record IsFieldsText (text : List ℕ) (header : Header) : Type 0 where
  pub widths : HasWidths header
  pub fields_are : fields header ≡ text

-- the arguments are read
pub record AreWrapArguments (arguments : WrapArguments) (asked : Wrapping) : Type 0 where
  pub protection_key_read : tdes_key_of_text arguments.kbpk ≡ Some asked.protection_key
  pub fields_read : IsFieldsText arguments.fields asked.header
  pub key_read : tdes_key_of_text arguments.key ≡ Some asked.key
  pub pad_read : IsHexadecimal arguments.pad asked.padding

-- the text of this key block, if there is one
pub record IsWrapping (asked : Wrapping) (text : List ℕ) : Type 0 where
  pub limits : IsWithinLimits text
  pub block : IsWrittenKeyBlock text (bytes_of asked.protection_key) asked.header
      (bytes_of asked.key)
      asked.padding

-- what the arguments must meet, or else are refused with this fault
abbrev pub MeetsWrap : WrapArguments → Fault → Type 0
MeetsWrap arguments KbpkRefused = IsSome (tdes_key_of_text arguments.kbpk)
MeetsWrap arguments FieldsRefused = length arguments.fields ≡ 7
MeetsWrap arguments KeyRefused = IsSome (tdes_key_of_text arguments.key)
MeetsWrap arguments PadRefused = (padding : List ℕ) × IsHexadecimal arguments.pad padding
MeetsWrap arguments (BlockRefused HeaderField) = All IsPrintable arguments.fields
MeetsWrap arguments (BlockRefused PadLength) =
    (asked : Wrapping) × AreWrapArguments arguments asked
    × FitsKeyBlock (length (bytes_of asked.key)) (length asked.padding)
MeetsWrap arguments _ = Unit {0}

-- why the arguments are refused: the first of the faults, in their order, whose condition they do
-- not meet
abbrev pub IsWrapRefused : WrapArguments → Fault → Type 0
IsWrapRefused arguments =
    IsFirst fault_rank (MeetsWrap arguments) (λ fault. ¬ MeetsWrap arguments fault)

-- the arguments are read, and this is the line of their key block
pub record IsWrapText (arguments : WrapArguments) (text : List ℕ) : Type 0 where
  pub asked : Wrapping
  pub block : List ℕ
  pub read : AreWrapArguments arguments asked
  pub block_is : IsWrapping asked block
  pub text_is : text ≡ block ++ line_end

-- the command over these arguments
abbrev pub wrap_of : WrapArguments → Command
wrap_of arguments = command_of (IsWrapText arguments) (IsWrapRefused arguments)
