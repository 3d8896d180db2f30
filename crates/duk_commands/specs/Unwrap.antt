-- What `unwrap` makes of its arguments (this project's own, over key blocks of ANSI X9.143).
use Rattle.std.specs.Prelude.{◌≡◌, ◌++◌, ℕ, List, codes, Some, IsSome}
use Rattle.duk_block.specs.Faults.{Meets}
use Rattle.duk_block.specs.HeaderText.{fields}
use Rattle.duk_block.specs.KeyBlock.{Wraps}
use Rattle.duk_block.specs.declared.header.Header.{Header}
use Rattle.duk_io.specs.FirstFault.{IsFirst}
use Rattle.duk_tdes.specs.KeyBytes.{bytes_of}
use Rattle.duk_tdes.specs.KeyText.{tdes_key_of_text}
use Rattle.duk_tdes.specs.declared.key.KeyBytes.{KeyBytes}
use Rattle.duk_commands.specs.Answer.{Command, command_of}
use Rattle.duk_commands.specs.Fault.{fault_rank}
use Rattle.duk_commands.specs.Lines.{named_line, text_line}
use Rattle.duk_commands.specs.declared.fault.Fault.{Fault}
use Rattle.duk_commands.specs.declared.fault.Fault.TheVariants.{KbpkRefused, BlockRefused}

-- what the arguments must meet, or else are refused with this fault
abbrev pub MeetsUnwrap : List ℕ → List ℕ → Fault → Type 0
MeetsUnwrap kbpk block KbpkRefused = IsSome (tdes_key_of_text kbpk)
MeetsUnwrap kbpk block (BlockRefused fault) =
    (key : KeyBytes) × (tdes_key_of_text kbpk ≡ Some key) × Meets block (bytes_of key) fault
MeetsUnwrap kbpk block _ = Unit {0}

-- why the arguments are refused: the first of the faults, in their order, whose condition they do
-- not meet
abbrev pub IsUnwrapRefused : List ℕ → List ℕ → Fault → Type 0
IsUnwrapRefused kbpk block =
    IsFirst fault_rank (MeetsUnwrap kbpk block) (λ fault. ¬ MeetsUnwrap kbpk block fault)

-- the lines: the fields of the header, and the key
abbrev pub unwrapped_lines : Header → List ℕ → List ℕ
unwrapped_lines header key =
    text_line (codes "fields") (fields header) ++ named_line (codes "key") key

-- the arguments are a protection key and a text that wraps this header and key under it, and this
-- is the text of their lines
pub record IsUnwrapText (kbpk block text : List ℕ) : Type 0 where
  pub protection_key : KeyBytes
  pub header : Header
  pub key : List ℕ
  pub key_read : tdes_key_of_text kbpk ≡ Some protection_key
  pub wraps : Wraps (bytes_of protection_key) block header key
  pub text_is : text ≡ unwrapped_lines header key

-- the command over these arguments
abbrev pub unwrap_of : List ℕ → List ℕ → Command
unwrap_of kbpk block = command_of (IsUnwrapText kbpk block) (IsUnwrapRefused kbpk block)
