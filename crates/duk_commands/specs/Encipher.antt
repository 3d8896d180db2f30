-- What `data` makes of its arguments (this project's own, over TDES-CBC of NIST SP 800-38A section
-- 6.2).
use Rattle.std.specs.Prelude.{◌≡◌, ◌<◌, ◌≤◌, ◌%◌, ◌||◌, ℕ, Bool, true, false, List, Option, Some, None, IsSome, codes, length, replicate}
use Rattle.duk_commands.specs.Answer.{Command, command_of}
use Rattle.duk_commands.specs.Fault.{fault_rank}
use Rattle.duk_commands.specs.Lines.{named_line}
use Rattle.duk_commands.specs.Mac.{IsMessage}
use Rattle.duk_commands.specs.PinBlocks.{block_of_text}
use Rattle.duk_commands.specs.declared.fault.Fault.{Fault}
use Rattle.duk_commands.specs.declared.fault.Fault.TheVariants.{KeyRefused, OutOfMemory, PinBlockRefused, TextRefused}
use Rattle.duk_io.specs.FirstFault.{IsFirst}
use Rattle.duk_tdes.specs.Cbc.{cbc_decrypted, cbc_encrypted}
use Rattle.duk_tdes.specs.KeyBytes.{bytes_of}
use Rattle.duk_tdes.specs.KeyText.{tdes_key_of_text}
use Rattle.duk_tdes.specs.declared.key.KeyBytes.{KeyBytes}

-- the arguments, as written: the initial vector where it is given, whether the text is deciphered,
-- and whether it is hexadecimal
pub record DataArguments : Type 0 where
  pub key : List ℕ
  pub text : List ℕ
  pub iv : Option (List ℕ)
  pub decipher : Bool
  pub hex : Bool

-- those arguments
abbrev pub data_arguments : List ℕ → List ℕ → Option (List ℕ) → Bool → Bool → DataArguments
data_arguments key text iv decipher hex =
    record { key = key; text = text; iv = iv; decipher = decipher; hex = hex }

-- the initial vector: zeros, or the block that is written
abbrev pub IsVector : Option (List ℕ) → List ℕ → Type 0
IsVector None vector = vector ≡ replicate 8 0
IsVector (Some text) vector = block_of_text text ≡ Some vector

-- 1 to 255 whole blocks
pub record AreBlocks (bytes : List ℕ) : Type 0 where
  pub whole : length bytes % 8 ≡ 0
  pub one_at_least : 0 < length bytes
  pub at_most : length bytes ≤ 2040

-- the arguments give these blocks, which are enciphered or deciphered; what is deciphered is always
-- in hexadecimal
pub record AreGiven (arguments : DataArguments) (bytes : List ℕ) : Type 0 where
  pub bytes_are : IsMessage (arguments.decipher || arguments.hex) arguments.text bytes
  pub blocks : AreBlocks bytes

-- what is made of them under a key
abbrev pub made_of : Bool → List ℕ → List ℕ → List ℕ → List ℕ
made_of false key vector bytes = cbc_encrypted key vector bytes
made_of true key vector bytes = cbc_decrypted key vector bytes

-- the text of the line that the arguments ask for
pub record IsDataText (arguments : DataArguments) (text : List ℕ) : Type 0 where
  pub vector : List ℕ
  pub key : KeyBytes
  pub bytes : List ℕ
  pub vector_is : IsVector arguments.iv vector
  pub key_is : tdes_key_of_text arguments.key ≡ Some key
  pub given : AreGiven arguments bytes
  pub text_is : text ≡ named_line (codes "data") (made_of arguments.decipher (bytes_of key) vector bytes)

-- what the arguments must meet, or else are refused with this fault
abbrev pub MeetsData : DataArguments → Fault → Type 0
MeetsData arguments PinBlockRefused = (vector : List ℕ) × IsVector arguments.iv vector
MeetsData arguments KeyRefused = IsSome (tdes_key_of_text arguments.key)
MeetsData arguments TextRefused = (bytes : List ℕ) × AreGiven arguments bytes
MeetsData arguments fault = Unit {0}

-- why they are refused: the first of the faults, in their order; memory that is refused may come
-- before the text
abbrev pub IsDataRefused : DataArguments → Fault → Type 0
IsDataRefused arguments OutOfMemory =
    MeetsData arguments PinBlockRefused × MeetsData arguments KeyRefused
IsDataRefused arguments fault =
    IsFirst fault_rank (MeetsData arguments) (λ fault. ¬ MeetsData arguments fault) fault

-- the command `data`
abbrev pub data_of : DataArguments → Command
data_of arguments = command_of (IsDataText arguments) (IsDataRefused arguments)
