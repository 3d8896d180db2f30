-- What `pin` makes of its arguments (this project's own, over ISO 9564-1 format 0).
use Rattle.std.specs.Prelude.{◌≡◌, ℕ, List, [], ◌++◌, codes, Option, Some, None, All, ⊤}
use Rattle.std.specs.Char.{IsAsciiDigit}
use Rattle.duk_io.specs.FirstFault.{IsFirst}
use Rattle.duk_pin.specs.Pan.{HasPanLength, IsPan}
use Rattle.duk_pin.specs.Pin.{HasPinLength, IsPin}
use Rattle.duk_pin.specs.PinBlock.{pin_block}
use Rattle.duk_pin.specs.declared.fault.PinFault.TheVariants.{PinLength, PinDigit, PanLength, PanDigit}
use Rattle.duk_tdes.specs.KeyText.{double_key_of_text}
use Rattle.duk_tdes.specs.Tdes.{tdes_encrypted}
use Rattle.duk_commands.specs.Answer.{Command, command_of}
use Rattle.duk_commands.specs.Fault.{fault_rank}
use Rattle.duk_commands.specs.Lines.{named_line}
use Rattle.duk_commands.specs.declared.fault.Fault.{Fault}
use Rattle.duk_commands.specs.declared.fault.Fault.TheVariants.{KeyRefused, PinRefused}

-- the key that an optional argument writes, where it is given
abbrev pub IsKeyArgument : Option (List ℕ) → Option (List ℕ) → Type 0
IsKeyArgument None None = ⊤
IsKeyArgument None (Some key) = ⊥
IsKeyArgument (Some text) None = ⊥
IsKeyArgument (Some text) (Some key) = double_key_of_text text ≡ Some key

-- what the arguments must meet, or else are refused with this fault
abbrev pub MeetsPin : List ℕ → List ℕ → Option (List ℕ) → Fault → Type 0
MeetsPin pin pan argument (PinRefused PinLength) = HasPinLength pin
MeetsPin pin pan argument (PinRefused PinDigit) = All IsAsciiDigit pin
MeetsPin pin pan argument (PinRefused PanLength) = HasPanLength pan
MeetsPin pin pan argument (PinRefused PanDigit) = All IsAsciiDigit pan
MeetsPin pin pan argument KeyRefused = (key : Option (List ℕ)) × IsKeyArgument argument key
MeetsPin pin pan argument _ = Unit {0}

-- why the arguments are refused: the first of the faults, in their order, whose condition they do
-- not meet
abbrev pub IsPinRefused : List ℕ → List ℕ → Option (List ℕ) → Fault → Type 0
IsPinRefused pin pan argument =
    IsFirst fault_rank (MeetsPin pin pan argument) (λ fault. ¬ MeetsPin pin pan argument fault)

-- the second line, where a key is given: the block enciphered under it
abbrev pub enciphered_line : Option (List ℕ) → List ℕ → List ℕ
enciphered_line None block = []
enciphered_line (Some key) block = named_line (codes "enciphered") (tdes_encrypted key block)

-- the lines: the PIN block, and the block enciphered
abbrev pub block_lines : List ℕ → List ℕ → Option (List ℕ) → List ℕ
block_lines pin pan key =
    named_line (codes "block") (pin_block pin pan) ++ enciphered_line key (pin_block pin pan)

-- the arguments are a PIN, a PAN and, where it is given, a key, and this is the text of their lines
pub record IsPinText (pin pan : List ℕ) (argument : Option (List ℕ)) (text : List ℕ) : Type 0 where
  pub key : Option (List ℕ)
  pub pin_read : IsPin pin
  pub pan_read : IsPan pan
  pub key_read : IsKeyArgument argument key
  pub text_is : text ≡ block_lines pin pan key

-- the command over these arguments
abbrev pub pin_of : List ℕ → List ℕ → Option (List ℕ) → Command
pin_of pin pan argument = command_of (IsPinText pin pan argument) (IsPinRefused pin pan argument)
