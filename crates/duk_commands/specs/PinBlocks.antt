-- What `unpin` and `translate` make of their arguments (this project's own, over PIN blocks of
-- ISO 9564-1 format 0).
use Rattle.std.specs.Prelude.{◌≡◌, ℕ, Bool, true, false, List, Option, Some, None, IsSome, codes, All}
use Rattle.std.specs.Char.{IsAsciiDigit}
use Rattle.std.specs.Result.{result_ok}
use Rattle.hex.specs.Hex.{decode_sized}
use Rattle.duk_commands.specs.Answer.{Command, command_of}
use Rattle.duk_commands.specs.Fault.{fault_rank}
use Rattle.duk_commands.specs.Lines.{named_line, text_line}
use Rattle.duk_commands.specs.Pin.{IsKeyArgument}
use Rattle.duk_commands.specs.declared.fault.Fault.{Fault}
use Rattle.duk_commands.specs.declared.fault.Fault.TheVariants.{KeyRefused, NotAPinBlock, PinBlockRefused, PinRefused, ZoneRefused}
use Rattle.duk_commands.specs.declared.key_argument.KeyArgument.{KeyArgument}
use Rattle.duk_io.specs.FirstFault.{IsFirst}
use Rattle.duk_pin.specs.Pan.{HasPanLength, IsPan}
use Rattle.duk_pin.specs.PinBlock.{IsPinBlock, pin_block}
use Rattle.duk_pin.specs.declared.fault.PinFault.TheVariants.{PanLength, PanDigit}
use Rattle.duk_tdes.specs.KeyBytes.{bytes_of}
use Rattle.duk_tdes.specs.KeyText.{tdes_key_of_text}
use Rattle.duk_tdes.specs.Tdes.{tdes_decrypted, tdes_encrypted}
use Rattle.duk_tdes.specs.declared.key.KeyBytes.{KeyBytes}
use Rattle.duk_commands.specs.Start.{IsStart, MeetsStart}
use Rattle.duk_tree.specs.Derivation.{pin_key_of, transaction_key_of}
use Rattle.duk_tree.specs.Serial.{Serial}

-- the block that 16 hexadecimal digits of either case write
abbrev pub block_of_text : List ℕ → Option (List ℕ)
block_of_text text = result_ok (decode_sized text 8)

-- the block as it is in clear: deciphered, where a key is given
abbrev pub clear_block : Option (List ℕ) → List ℕ → List ℕ
clear_block None block = block
clear_block (Some key) block = tdes_decrypted key block

-- the arguments of `unpin`, as written, and whether the PIN is to be shown
pub record UnpinArguments : Type 0 where
  pub block : List ℕ
  pub pan : List ℕ
  pub key : Option (List ℕ)
  pub show : Bool

-- those arguments
abbrev pub unpin_arguments : List ℕ → List ℕ → Option (List ℕ) → Bool → UnpinArguments
unpin_arguments block pan key show = record { block = block; pan = pan; key = key; show = show }

-- the arguments give the PIN block of this PIN
pub record AreUnpinArguments (arguments : UnpinArguments) (pin : List ℕ) : Type 0 where
  pub block : List ℕ
  pub key : Option (List ℕ)
  pub block_read : block_of_text arguments.block ≡ Some block
  pub pan_read : IsPan arguments.pan
  pub key_read : IsKeyArgument arguments.key key
  pub is_block : IsPinBlock pin arguments.pan (clear_block key block)

-- the line of a PIN block: the PIN where it is to be shown, and else that it is one
abbrev pub pin_line : Bool → List ℕ → List ℕ
pin_line false pin = text_line (codes "block") (codes "valid")
pin_line true pin = text_line (codes "pin") pin

-- the text of the line that the arguments ask for
pub record IsUnpinText (arguments : UnpinArguments) (text : List ℕ) : Type 0 where
  pub pin : List ℕ
  pub read : AreUnpinArguments arguments pin
  pub text_is : text ≡ pin_line arguments.show pin

-- what the arguments must meet, or else are refused with this fault
abbrev pub MeetsUnpin : UnpinArguments → Fault → Type 0
MeetsUnpin arguments PinBlockRefused = IsSome (block_of_text arguments.block)
MeetsUnpin arguments (PinRefused PanLength) = HasPanLength arguments.pan
MeetsUnpin arguments (PinRefused PanDigit) = All IsAsciiDigit arguments.pan
MeetsUnpin arguments KeyRefused = (key : Option (List ℕ)) × IsKeyArgument arguments.key key
MeetsUnpin arguments NotAPinBlock = (pin : List ℕ) × AreUnpinArguments arguments pin
MeetsUnpin arguments fault = Unit {0}

-- why they are refused: the first of the faults, in their order, whose condition they do not meet
abbrev pub IsUnpinRefused : UnpinArguments → Fault → Type 0
IsUnpinRefused arguments =
    IsFirst fault_rank (MeetsUnpin arguments) (λ fault. ¬ MeetsUnpin arguments fault)

-- the command `unpin`
abbrev pub unpin_of : UnpinArguments → Command
unpin_of arguments = command_of (IsUnpinText arguments) (IsUnpinRefused arguments)

-- the arguments of `translate`, as written
pub record TranslateArguments : Type 0 where
  pub block : List ℕ
  pub pan : List ℕ
  pub given : KeyArgument
  pub ksn : List ℕ
  pub zone : List ℕ

-- those arguments
abbrev pub translate_arguments : List ℕ → List ℕ → KeyArgument → List ℕ → List ℕ
    → TranslateArguments
translate_arguments block pan given ksn zone =
    record { block = block; pan = pan; given = given; ksn = ksn; zone = zone }

-- the arguments give a block that is enciphered under the PIN key of a number, the PIN in it, and a
-- zone key
pub record AreTranslateArguments (arguments : TranslateArguments) (zone pin : List ℕ)
    : Type 0 where
  pub block : List ℕ
  pub initial : List ℕ
  pub serial : Serial
  pub zone_key : KeyBytes
  pub block_read : block_of_text arguments.block ≡ Some block
  pub pan_read : IsPan arguments.pan
  pub start : IsStart arguments.given arguments.ksn initial serial
  pub zone_read : tdes_key_of_text arguments.zone ≡ Some zone_key
  pub zone_is : zone ≡ bytes_of zone_key
  pub is_block : IsPinBlock pin arguments.pan
      (tdes_decrypted (pin_key_of (transaction_key_of initial serial.iksn serial.counter)) block)

-- the text of the line: the block of that PIN, enciphered under the zone key
pub record IsTranslateText (arguments : TranslateArguments) (text : List ℕ) : Type 0 where
  pub zone : List ℕ
  pub pin : List ℕ
  pub read : AreTranslateArguments arguments zone pin
  pub text_is : text
      ≡ named_line (codes "translated") (tdes_encrypted zone (pin_block pin arguments.pan))

-- what the arguments must meet, or else are refused with this fault
abbrev pub MeetsTranslate : TranslateArguments → Fault → Type 0
MeetsTranslate arguments PinBlockRefused = IsSome (block_of_text arguments.block)
MeetsTranslate arguments (PinRefused PanLength) = HasPanLength arguments.pan
MeetsTranslate arguments (PinRefused PanDigit) = All IsAsciiDigit arguments.pan
MeetsTranslate arguments ZoneRefused = IsSome (tdes_key_of_text arguments.zone)
MeetsTranslate arguments NotAPinBlock =
    (zone pin : List ℕ) × AreTranslateArguments arguments zone pin
MeetsTranslate arguments fault = MeetsStart arguments.given arguments.ksn fault

-- why they are refused: the first of the faults, in their order, whose condition they do not meet
abbrev pub IsTranslateRefused : TranslateArguments → Fault → Type 0
IsTranslateRefused arguments =
    IsFirst fault_rank (MeetsTranslate arguments) (λ fault. ¬ MeetsTranslate arguments fault)

-- the command `translate`
abbrev pub translate_of : TranslateArguments → Command
translate_of arguments = command_of (IsTranslateText arguments) (IsTranslateRefused arguments)
