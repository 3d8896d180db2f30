-- What `mac` makes of its arguments (this project's own, over ANSI X9.19 and NIST SP 800-38B).
use Rattle.std.specs.Prelude.{◌≡◌, ◌<◌, ⊤, ℕ, Bool, true, false, List, codes, length, Some, IsSome}
use Rattle.duk_block.specs.Hexadecimal.{IsHexadecimal}
use Rattle.duk_commands.specs.Answer.{Command, command_of}
use Rattle.duk_commands.specs.Fault.{fault_rank}
use Rattle.duk_commands.specs.Lines.{named_line}
use Rattle.duk_commands.specs.declared.fault.Fault.{Fault}
use Rattle.duk_commands.specs.declared.fault.Fault.TheVariants.{KeyRefused, TextRefused, OutOfMemory}
use Rattle.duk_io.specs.FirstFault.{IsFirst}
use Rattle.duk_mac.specs.Cmac.{cmac_of}
use Rattle.duk_mac.specs.Retail.{retail_of}
use Rattle.duk_tdes.specs.KeyBytes.{bytes_of}
use Rattle.duk_tdes.specs.KeyText.{double_key_of_text, tdes_key_of_text}
use Rattle.duk_tdes.specs.declared.key.KeyBytes.{KeyBytes}

-- the arguments, as written, and whether the MAC is a CMAC, and the text hexadecimal
pub record MacArguments : Type 0 where
  pub key : List ℕ
  pub text : List ℕ
  pub cmac : Bool
  pub hex : Bool

-- those arguments
abbrev pub mac_arguments : List ℕ → List ℕ → Bool → Bool → MacArguments
mac_arguments key text cmac hex = record { key = key; text = text; cmac = cmac; hex = hex }

-- the bytes whose MAC is asked for: the text, or what it writes in hexadecimal
abbrev pub IsMessage : Bool → List ℕ → List ℕ → Type 0
IsMessage false text message = message ≡ text
IsMessage true text message = IsHexadecimal text message

-- this is the MAC of a message under the key that a text writes: a CMAC under a key of either
-- length, or the retail MAC of a message of one byte at least
abbrev pub IsMacOf : Bool → List ℕ → List ℕ → List ℕ → Type 0
IsMacOf true key message mac =
    (bytes : KeyBytes) × (tdes_key_of_text key ≡ Some bytes) × (mac ≡ cmac_of (bytes_of bytes) message)
IsMacOf false key message mac =
    (bytes : List ℕ) × (double_key_of_text key ≡ Some bytes) × (0 < length message)
    × (mac ≡ retail_of bytes message)

-- the text of the line that the arguments ask for
pub record IsMacText (arguments : MacArguments) (text : List ℕ) : Type 0 where
  pub message : List ℕ
  pub mac : List ℕ
  pub message_is : IsMessage arguments.hex arguments.text message
  pub mac_is : IsMacOf arguments.cmac arguments.key message mac
  pub text_is : text ≡ named_line (codes "mac") mac

-- the key that each MAC asks for
abbrev pub IsMacKey : Bool → List ℕ → Type 0
IsMacKey true key = IsSome (tdes_key_of_text key)
IsMacKey false key = IsSome (double_key_of_text key)

-- the message that each MAC asks for
abbrev pub IsMacMessage : Bool → List ℕ → Type 0
IsMacMessage true message = ⊤
IsMacMessage false message = 0 < length message

-- what the arguments must meet, or else are refused with this fault
abbrev pub MeetsMac : MacArguments → Fault → Type 0
MeetsMac arguments KeyRefused = IsMacKey arguments.cmac arguments.key
MeetsMac arguments TextRefused = (message : List ℕ) × IsMessage arguments.hex arguments.text message
    × IsMacMessage arguments.cmac message
MeetsMac arguments fault = Unit {0}

-- why they are refused: the first of the faults, in their order; memory that is refused may come
-- before the text
abbrev pub IsMacRefused : MacArguments → Fault → Type 0
IsMacRefused arguments OutOfMemory = (arguments.hex ≡ true) × MeetsMac arguments KeyRefused
IsMacRefused arguments fault =
    IsFirst fault_rank (MeetsMac arguments) (λ fault. ¬ MeetsMac arguments fault) fault

-- the command `mac`
abbrev pub mac_of : MacArguments → Command
mac_of arguments = command_of (IsMacText arguments) (IsMacRefused arguments)
