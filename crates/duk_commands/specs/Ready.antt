-- Whether a batch can begin: what its arguments beside the item must meet (this project's own). One
-- that is at fault is at fault for each item.
use Rattle.std.specs.Prelude.{ℕ, List, Option, All, IsSome}
use Rattle.std.specs.Char.{IsAsciiDigit}
use Rattle.duk_commands.specs.Fault.{fault_rank}
use Rattle.duk_commands.specs.Pin.{IsKeyArgument}
use Rattle.duk_commands.specs.declared.fault.Fault.{Fault}
use Rattle.duk_commands.specs.declared.fault.Fault.TheVariants.{KbpkRefused, KeyRefused, PinRefused}
use Rattle.duk_io.specs.FirstFault.{IsFirst}
use Rattle.duk_pin.specs.Pan.{HasPanLength}
use Rattle.duk_pin.specs.Pin.{HasPinLength}
use Rattle.duk_pin.specs.declared.fault.PinFault.TheVariants.{PinLength, PinDigit, PanLength, PanDigit}
use Rattle.duk_tdes.specs.KeyText.{tdes_key_of_text}

-- the arguments beside the item meet what they must, or else are refused with this fault
abbrev pub AreReady : (Fault → Type 0) → Type 0
AreReady meets = (fault : Fault) → meets fault

-- why they are not: the first of the faults, in their order, whose condition they do not meet
abbrev pub AreNotReady : (Fault → Type 0) → Fault → Type 0
AreNotReady meets = IsFirst fault_rank meets (λ fault. ¬ meets fault)

-- of `pin` where PINs are the items: PAN, and KEY where it is given
abbrev pub MeetsOfPins : List ℕ → Option (List ℕ) → Fault → Type 0
MeetsOfPins pan argument (PinRefused PanLength) = HasPanLength pan
MeetsOfPins pan argument (PinRefused PanDigit) = All IsAsciiDigit pan
MeetsOfPins pan argument KeyRefused = (key : Option (List ℕ)) × IsKeyArgument argument key
MeetsOfPins pan argument fault = Unit {0}

-- of `pin` where PANs are the items: PIN, and KEY where it is given
abbrev pub MeetsOfPans : List ℕ → Option (List ℕ) → Fault → Type 0
MeetsOfPans pin argument (PinRefused PinLength) = HasPinLength pin
MeetsOfPans pin argument (PinRefused PinDigit) = All IsAsciiDigit pin
MeetsOfPans pin argument KeyRefused = (key : Option (List ℕ)) × IsKeyArgument argument key
MeetsOfPans pin argument fault = Unit {0}

-- of `unwrap` where key blocks are the items: KBPK
abbrev pub MeetsOfBlocks : List ℕ → Fault → Type 0
MeetsOfBlocks kbpk KbpkRefused = IsSome (tdes_key_of_text kbpk)
MeetsOfBlocks kbpk fault = Unit {0}
