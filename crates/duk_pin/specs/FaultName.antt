-- The names of the faults of PINs and PANs: this project's own.
use Rattle.std.specs.Prelude.{ℕ, List, codes}
use Rattle.duk_pin.specs.declared.fault.PinFault.{PinFault}
use Rattle.duk_pin.specs.declared.fault.PinFault.TheVariants as fault

-- a fault's name, as each command and each line that reports it writes it
abbrev pub pin_fault_name : PinFault → List ℕ
pin_fault_name fault.PinLength = codes "PinLength"
pin_fault_name fault.PinDigit = codes "PinDigit"
pin_fault_name fault.PanLength = codes "PanLength"
pin_fault_name fault.PanDigit = codes "PanDigit"
