-- The fields of a frame that may be wrong: this project's own.
use Rattle.std.specs.Prelude.{ℕ, List, codes}
use Rattle.duk_show.specs.declared.frame_fault.FrameFault.{FrameFault}
use Rattle.duk_show.specs.declared.frame_fault.FrameFault.TheVariants as fault

-- a fault's name, as its line has it
abbrev pub frame_fault_name : FrameFault → List ℕ
frame_fault_name fault.Hex = codes "Hex"
frame_fault_name fault.Length = codes "Length"
frame_fault_name fault.Version = codes "Version"
frame_fault_name fault.Kind = codes "Kind"
frame_fault_name fault.Size = codes "Size"
frame_fault_name fault.PanLength = codes "PanLength"
frame_fault_name fault.PanDigit = codes "PanDigit"
frame_fault_name fault.Code = codes "Code"
frame_fault_name fault.Reason = codes "Reason"
frame_fault_name fault.Reversed = codes "Reversed"
frame_fault_name fault.State = codes "State"

-- the byte at which the field of a fault begins; a text that is no hexadecimal has no bytes
abbrev pub frame_place : FrameFault → ℕ
frame_place fault.Hex = 0
frame_place fault.Length = 0
frame_place fault.Version = 2
frame_place fault.Kind = 3
frame_place fault.Size = 0
frame_place fault.PanLength = 14
frame_place fault.PanDigit = 15
frame_place fault.Code = 14
frame_place fault.Reason = 14
frame_place fault.Reversed = 14
frame_place fault.State = 24
