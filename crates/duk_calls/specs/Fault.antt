-- The faults of the calls, by their numbers and names: this project's own.
use Rattle.std.specs.Prelude.{ℕ, List, ◌++◌, codes}
use Rattle.duk_block.specs.FaultName.{block_fault_name}
use Rattle.duk_block.specs.declared.fault.BlockFault.TheVariants as block
use Rattle.duk_pin.specs.FaultName.{pin_fault_name}
use Rattle.duk_pin.specs.declared.fault.PinFault.TheVariants as pin
use Rattle.duk_calls.specs.declared.fault.Fault.{Fault}
use Rattle.duk_calls.specs.declared.fault.Fault.TheVariants as fault

-- a fault's number, as other languages see it
abbrev pub fault_number : Fault → ℕ
fault_number fault.Length = 1
fault_number fault.NotInitial = 2
fault_number fault.NotUsable = 3
fault_number fault.Spent = 4
fault_number fault.NotAnImage = 5
fault_number fault.IksnSpent = 6
fault_number fault.LoadsSpent = 7
fault_number (fault.Pin pin.PinLength) = 8
fault_number (fault.Pin pin.PinDigit) = 9
fault_number (fault.Pin pin.PanLength) = 10
fault_number (fault.Pin pin.PanDigit) = 11
fault_number fault.NotAPinBlock = 12
fault_number (fault.Block block.Length) = 13
fault_number (fault.Block block.Version) = 14
fault_number (fault.Block block.HeaderField) = 15
fault_number (fault.Block block.OptionalBlock) = 16
fault_number (fault.Block block.Hex) = 17
fault_number (fault.Block block.Mac) = 18
fault_number (fault.Block block.Payload) = 19
fault_number (fault.Block block.PadLength) = 20
fault_number fault.NotARequest = 21
fault_number fault.NotAReply = 22
fault_number fault.NotARefusal = 23
fault_number fault.NotACode = 24
fault_number fault.NotAReason = 25
fault_number fault.NotMine = 26
fault_number fault.BadMac = 27
fault_number fault.PartOfFrame = 28
fault_number fault.TooLong = 29
fault_number fault.NotReversed = 30
fault_number fault.NotAReversal = 31
fault_number fault.NotAState = 32
fault_number fault.NotAReversalReply = 33
fault_number fault.OtherUsage = 34
fault_number fault.OtherKeyLength = 35
fault_number fault.NoOptionalBlock = 36
fault_number fault.NotAModule = 37
fault_number fault.WrongUse = 38
fault_number fault.PrefixTaken = 39
fault_number fault.SlotsFull = 40
fault_number fault.ZoneTaken = 41
fault_number fault.NoZone = 42
fault_number fault.NotACard = 43
fault_number fault.NotSettled = 44
fault_number fault.NoKeySet = 45

-- a fault's name
abbrev pub fault_name : Fault → List ℕ
fault_name fault.Length = codes "Length"
fault_name fault.NotInitial = codes "NotInitial"
fault_name fault.NotUsable = codes "NotUsable"
fault_name fault.Spent = codes "Spent"
fault_name fault.NotAnImage = codes "NotAnImage"
fault_name fault.IksnSpent = codes "IksnSpent"
fault_name fault.LoadsSpent = codes "LoadsSpent"
fault_name (fault.Pin why) = pin_fault_name why
fault_name fault.NotAPinBlock = codes "NotAPinBlock"
fault_name (fault.Block why) = codes "Block" ++ block_fault_name why
fault_name fault.NotARequest = codes "NotARequest"
fault_name fault.NotAReply = codes "NotAReply"
fault_name fault.NotARefusal = codes "NotARefusal"
fault_name fault.NotACode = codes "NotACode"
fault_name fault.NotAReason = codes "NotAReason"
fault_name fault.NotMine = codes "NotMine"
fault_name fault.BadMac = codes "BadMac"
fault_name fault.PartOfFrame = codes "PartOfFrame"
fault_name fault.TooLong = codes "TooLong"
fault_name fault.NotReversed = codes "NotReversed"
fault_name fault.NotAReversal = codes "NotAReversal"
fault_name fault.NotAState = codes "NotAState"
fault_name fault.NotAReversalReply = codes "NotAReversalReply"
fault_name fault.OtherUsage = codes "OtherUsage"
fault_name fault.OtherKeyLength = codes "OtherKeyLength"
fault_name fault.NoOptionalBlock = codes "NoOptionalBlock"
fault_name fault.NotAModule = codes "NotAModule"
fault_name fault.WrongUse = codes "WrongUse"
fault_name fault.PrefixTaken = codes "PrefixTaken"
fault_name fault.SlotsFull = codes "SlotsFull"
fault_name fault.ZoneTaken = codes "ZoneTaken"
fault_name fault.NoZone = codes "NoZone"
fault_name fault.NotACard = codes "NotACard"
fault_name fault.NotSettled = codes "NotSettled"
fault_name fault.NoKeySet = codes "NoKeySet"
