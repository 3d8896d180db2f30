-- The order of the faults of the commands, and the lines that report them (this project's own).
use Rattle.std.specs.Prelude.{ℕ, ◌+◌, List, [], ◌∷◌, ◌++◌, codes}
use Rattle.duk_block.specs.FaultName.{block_fault_name}
use Rattle.duk_block.specs.Faults.{rank}
use Rattle.duk_pin.specs.FaultName.{pin_fault_name}
use Rattle.duk_pin.specs.declared.fault.PinFault.{PinFault}
use Rattle.duk_pin.specs.declared.fault.PinFault.TheVariants.{PinLength, PinDigit, PanLength, PanDigit}
use Rattle.duk_commands.specs.declared.fault.Fault.{Fault}
use Rattle.duk_commands.specs.declared.fault.Fault.TheVariants.{BdkRefused, InitialRefused, KsnRefused, IksnRefused, CountRefused, CounterRefused, KbpkRefused, FieldsRefused, KeyRefused, PadRefused, PinBlockRefused, ZoneRefused, TextRefused, AmountRefused, NumberRefused, OtherIksn, SameNumber, NotUsable, RequestRefused, AnswerRefused, PinRefused, BlockRefused, NotAPinBlock, NotMine, BadMac, OutOfMemory, WriteFailed}

-- the order of the faults of a PIN and a PAN
abbrev pub pin_rank : PinFault → ℕ
pin_rank PinLength = 0
pin_rank PinDigit = 1
pin_rank PanLength = 2
pin_rank PanDigit = 3

-- the order in which each command reports the faults that it has
abbrev pub fault_rank : Fault → ℕ
fault_rank PinBlockRefused = 0
fault_rank (PinRefused fault) = pin_rank fault
fault_rank BdkRefused = 4
fault_rank InitialRefused = 4
fault_rank KsnRefused = 5
fault_rank IksnRefused = 6
fault_rank CountRefused = 7
fault_rank CounterRefused = 8
fault_rank KbpkRefused = 9
fault_rank FieldsRefused = 10
fault_rank KeyRefused = 11
fault_rank ZoneRefused = 11
fault_rank PadRefused = 12
fault_rank TextRefused = 12
fault_rank AmountRefused = 12
fault_rank NumberRefused = 12
fault_rank OtherIksn = 13
fault_rank SameNumber = 14
fault_rank NotUsable = 15
fault_rank (BlockRefused fault) = 13 + rank fault
fault_rank RequestRefused = 13
fault_rank AnswerRefused = 14
fault_rank NotMine = 15
fault_rank BadMac = 16
fault_rank NotAPinBlock = 17
fault_rank OutOfMemory = 21
fault_rank WriteFailed = 22

-- the end of a line, LF
abbrev pub line_end : List ℕ
line_end = 10 ∷ []

-- what is reported of a fault
abbrev pub fault_text : Fault → List ℕ
fault_text BdkRefused = codes "BDK refused"
fault_text InitialRefused = codes "initial refused"
fault_text KsnRefused = codes "KSN refused"
fault_text IksnRefused = codes "IKSN refused"
fault_text CountRefused = codes "count refused"
fault_text CounterRefused = codes "counter refused"
fault_text KbpkRefused = codes "KBPK refused"
fault_text FieldsRefused = codes "fields refused"
fault_text KeyRefused = codes "key refused"
fault_text PadRefused = codes "pad refused"
fault_text PinBlockRefused = codes "block refused"
fault_text ZoneRefused = codes "zone refused"
fault_text TextRefused = codes "text refused"
fault_text AmountRefused = codes "amount refused"
fault_text NumberRefused = codes "number refused"
fault_text OtherIksn = codes "OtherIksn"
fault_text SameNumber = codes "SameNumber"
fault_text NotUsable = codes "NotUsable"
fault_text RequestRefused = codes "request refused"
fault_text AnswerRefused = codes "answer refused"
fault_text (PinRefused fault) = pin_fault_name fault
fault_text (BlockRefused fault) = block_fault_name fault
fault_text NotAPinBlock = codes "NotAPinBlock"
fault_text NotMine = codes "NotMine"
fault_text BadMac = codes "BadMac"
fault_text OutOfMemory = codes "out of memory"
fault_text WriteFailed = codes "write failed"

-- the line of a fault
abbrev pub report_line : Fault → List ℕ
report_line fault = fault_text fault ++ line_end
