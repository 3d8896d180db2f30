-- The faults of `find`, their order, and the lines that report them (this project's own).
use Rattle.std.specs.Prelude.{ℕ, List, ◌++◌, codes}
use Rattle.duk_commands.specs.Fault.{line_end}
use Rattle.duk_commands.specs.declared.find_fault.FindFault.{FindFault}
use Rattle.duk_commands.specs.declared.find_fault.FindFault.TheVariants as fault

-- the order in which the faults of the arguments are reported; the others stand behind them
abbrev pub find_rank : FindFault → ℕ
find_rank fault.BdkRefused = 0
find_rank fault.InitialRefused = 0
find_rank fault.WhatRefused = 1
find_rank fault.TextRefused = 2
find_rank fault.PanRefused = 3
find_rank fault.BlockRefused = 4
find_rank fault.KsnRefused = 5
find_rank fault.WindowRefused = 6
find_rank fault = 7

-- what is reported of a fault
abbrev pub find_text : FindFault → List ℕ
find_text fault.BdkRefused = codes "BDK refused"
find_text fault.InitialRefused = codes "initial refused"
find_text fault.WhatRefused = codes "WHAT refused"
find_text fault.TextRefused = codes "TEXT refused"
find_text fault.PanRefused = codes "PAN refused"
find_text fault.BlockRefused = codes "BLOCK refused"
find_text fault.KsnRefused = codes "KSN refused"
find_text fault.WindowRefused = codes "window refused"
find_text fault.NotFound = codes "not found"
find_text fault.OutOfMemory = codes "out of memory"
find_text fault.WriteFailed = codes "write failed"

-- the line of a fault
abbrev pub find_line : FindFault → List ℕ
find_line fault = find_text fault ++ line_end
