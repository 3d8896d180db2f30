-- The line of a fault of a configuration or a script (this project's own).
use Rattle.std.specs.Prelude.{ℕ, List, ◌++◌, codes}
use Rattle.duk_config.specs.FaultText.{script_fault_text}
use Rattle.duk_config.specs.declared.fault.ScriptFault.{ScriptFault}

-- the line of a fault: its text, and LF
abbrev pub fault_line : ScriptFault → List ℕ
fault_line why = script_fault_text why ++ codes "\n"
