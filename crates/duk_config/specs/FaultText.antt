-- The text of each fault of a configuration or a script: this project's own.
use Rattle.std.specs.Prelude.{ℕ, List, ◌++◌, codes, decimal, string_bytes}
use Rattle.duk_config.specs.ConfigKeys.{key_name}
use Rattle.duk_config.specs.declared.fault.ScriptFault.{ScriptFault}
use Rattle.duk_config.specs.declared.fault.ScriptFault.TheVariants as fault

-- the text of a fault; entries and lines are counted from 1
abbrev pub script_fault_text : ScriptFault → List ℕ
script_fault_text fault.ConfigTooLong = codes "config: too long"
script_fault_text fault.NotToml = codes "config: not TOML"
script_fault_text (fault.UnknownKey name) = codes "config: unknown " ++ string_bytes name
script_fault_text (fault.BadKey key) = codes "config: bad " ++ key_name key
script_fault_text (fault.BadEntry key place) =
    codes "config: bad " ++ key_name key ++ codes " " ++ decimal place
script_fault_text fault.CannotRead = codes "script: cannot read"
script_fault_text fault.TooLong = codes "script: too long"
script_fault_text (fault.NotAnEvent line) = codes "line " ++ decimal line ++ codes ": not an event"
script_fault_text fault.WriteFailed = codes "script: write failed"
script_fault_text fault.NoMemory = codes "out of memory"
