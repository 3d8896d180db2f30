-- Why the values at a key state no entries: this project's own, as a private function of
-- `read_config` answers.
use Rattle.std.specs.Prelude.{◌≡◌, List}
use Rattle.toml.specs.Data.{Data}
use Rattle.duk_config.specs.declared.fault.ConfigKey.{ConfigKey}
use Rattle.duk_config.specs.declared.fault.ScriptFault.{ScriptFault}
use Rattle.duk_config.specs.declared.fault.ScriptFault.TheVariants as fault
use Rattle.duk_config.specs.Entries.{IsFirstBadEntry}

-- an entry of this key is the first that is bad, or memory is refused
abbrev pub IsEntriesFault : {Entry : Type 0} → (Data → Entry → Type 0) → (Entry → Entry → Type 0)
    → ConfigKey → List Data → ScriptFault → Type 0
IsEntriesFault States Repeats key values (fault.BadEntry reported place) =
    (reported ≡ key) × IsFirstBadEntry States Repeats values place
IsEntriesFault States Repeats key values fault.NoMemory = Unit {0}
IsEntriesFault States Repeats key values _ = ⊥
