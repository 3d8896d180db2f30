-- What only private functions and proofs say beside `Run.antt`: this project's own.
use Rattle.std.specs.Prelude.{◌≡◌, ◌<◌, ◌⊎◌, ℕ, Bool, false, true, List, length}
use Rattle.duk_calls.specs.Answer.{Buffer, filled}
use Rattle.duk_config.specs.FaultText.{script_fault_text}
use Rattle.duk_config.specs.declared.fault.ScriptFault.{ScriptFault}
use Rattle.duk_config.specs.declared.fault.ScriptFault.TheVariants as fault
use Rattle.dukpt_player.specs.Run.{IsBadLine, IsCause}
use Rattle.dukpt_player.specs.declared.ending.Ending.{Ending}
use Rattle.dukpt_player.specs.declared.ending.Ending.TheVariants as ending

-- memory was refused, for whatever it was wanted
abbrev pub IsOutOfMemory : ScriptFault → Type 0
IsOutOfMemory fault.NoMemory = Unit {0}
IsOutOfMemory fault.WriteFailed = Unit {0}
IsOutOfMemory _ = ⊥

-- why a script is not played under a configuration
abbrev pub IsRefusedUnder : Bool → List ℕ → ScriptFault → Type 0
IsRefusedUnder journal script (fault.NotAnEvent line) = IsBadLine journal script line
IsRefusedUnder journal script why = IsOutOfMemory why

-- why a script is not played under the bytes of a configuration
abbrev pub IsRefused : Bool → List ℕ → List ℕ → ScriptFault → Type 0
IsRefused journal bytes script why = IsOutOfMemory why ⊎ IsCause journal bytes script why

-- the fault is of a configuration
abbrev pub IsOfConfig : ScriptFault → Type 0
IsOfConfig (fault.NotAnEvent line) = ⊥
IsOfConfig fault.NoMemory = ⊥
IsOfConfig fault.WriteFailed = ⊥
IsOfConfig _ = Unit {0}

-- a fault is told, and how its run ends
abbrev pub Tells : ScriptFault → Buffer → Buffer → Ending → Type 0
Tells why old new ending.Played = ⊥
Tells why old new ending.BadConfig = IsOfConfig why × (new ≡ filled (script_fault_text why) old)
Tells why old new (ending.NotAnEvent line) =
    (why ≡ fault.NotAnEvent line) × (new ≡ filled (script_fault_text why) old)
Tells why old new ending.NoMemory = new ≡ old
Tells why old new ending.NoRoom =
    ¬ IsOutOfMemory why × (length old.bytes < length (script_fault_text why)) × (new ≡ old)

-- bytes are written in the front of a slice, or they do not fit
abbrev pub WritesFront : List ℕ → Buffer → Buffer → Bool → Type 0
WritesFront front old new true = new ≡ filled front old
WritesFront front old new false = (length old.bytes < length front) × (new ≡ old)
