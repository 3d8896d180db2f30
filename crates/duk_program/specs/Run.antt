-- What `run` answers (this project's own, over what the writer of lines makes known when they are
-- written).
use Rattle.std.specs.Prelude.{ℕ, Bool, false, true, List}
use Rattle.duk_commands.specs.HandedOn.{HasFailed, HasHandedOn}
use Rattle.duk_config.specs.Settings.{Settings}
use Rattle.duk_config.specs.declared.fault.ScriptFault.{ScriptFault}
use Rattle.duk_config.specs.declared.fault.ScriptFault.TheVariants.{WriteFailed}
use Rattle.duk_io.specs.Known.{Known}
use Rattle.duk_io.specs.Sink.{IsTried}
use Rattle.duk_play.specs.Session as play
use Rattle.duk_script.specs.FaultLine.{fault_line}
use Rattle.duk_script.specs.Session.{IsScriptDone, IsScriptRefused}

-- the script is played to its end: over a journal, or over a log
abbrev pub IsDoneOver : Bool → Settings → List ℕ → Known → Known → Type 0
IsDoneOver true = play.IsScriptDone
IsDoneOver false = IsScriptDone

-- why it is not
abbrev pub IsRefusedOver : Bool → Settings → List ℕ → Known → Known → ScriptFault → Type 0
IsRefusedOver true = play.IsScriptRefused
IsRefusedOver false = IsScriptRefused

-- the script is done, and its lines are handed on
abbrev pub HasPlayed : (Known → Type 0) → Known → Type 0
HasPlayed Done = HasHandedOn Done

-- why it is not, or its lines are lost
abbrev pub HasNotPlayed : (Known → Type 0) → (ScriptFault → Known → Type 0) → ScriptFault → Known
    → Type 0
HasNotPlayed Done Refused = HasFailed Done Refused WriteFailed

-- the same, and the line of the fault is written
pub record HasReportedRun (Done : Known → Type 0) (Refused : ScriptFault → Known → Type 0)
    (output' fault fault' : Known) : Type 0 where
  pub why : ScriptFault
  pub not_played : HasNotPlayed Done Refused why output'
  pub line : IsTried fault fault' (fault_line why)
