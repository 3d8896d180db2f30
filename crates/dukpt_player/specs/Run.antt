-- What a run of the player answers (this project's own, over the definitions of `dukpt run`).
use Rattle.std.specs.Prelude.{◌≡◌, ◌≢◌, ◌<◌, ◌⊎◌, ℕ, Bool, false, true, List, [], Some, None, length}
use Rattle.duk_calls.specs.Answer.{Buffer, filled}
use Rattle.duk_config.specs.ConfigFile.{IsConfigFault, IsConfigFile}
use Rattle.duk_config.specs.FaultText.{script_fault_text}
use Rattle.duk_config.specs.Settings.{Settings}
use Rattle.duk_config.specs.declared.fault.ScriptFault.{ScriptFault}
use Rattle.duk_config.specs.declared.fault.ScriptFault.TheVariants as fault
use Rattle.duk_io.specs.Known.{Known}
use Rattle.duk_play.specs.Script as tills
use Rattle.duk_play.specs.Session as tills_session
use Rattle.duk_script.specs.Script as terminals
use Rattle.duk_script.specs.Session as terminals_session
use Rattle.dukpt_player.specs.Ending.{ending_line, ending_number}
use Rattle.dukpt_player.specs.declared.ending.Ending.{Ending}
use Rattle.dukpt_player.specs.declared.ending.Ending.TheVariants as ending

-- what a list of bytes makes known, to which lines are written
abbrev pub holding : List ℕ → Known
holding bytes = record { contents = Some bytes; failures = None }

-- a script is played to its end under a configuration, and these are its lines: over a journal, or
-- over a log
abbrev pub IsRunUnder : Bool → Settings → List ℕ → List ℕ → Type 0
IsRunUnder true config script lines =
    tills_session.IsScriptDone config script (holding []) (holding lines)
IsRunUnder false config script lines =
    terminals_session.IsScriptDone config script (holding []) (holding lines)

-- the bytes are a configuration, and these are the lines of the script under it
pub record IsRun (journal : Bool) (bytes script lines : List ℕ) : Type 0 where
  pub config : Settings
  pub config_is : IsConfigFile bytes config
  pub played : IsRunUnder journal config script lines

-- the line of this number, counted from 1, is the first that is no event of a script over a journal,
-- or over a log
abbrev pub IsBadLine : Bool → List ℕ → ℕ → Type 0
IsBadLine true = tills.IsNoScript
IsBadLine false = terminals.IsNoScript

-- the bytes are a configuration, and this line of the script is no event
pub record IsBadScript (journal : Bool) (bytes script : List ℕ) (line : ℕ) : Type 0 where
  pub config : Settings
  pub config_is : IsConfigFile bytes config
  pub bad_line : IsBadLine journal script line

-- why a script is not played under the bytes of a configuration, where memory was not refused
abbrev pub IsCause : Bool → List ℕ → List ℕ → ScriptFault → Type 0
IsCause journal bytes script (fault.NotAnEvent line) = IsBadScript journal bytes script line
IsCause journal bytes script fault.NoMemory = ⊥
IsCause journal bytes script fault.WriteFailed = ⊥
IsCause journal bytes script why = IsConfigFault bytes why

-- the text of a run: the lines of the script, or why it is not played
abbrev pub IsTextOf : Bool → List ℕ → List ℕ → List ℕ → Type 0
IsTextOf journal bytes script text =
    IsRun journal bytes script text
    ⊎ ((why : ScriptFault) × IsCause journal bytes script why × (text ≡ script_fault_text why))

-- the lines of the script are written
pub record HasPlayed (journal : Bool) (bytes script : List ℕ) (old new : Buffer) : Type 0 where
  pub lines : List ℕ
  pub run : IsRun journal bytes script lines
  pub written : new ≡ filled lines old

-- the bytes are no configuration, and why is written
pub record HasBadConfig (bytes : List ℕ) (old new : Buffer) : Type 0 where
  pub why : ScriptFault
  pub cause : IsConfigFault bytes why
  pub not_memory : why ≢ fault.NoMemory
  pub written : new ≡ filled (script_fault_text why) old

-- a line of the script is no event, and that is written
pub record HasBadScript (journal : Bool) (bytes script : List ℕ) (line : ℕ) (old new : Buffer)
    : Type 0 where
  pub cause : IsBadScript journal bytes script line
  pub written : new ≡ filled (script_fault_text (fault.NotAnEvent line)) old

-- the text does not fit, and nothing is written
pub record HasNoRoom (journal : Bool) (bytes script : List ℕ) (old new : Buffer) : Type 0 where
  pub text : List ℕ
  pub text_is : IsTextOf journal bytes script text
  pub short : length old.bytes < length text
  pub unwritten : new ≡ old

-- how a run ends
abbrev pub RunAnswers : Bool → List ℕ → List ℕ → Buffer → Buffer → Ending → Type 0
RunAnswers journal bytes script old new ending.Played = HasPlayed journal bytes script old new
RunAnswers journal bytes script old new ending.BadConfig = HasBadConfig bytes old new
RunAnswers journal bytes script old new (ending.NotAnEvent line) =
    HasBadScript journal bytes script line old new
RunAnswers journal bytes script old new ending.NoMemory = new ≡ old
RunAnswers journal bytes script old new ending.NoRoom = HasNoRoom journal bytes script old new

-- the status and the line are those of an ending of which this holds
pub record Reports (status line : ℕ) (Holds : Ending → Type 0) : Type 0 where
  pub ending : Ending
  pub status_is : status ≡ ending_number ending
  pub line_is : line ≡ ending_line ending
  pub holds : Holds ending
