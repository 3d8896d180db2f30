-- A script of tills from its bytes to the lines of its outcomes: this project's own.
use Rattle.std.specs.Prelude.{◌⊎◌, ℕ, List}
use Rattle.duk_books.specs.declared.event.Event.{Event}
use Rattle.duk_config.specs.Settings.{Settings}
use Rattle.duk_config.specs.declared.fault.ScriptFault.{ScriptFault}
use Rattle.duk_config.specs.declared.fault.ScriptFault.TheVariants as fault
use Rattle.duk_io.specs.Known.{Known}
use Rattle.duk_io.specs.Sink.{IsUntouched}
use Rattle.duk_play.specs.Play.{ArePlayed, IsPlayed, PlayRefused}
use Rattle.duk_play.specs.Script.{IsNoScript, IsScript}

-- the text is a script, and it is played to its end under a configuration
pub record IsScriptDone (config : Settings) (text : List ℕ) (old new : Known) : Type 0 where
  pub events : List Event
  pub script : IsScript text events
  pub played : IsPlayed (ArePlayed config) events old new

-- a line of the text is no event, and nothing is written
pub record IsNotAScript (text : List ℕ) (line : ℕ) (old new : Known) : Type 0 where
  pub cause : IsNoScript text line
  pub quiet : IsUntouched old new

-- the text is a script, and not all of it is done and written
pub record IsPlayStopped (config : Settings) (text : List ℕ) (old new : Known) (why : ScriptFault)
    : Type 0 where
  pub events : List Event
  pub script : IsScript text events
  pub cause : PlayRefused (ArePlayed config) events old new why

-- why a text is not played to its end under a configuration
abbrev pub IsScriptRefused : Settings → List ℕ → Known → Known → ScriptFault → Type 0
IsScriptRefused config text old new (fault.NotAnEvent line) = IsNotAScript text line old new
IsScriptRefused config text old new fault.WriteFailed =
    IsPlayStopped config text old new fault.WriteFailed
IsScriptRefused config text old new fault.NoMemory =
    IsUntouched old new ⊎ IsPlayStopped config text old new fault.NoMemory
IsScriptRefused config text old new _ = ⊥
