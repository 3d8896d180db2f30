-- A script from its bytes to the lines of its outcomes: this project's own.
use Rattle.std.specs.Prelude.{◌≡◌, ◌⊎◌, ℕ, List}
use Rattle.duk_config.specs.ConfigFile.{IsConfigFault, IsConfigFile}
use Rattle.duk_config.specs.Settings.{Settings}
use Rattle.duk_config.specs.declared.fault.ScriptFault.{ScriptFault}
use Rattle.duk_config.specs.declared.fault.ScriptFault.TheVariants as fault
use Rattle.duk_io.specs.Known.{Known}
use Rattle.duk_io.specs.Sink.{IsUntouched}
use Rattle.duk_net.specs.declared.event.Event.{Event}
use Rattle.duk_script.specs.Play.{ArePlayed, IsPlayed, PlayRefused}
use Rattle.duk_script.specs.Script.{IsNoScript, IsScript}
use Rattle.duk_script.specs.WholeText.{IsReadWhole, ReadRefused}

-- what the reader of a script and the writer of its lines make known before and after
pub record Session : Type 0 where
  pub reader_before : Known
  pub reader_after : Known
  pub writer_before : Known
  pub writer_after : Known

abbrev pub session : Known → Known → Known → Known → Session
session reader_before reader_after writer_before writer_after = record {
  reader_before = reader_before;
  reader_after = reader_after;
  writer_before = writer_before;
  writer_after = writer_after;
}

-- nothing was written
abbrev pub IsQuietSession : Session → Type 0
IsQuietSession s = IsUntouched s.writer_before s.writer_after

-- the text is a script, and it is played to its end under a configuration
pub record IsScriptDone (config : Settings) (text : List ℕ) (old new : Known) : Type 0 where
  pub events : List Event
  pub script : IsScript text events
  pub played : IsPlayed (ArePlayed config) events old new

-- a line of the text is no event, and nothing is written
pub record IsNotAScript (text : List ℕ) (line : ℕ) (old new : Known) : Type 0 where
  pub cause : IsNoScript text line
  pub quiet : IsUntouched old new

-- the text is a script, and not all of it is done and written
pub record IsPlayStopped (config : Settings) (text : List ℕ) (old new : Known) (why : ScriptFault)
    : Type 0 where
  pub events : List Event
  pub script : IsScript text events
  pub cause : PlayRefused (ArePlayed config) events old new why

-- why a text is not played to its end under a configuration
abbrev pub IsScriptRefused : Settings → List ℕ → Known → Known → ScriptFault → Type 0
IsScriptRefused config text old new (fault.NotAnEvent line) = IsNotAScript text line old new
IsScriptRefused config text old new fault.WriteFailed =
    IsPlayStopped config text old new fault.WriteFailed
IsScriptRefused config text old new fault.NoMemory =
    IsUntouched old new ⊎ IsPlayStopped config text old new fault.NoMemory
IsScriptRefused config text old new _ = ⊥

-- the bytes are a configuration, the script is read, and it is played to its end
pub record IsRunDone (bytes : List ℕ) (s : Session) : Type 0 where
  pub config : Settings
  pub config_is : IsConfigFile bytes config
  pub text : List ℕ
  pub text_is : IsReadWhole s.reader_before s.reader_after text
  pub done : IsScriptDone config text s.writer_before s.writer_after

-- the configuration is refused: nothing is read of the script, and nothing is written
pub record IsConfigRefusedFirst (bytes : List ℕ) (s : Session) (why : ScriptFault) : Type 0 where
  pub cause : IsConfigFault bytes why
  pub unread : s.reader_after ≡ s.reader_before
  pub quiet : IsQuietSession s

-- the bytes are a configuration, the script cannot be read, and nothing is written
pub record IsScriptUnread (bytes : List ℕ) (s : Session) (why : ScriptFault) : Type 0 where
  pub config : Settings
  pub config_is : IsConfigFile bytes config
  pub cause : ReadRefused s.reader_before s.reader_after why
  pub quiet : IsQuietSession s

-- the bytes are a configuration, and the script is read, and refused under it
pub record IsRefusedUnder (bytes : List ℕ) (s : Session) (why : ScriptFault) : Type 0 where
  pub config : Settings
  pub config_is : IsConfigFile bytes config
  pub text : List ℕ
  pub text_is : IsReadWhole s.reader_before s.reader_after text
  pub refused : IsScriptRefused config text s.writer_before s.writer_after why

-- why a script is not read and played to its end under a configuration's bytes: the first of these
abbrev pub IsRunRefused : List ℕ → Session → ScriptFault → Type 0
IsRunRefused bytes s why =
    IsConfigRefusedFirst bytes s why ⊎ IsScriptUnread bytes s why ⊎ IsRefusedUnder bytes s why
