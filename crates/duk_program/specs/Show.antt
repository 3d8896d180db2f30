-- What `show` prints (this project's own, over what each kind of text says).
use Rattle.std.specs.Prelude.{◌≡◌, ◌≢◌, ◌⊎◌, ◌^◌, ⊤, ℕ, Bool, List, None, Option, Some, codes, false, true}
use Rattle.duk_arguments.specs.Request.{Written, flag_in, text_in}
use Rattle.duk_commands.specs.HandedOn.{HasFailed, HasHandedOn}
use Rattle.duk_commands.specs.declared.fault.Fault.TheVariants.{WriteFailed}
use Rattle.duk_commands.specs.declared.key_argument.KeyArgument.{KeyArgument}
use Rattle.duk_io.specs.Known.{Known}
use Rattle.duk_io.specs.Sink.{IsCut, IsUntouched, IsWritten}
use Rattle.duk_program.specs.Commands.{IsKeyOf}
use Rattle.duk_program.specs.declared.fault.Fault.{Fault}
use Rattle.duk_program.specs.declared.fault.Fault.TheVariants as fault
use Rattle.duk_service.specs.Files.{FileKnown, HasBytes, IsLongerThan, IsUnreadableFile}
use Rattle.duk_show.specs.Block.{IsBlockRefused, IsBlockText}
use Rattle.duk_show.specs.Frame.{IsFrameRefused, IsFrameText}
use Rattle.duk_show.specs.CheckedFrame.{IsCheckRefused, IsCheckedText}
use Rattle.duk_show.specs.Image.{IsImageRefused, IsImageText}
use Rattle.duk_show.specs.Journal.{IsJournalRefused, IsJournalText}
use Rattle.duk_show.specs.Ledger.{IsLedgerRefused, IsLedgerText}
use Rattle.duk_show.specs.Log.{IsLogRefused, IsLogText}
use Rattle.duk_show.specs.declared.fault.ShowFault.{ShowFault}
use Rattle.duk_show.specs.declared.fault.ShowFault.TheVariants.{JournalTooLong, JournalUnread, KindRefused, LedgerTooLong, LedgerUnread, LogTooLong, LogUnread, OutOfMemory}

-- the most bytes of a log, a journal or a ledger that comes through a pipe, and of a log that a fault is
-- explained by
abbrev pub longest_log : ℕ
longest_log = 2 ^ 30

-- the arguments of `show`: the kind, the text, or the path of a log, a journal or a ledger, whether keys are
-- shown, the key that tests the MAC of a frame, where there is one, and what the file under that path
-- holds
pub record ShowArguments : Type 0 where
  pub kind : List ℕ
  pub what : List ℕ
  pub show : Bool
  pub key : Option KeyArgument
  pub held : FileKnown

-- those arguments
abbrev pub show_arguments : List ℕ → List ℕ → Bool → Option KeyArgument → FileKnown → ShowArguments
show_arguments kind what show key held =
    record { kind = kind; what = what; show = show; key = key; held = held }

-- those of a request
abbrev pub show_asked : Written → Option KeyArgument → FileKnown → ShowArguments
show_asked asked key held = show_arguments (text_in (codes "KIND") asked)
    (text_in (codes "WHAT") asked) (flag_in (codes "show") asked) key held

-- the key that a request has for the MAC of a frame, where it has one
abbrev pub IsKeyOfFrame : Written → Option KeyArgument → Type 0
IsKeyOfFrame asked None = flag_in (codes "key") asked ≡ false
IsKeyOfFrame asked (Some key) = (flag_in (codes "key") asked ≡ true)
    × IsKeyOf (text_in (codes "key") asked) (flag_in (codes "initial") asked) key

-- the lines of a frame, whose MAC is tested where there is a key
abbrev pub IsFrameShown : List ℕ → Bool → Option KeyArgument → List ℕ → Type 0
IsFrameShown what show None text = IsFrameText what text
IsFrameShown what show (Some key) text = IsCheckedText key what show text

-- why no frame is shown
abbrev pub IsFrameUnshown : List ℕ → Bool → Option KeyArgument → ShowFault → Type 0
IsFrameUnshown what show None why = IsFrameRefused what why
IsFrameUnshown what show (Some key) why = IsCheckRefused key what why

-- the lines of the log that a file holds
pub record IsLogFileText (held : FileKnown) (text : List ℕ) : Type 0 where
  pub bytes : List ℕ
  pub read : HasBytes held bytes
  pub is_text : IsLogText bytes text

-- the file holds what is no log
pub record HasNoLog (held : FileKnown) (why : ShowFault) : Type 0 where
  pub bytes : List ℕ
  pub read : HasBytes held bytes
  pub cause : IsLogRefused bytes why

-- why the log of a file is not shown; memory may be refused at any time
abbrev pub IsLogFileRefused : FileKnown → ShowFault → Type 0
IsLogFileRefused held LogUnread = IsUnreadableFile held
IsLogFileRefused held LogTooLong = IsLongerThan longest_log held
IsLogFileRefused held OutOfMemory = ⊤
IsLogFileRefused held why = HasNoLog held why

-- the lines of the journal that a file holds
pub record IsJournalFileText (held : FileKnown) (text : List ℕ) : Type 0 where
  pub bytes : List ℕ
  pub read : HasBytes held bytes
  pub is_text : IsJournalText bytes text

-- the file holds what is no journal
pub record HasNoJournal (held : FileKnown) (why : ShowFault) : Type 0 where
  pub bytes : List ℕ
  pub read : HasBytes held bytes
  pub cause : IsJournalRefused bytes why

-- why the journal of a file is not shown; memory may be refused at any time
abbrev pub IsJournalFileRefused : FileKnown → ShowFault → Type 0
IsJournalFileRefused held JournalUnread = IsUnreadableFile held
IsJournalFileRefused held JournalTooLong = IsLongerThan longest_log held
IsJournalFileRefused held OutOfMemory = ⊤
IsJournalFileRefused held why = HasNoJournal held why

-- the lines of the ledger that a file holds
pub record IsLedgerFileText (held : FileKnown) (text : List ℕ) : Type 0 where
  pub bytes : List ℕ
  pub read : HasBytes held bytes
  pub is_text : IsLedgerText bytes text

-- the file holds what is no ledger
pub record HasNoLedgerShown (held : FileKnown) (why : ShowFault) : Type 0 where
  pub bytes : List ℕ
  pub read : HasBytes held bytes
  pub cause : IsLedgerRefused bytes why

-- why the ledger of a file is not shown; memory may be refused at any time
abbrev pub IsLedgerFileRefused : FileKnown → ShowFault → Type 0
IsLedgerFileRefused held LedgerUnread = IsUnreadableFile held
IsLedgerFileRefused held LedgerTooLong = IsLongerThan longest_log held
IsLedgerFileRefused held OutOfMemory = ⊤
IsLedgerFileRefused held why = HasNoLedgerShown held why

-- the lines of a text of its kind
abbrev pub IsShowText : ShowArguments → List ℕ → Type 0
IsShowText arguments text =
    ((arguments.kind ≡ codes "frame")
    × IsFrameShown arguments.what arguments.show arguments.key text)
    ⊎ ((arguments.kind ≡ codes "block") × IsBlockText arguments.what text)
    ⊎ ((arguments.kind ≡ codes "image") × IsImageText arguments.what arguments.show text)
    ⊎ ((arguments.kind ≡ codes "log") × IsLogFileText arguments.held text)
    ⊎ ((arguments.kind ≡ codes "journal") × IsJournalFileText arguments.held text)
    ⊎ ((arguments.kind ≡ codes "ledger") × IsLedgerFileText arguments.held text)

-- there is no such kind
pub record IsNoKind (kind : List ℕ) : Type 0 where
  pub no_frame : kind ≢ codes "frame"
  pub no_block : kind ≢ codes "block"
  pub no_image : kind ≢ codes "image"
  pub no_log : kind ≢ codes "log"
  pub no_journal : kind ≢ codes "journal"
  pub no_ledger : kind ≢ codes "ledger"

-- why nothing is shown; memory may be refused at any time
abbrev pub IsShowRefused : ShowArguments → ShowFault → Type 0
IsShowRefused arguments why =
    ((arguments.kind ≡ codes "frame")
    × IsFrameUnshown arguments.what arguments.show arguments.key why)
    ⊎ ((arguments.kind ≡ codes "block") × IsBlockRefused arguments.what why)
    ⊎ ((arguments.kind ≡ codes "image") × IsImageRefused arguments.what why)
    ⊎ ((arguments.kind ≡ codes "log") × IsLogFileRefused arguments.held why)
    ⊎ ((arguments.kind ≡ codes "journal") × IsJournalFileRefused arguments.held why)
    ⊎ ((arguments.kind ≡ codes "ledger") × IsLedgerFileRefused arguments.held why)
    ⊎ (IsNoKind arguments.kind × (why ≡ KindRefused))
    ⊎ (why ≡ OutOfMemory)

-- the lines are written
pub record IsShown (arguments : ShowArguments) (old new : Known) : Type 0 where
  pub text : List ℕ
  pub asked : IsShowText arguments text
  pub written : IsWritten old new text

-- nothing is shown, for this reason
pub record IsRefusedToShow (arguments : ShowArguments) (old : Known) (why : Fault) (new : Known)
    : Type 0 where
  pub cause : ShowFault
  pub why_is : why ≡ fault.Show cause
  pub refused : IsShowRefused arguments cause
  pub no_output : IsUntouched old new

-- the lines are begun, and a write failed
pub record IsShownInPart (arguments : ShowArguments) (old new : Known) : Type 0 where
  pub text : List ℕ
  pub asked : IsShowText arguments text
  pub cut : IsCut old new text

-- why the lines are not written
abbrev pub IsNotShown : ShowArguments → Known → Fault → Known → Type 0
IsNotShown arguments old why new =
    IsRefusedToShow arguments old why new
    ⊎ ((why ≡ fault.Command WriteFailed) × IsShownInPart arguments old new)

-- the lines are written, and handed on
abbrev pub HasShownText : ShowArguments → Known → Known → Type 0
HasShownText arguments old = HasHandedOn (IsShown arguments old)

-- why they are not
abbrev pub HasNotShownText : ShowArguments → Known → Fault → Known → Type 0
HasNotShownText arguments old =
    HasFailed (IsShown arguments old) (IsNotShown arguments old) (fault.Command WriteFailed)

-- what the arguments of a request ask to be shown is shown
abbrev pub HasShownAsked : Written → FileKnown → Known → Known → Type 0
HasShownAsked asked held old new = (key : Option KeyArgument) × IsKeyOfFrame asked key
    × HasShownText (show_asked asked key held) old new

-- why it is not
abbrev pub HasNotShownAsked : Written → FileKnown → Known → Fault → Known → Type 0
HasNotShownAsked asked held old why new = (key : Option KeyArgument) × IsKeyOfFrame asked key
    × HasNotShownText (show_asked asked key held) old why new
