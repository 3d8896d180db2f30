-- What single functions make of a frame and of the index of some entries: this project's own.
use Rattle.std.specs.Prelude.{◌≡◌, ◌≤◌, ◌<◌, ◌-◌, ◌++◌, ◌∷◌, ℕ, List, [], All, Contains, None, Option, Result, drop, get_or, length, map, take}
use Rattle.std.specs.Option.{option_to_list}
use Rattle.duk_frame.specs.declared.code.Code.{Code}
use Rattle.duk_frame.specs.Request.{IsRequest}
use Rattle.duk_frame.specs.declared.request.Request.{Request}
use Rattle.duk_host.specs.Judgement.{Decision, IsOpenedTo, OpensRequest}
use Rattle.duk_host.specs.Used.{IsUsed}
use Rattle.duk_host.specs.declared.reason.Reason.{Reason}
use Rattle.duk_host.specs.declared.reason.Reason.TheVariants as reason
use Rattle.duk_hsm.specs.Commands.{HasBadCounter, IsOtherMac}
use Rattle.duk_hsm.specs.Group.{AreOpened, OpenedPlaces}
use Rattle.duk_hsm.specs.Keys.{HsmKeys, key_set_of}
use Rattle.duk_hsm.specs.TransactionKeys.{TransactionKeys}
use Rattle.duk_hsm.specs.declared.fault.HsmFault.{HsmFault}
use Rattle.duk_journal.specs.Entry.{MayStandUnder}
use Rattle.duk_journal.specs.Groups.{Entries}
use Rattle.duk_journal.specs.Standing.{payment_entry}
use Rattle.duk_journal.specs.declared.entry.Entry.{Entry}
use Rattle.duk_reversal.specs.Reversal.{IsReversal, reversal_text}
use Rattle.duk_reversal.specs.declared.reversal.Reversal as reversal_frame
use Rattle.duk_reversal.specs.declared.state.ReversalState.{ReversalState}
use Rattle.duk_tree.specs.Path.{IsUsable}
use Rattle.duk_tree.specs.Serial.{Serial, prefix_of}
use Rattle.duk_journal_host.specs.Host.{IndexOf, IsIndexOf}
use Rattle.duk_journal_host.specs.Judged.{AreJudged}
use Rattle.duk_journal_host.specs.Judgement.{IsJudged, MayBeTaken, line_basis, reversal_entry}

-- the bytes are no reversal
abbrev pub IsNoReversal : List ℕ → Type 0
IsNoReversal bytes = (reversal : reversal_frame.Reversal) → ¬ IsReversal bytes reversal

-- what opening the number of a frame gives: of a reversal the one that it uses, of a request its own.
-- Of other bytes nothing is said
pub record OpensFrame (keys : HsmKeys) (bytes : List ℕ) (opened : Result TransactionKeys HsmFault)
    : Type 0 where
  pub reversal : (reversal : reversal_frame.Reversal) → IsReversal bytes reversal
      → IsOpenedTo keys reversal.numbers.ksn opened
  pub request : IsNoReversal bytes → OpensRequest keys bytes opened

-- where the bytes are a request, this is its number
abbrev pub IsRequestNumber : List ℕ → Serial → Type 0
IsRequestNumber bytes ksn = (request : Request) → IsRequest bytes request → ksn ≡ request.ksn

-- the number of a frame
pub record IsNumberOf (bytes : List ℕ) (ksn : Serial) : Type 0 where
  pub reversal : (reversal : reversal_frame.Reversal) → IsReversal bytes reversal
      → ksn ≡ reversal.numbers.ksn
  pub request : IsNoReversal bytes → IsRequestNumber bytes ksn

-- the numbers of frames, in their order
abbrev pub AreNumbersOf : List (List ℕ) → List Serial → Type 0
AreNumbersOf [] [] = Unit {0}
AreNumbersOf (bytes ∷ frames) (ksn ∷ numbers) = IsNumberOf bytes ksn × AreNumbersOf frames numbers
AreNumbersOf _ _ = ⊥

-- the numbers of frames are opened together
pub record OpensFrames (keys : HsmKeys) (frames : List (List ℕ)) (opened : OpenedPlaces) : Type 0 where
  pub numbers : List Serial
  pub numbers_are : AreNumbersOf frames numbers
  pub are_opened : AreOpened keys numbers opened

-- the numbers of the frames between two places are opened together
abbrev pub OpensBetween :
    {A : Type 0} → HsmKeys → (A → List ℕ) → List A → ℕ → ℕ → OpenedPlaces → Type 0
OpensBetween keys bytes_of frames from to opened =
    OpensFrames keys (map bytes_of (take (to - from) (drop from frames))) opened

-- the payment with this number and this MAC is one of the latest entries of an index, with this code,
-- and is not undone
pub record IsCodeKept (index : IndexOf) (ksn : Serial) (mac : List ℕ) (code : Code) : Type 0 where
  pub amount : ℕ
  pub kept : Contains index.latest (payment_entry ksn amount code mac)
  pub not_undone : ¬ IsUsed index.reversed ksn

-- the reversal is one of the latest entries of an index, and found this then
abbrev pub IsStateKept : IndexOf → reversal_frame.Reversal → ReversalState → Type 0
IsStateKept index reversal state = Contains index.latest (reversal_entry reversal state)

-- why the MAC of a reversal is not verified. Each reason says that those before it do not hold
abbrev pub IsAgainstMac : HsmKeys → reversal_frame.Reversal → Reason → Type 0
IsAgainstMac keys reversal reason.UnknownKeySet =
    key_set_of keys (prefix_of reversal.numbers.ksn) ≡ None
IsAgainstMac keys reversal reason.BadCounter = HasBadCounter keys reversal.numbers.ksn
IsAgainstMac keys reversal reason.BadMac =
    IsOtherMac keys reversal.numbers.ksn (reversal_text reversal.numbers) reversal.mac
IsAgainstMac keys reversal _ = ⊥

-- by any entries of which the index is, there is no reason against the bytes
abbrev pub MayBeAccepted : HsmKeys → IndexOf → ℕ → ℕ → List ℕ → Type 0
MayBeAccepted keys index capacity room bytes = (entries : Entries) (decides : Decision)
    → IsIndexOf entries index → MayBeTaken (line_basis keys entries capacity room decides) bytes

-- by any such entries, the bytes are judged so, and the new index is of these and what is added
abbrev pub JudgesFrame :
    HsmKeys → Decision → ℕ → ℕ → List ℕ → IndexOf → IndexOf → List ℕ → Option Entry → Type 0
JudgesFrame keys decides capacity room bytes old new frame added = (entries : Entries)
    → IsIndexOf entries old
    → IsJudged (line_basis keys entries capacity room decides) bytes frame (option_to_list added)
    × IsIndexOf (entries ++ option_to_list added) new

-- by any such entries, frames are judged in turn
abbrev pub JudgesFrames :
    HsmKeys → Decision → ℕ → ℕ → List (List ℕ) → IndexOf → IndexOf → List (List ℕ) → Entries
    → Type 0
JudgesFrames keys decides capacity room frames old new answers added = (entries : Entries)
    → IsIndexOf entries old
    → AreJudged (line_basis keys entries capacity room decides) frames answers added
    × IsIndexOf (entries ++ added) new

-- memory was refused at a frame: those before it are judged, and by the index that they leave there
-- is no reason against it. Of the index after that nothing is said
pub record JudgesFirst
    (keys : HsmKeys) (decides : Decision) (capacity room : ℕ) (frames : List (List ℕ))
    (old : IndexOf) (answers : List (List ℕ)) (added : Entries) : Type 0 where
  pub fewer : length answers < length frames
  pub before : IndexOf
  pub judged : JudgesFrames keys decides capacity room (take (length answers) frames) old before
      answers added
  pub may_be_accepted : MayBeAccepted keys before capacity (room - length added)
      (get_or frames (length answers) [])

-- the first frames of a group are judged, where a journal keeps so many entries and has room for so many
-- more: these frames are as many as there are answers
pub record AreJudgedSoFar
    (keys : HsmKeys) (decides : Decision) (kept room : ℕ) (frames : List (List ℕ)) (count : ℕ)
    (old new : IndexOf) (answers : List (List ℕ)) (added : Entries) : Type 0 where
  pub judged : (capacity : ℕ) → room ≡ capacity - kept
      → JudgesFrames keys decides capacity room (take count frames) old new answers added
  pub counted : length answers ≡ count
  pub usable : All (λ entry. IsUsable entry.number.counter) added
  pub stand : All (λ entry. MayStandUnder entry.number entry.decided) added
  pub fits : length added ≤ room
  pub fewer : length added ≤ length answers
