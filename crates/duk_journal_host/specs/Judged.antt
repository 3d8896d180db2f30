-- What frames in turn make of a list of entries: this project's own.
use Rattle.std.specs.Prelude.{◌≡◌, ◌++◌, ℕ, List, [], ◌∷◌, Contains}
use Rattle.duk_frame.specs.declared.code.Code.{Code}
use Rattle.duk_host.specs.Lifetime.{AcceptsNumber}
use Rattle.duk_host.specs.Judgement.{IsReplyWith}
use Rattle.duk_hsm.specs.Keys.{HsmKeys}
use Rattle.duk_journal.specs.Entry.{reversed_by}
use Rattle.duk_journal.specs.Groups.{Entries}
use Rattle.duk_journal.specs.Standing.{Stands, payment_entry}
use Rattle.duk_journal.specs.declared.entry.Decided.{Decided}
use Rattle.duk_journal.specs.declared.entry.Decided.TheVariants.{Payment, Reversal}
use Rattle.duk_journal.specs.declared.entry.Entry.{Entry}
use Rattle.duk_reversal.specs.Numbers.{AreNumbers, Numbers}
use Rattle.duk_reversal.specs.Reply.{IsReversalReply}
use Rattle.duk_reversal.specs.declared.state.ReversalState.{ReversalState}
use Rattle.duk_tree.specs.Serial.{Serial}
use Rattle.duk_journal_host.specs.Judgement.{FindsState, IsJudged, IsReversalReplyWith, LineBasis, reversal_entry, with_entries}

-- frames are judged in turn, each with the entries and the room that are left after those before
-- it; these are the answers, and these entries are added
abbrev pub AreJudged : LineBasis → List (List ℕ) → List (List ℕ) → Entries → Type 0
AreJudged basis [] [] added = added ≡ []
AreJudged basis (frame ∷ frames) (answer ∷ answers) added =
    (first : Entries) × (others : Entries) × IsJudged basis frame answer first
    × AreJudged (with_entries basis first) frames answers others × (added ≡ first ++ others)
AreJudged basis _ _ added = ⊥

-- frames that are judged in turn, as two groups: the first of them, and the others by what these left
pub record AreTwoGroups
    (basis : LineBasis) (frames more answers : List (List ℕ)) (added : Entries) : Type 0 where
  pub first : List (List ℕ)
  pub others : List (List ℕ)
  pub before : Entries
  pub after : Entries
  pub answers_are : answers ≡ first ++ others
  pub added_are : added ≡ before ++ after
  pub judged : AreJudged basis frames first before
  pub judged_then : AreJudged (with_entries basis before) more others after

-- the frame is the reply to a payment of the list with this number
pub record IsReplyOf (keys : HsmKeys) (entries : Entries) (ksn : Serial) (frame : List ℕ) : Type 0 where
  pub amount : ℕ
  pub code : Code
  pub mac : List ℕ
  pub kept : Contains entries (payment_entry ksn amount code mac)
  pub reply : IsReplyWith keys ksn code frame

-- each accepted reply among the answers is the reply to a payment of the list
abbrev pub AreRepliesOf : HsmKeys → Entries → List (List ℕ) → Type 0
AreRepliesOf keys entries answers =
    (answer : List ℕ) (ksn : Serial) → Contains answers answer → AcceptsNumber ksn answer
    → IsReplyOf keys entries ksn answer

-- the frame is a reply to a reversal with these numbers, and tells this state
abbrev pub TellsReversal : Numbers → ReversalState → List ℕ → Type 0
TellsReversal numbers state frame =
    (mac : List ℕ) × IsReversalReply frame (record { numbers = numbers; state = state; mac = mac })

-- the frame is the reply to a reversal of the list, with these numbers and this state
pub record IsReversalReplyOf
    (keys : HsmKeys) (entries : Entries) (numbers : Numbers) (state : ReversalState)
    (frame : List ℕ) : Type 0 where
  pub mac : List ℕ
  pub are_numbers : AreNumbers numbers
  pub kept : Contains entries (reversal_entry (record { numbers = numbers; mac = mac }) state)
  pub reply : IsReversalReplyWith keys numbers state frame

-- each reply to a reversal among the answers is the reply to one of the list
abbrev pub AreReversalRepliesOf : HsmKeys → Entries → List (List ℕ) → Type 0
AreReversalRepliesOf keys entries answers =
    (answer : List ℕ) (numbers : Numbers) (state : ReversalState) → Contains answers answer
    → TellsReversal numbers state answer → IsReversalReplyOf keys entries numbers state answer

-- the frame is a reply to a reversal that uses this number
abbrev pub TellsNumber : Serial → List ℕ → Type 0
TellsNumber ksn frame = (numbers : Numbers) × (state : ReversalState) × (numbers.ksn ≡ ksn)
    × TellsReversal numbers state frame

-- the answers that are replies to reversals that use one number are all equal: a reply that is given
-- again cannot be distinguished from the first
abbrev pub TellsAlike : List (List ℕ) → Type 0
TellsAlike answers =
    (ksn : Serial) (one other : List ℕ) → Contains answers one → Contains answers other
    → TellsNumber ksn one → TellsNumber ksn other → one ≡ other

-- what an entry tells is so by these entries: a reversal tells whether an approved payment of the
-- number that it reverses is kept
abbrev pub TellsOf : Entries → Serial → Decided → Type 0
TellsOf entries number (Payment amount code) = Unit {0}
TellsOf entries number (Reversal counter state) =
    FindsState entries (reversed_by number counter) state

-- each reversal among the entries tells what is among them
abbrev pub TellWhatIsKept : Entries → Type 0
TellWhatIsKept entries =
    (entry : Entry) → Contains entries entry → TellsOf entries entry.number entry.decided

-- what a reversal was told is so by these entries: an approved payment of the number that it
-- reversed is kept, or none is; and none stands
pub record IsAsTold (entries : Entries) (numbers : Numbers) (state : ReversalState) : Type 0 where
  pub finds : FindsState entries numbers.reversed state
  pub none_stands : ¬ Stands entries numbers.reversed
