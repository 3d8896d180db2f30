-- How places are tested and lines are written: this project's own.
use Rattle.std.specs.Prelude.{◌≡◌, ◌⊎◌, ◌<◌, ◌≤◌, ◌^◌, ◌+◌, ◌++◌, ℕ, Bool, false, List, [], ◌∷◌, length, map}
use Rattle.duk_io.specs.Sink.{IsCut, IsWritten}
use Rattle.duk_ledger.specs.Issued.{Issues}
use Rattle.duk_ledger.specs.declared.issued.Issued.{Issued}
use Rattle.duk_store.specs.Listed.{GroupStopped, IsGroupAppended, ListMeaning}
use Rattle.duk_commands.specs.Issue.{Ends}
use Rattle.duk_commands.specs.IssuedLines.{AreLines, IsLine}
use Rattle.duk_commands.specs.Ledger.{issue_at}
use Rattle.duk_commands.specs.Numbers.{iksn_at}
use Rattle.duk_commands.specs.declared.issue.fault.IssueFault.{IssueFault}
use Rattle.duk_commands.specs.declared.issue.fault.IssueFault.TheVariants as fault
use Rattle.duk_commands.specs.declared.issue.order.Order.{Order}
use Rattle.duk_commands.specs.inner.Ledger.{AreAppended}
use Rattle.duk_commands.specs.inner.Marks.{IsFirstMarked, IsUnmarkedBefore, unmarked}

-- no place has a mark, if none may be passed over
abbrev pub IsUnmarked : Bool → List Bool → Type 0
IsUnmarked skip marks = skip ≡ false → IsUnmarkedBefore marks (length marks)

-- the marks let the order pass, where there is so much room, and the largest run is this one
pub record PassesTests (skip : Bool) (free largest : ℕ) (marks : List Bool) : Type 0 where
  pub none_marked : IsUnmarked skip marks
  pub room : length (unmarked marks 0) ≤ free
  pub run_fits : largest + 1 < 2 ^ 32

-- the first mark stands at the place of this number
pub record IsMarkedFirst (order : Order) (skip : Bool) (marks : List Bool) (iksn : ℕ)
    : Type 0 where
  pub not_passed_over : skip ≡ false
  pub place : ℕ
  pub first_marked : IsFirstMarked marks place
  pub iksn_is : iksn ≡ iksn_at order.first place

-- there are more places without a mark than there is room for, or there is no number for the run
pub record IsTooMany (skip : Bool) (free largest : ℕ) (marks : List Bool) : Type 0 where
  pub none_marked : IsUnmarked skip marks
  pub too_many : (free < length (unmarked marks 0)) ⊎ (2 ^ 32 ≤ largest + 1)

-- why the marks do not let the order pass
abbrev pub TestsRefuse : Order → Bool → ℕ → ℕ → List Bool → IssueFault → Type 0
TestsRefuse order skip free largest marks (fault.Issued iksn) =
    IsMarkedFirst order skip marks iksn
TestsRefuse order skip free largest marks fault.LedgerFull = IsTooMany skip free largest marks
TestsRefuse order skip free largest marks _ = ⊥

-- the keys at these places, as a ledger keeps them
abbrev pub kept_at : Order → ℕ → List ℕ → Issues
kept_at order run places = map (issue_at order run) places

-- the key at a place is appended, and its line is written
pub record IsIssuedAt
    {L : Type 0} (meaning : ListMeaning L Issued) (order : Order) (run : ℕ) (padding : List ℕ)
    (old new : Ends L) (place : ℕ) : Type 0 where
  pub line : List ℕ
  pub appended : IsGroupAppended meaning old.ledger new.ledger (issue_at order run place ∷ [])
  pub line_is : IsLine order padding place line
  pub written : IsWritten old.output new.output line

-- the key is appended, and a write failed in its line
pub record IsCutAt
    {L : Type 0} (meaning : ListMeaning L Issued) (order : Order) (run : ℕ) (padding : List ℕ)
    (old new : Ends L) (place : ℕ) : Type 0 where
  pub line : List ℕ
  pub appended : IsGroupAppended meaning old.ledger new.ledger (issue_at order run place ∷ [])
  pub line_is : IsLine order padding place line
  pub cut : IsCut old.output new.output line

-- the key is not appended
pub record IsStoppedAt
    {L : Type 0} (meaning : ListMeaning L Issued) (order : Order) (run : ℕ) (old new : Ends L) (place : ℕ)
    : Type 0 where
  pub failed : GroupStopped meaning old.ledger new.ledger (issue_at order run place ∷ [])
  pub unwritten : new.output ≡ old.output

-- why a key is not issued, and what that leaves
abbrev pub IssueAtFailed : {L : Type 0} → ListMeaning L Issued → Order → ℕ → List ℕ → Ends L → Ends L → ℕ
    → IssueFault → Type 0
IssueAtFailed meaning order run padding old new place fault.LedgerFailed =
    IsStoppedAt meaning order run old new place
IssueAtFailed meaning order run padding old new place fault.WriteFailed =
    IsCutAt meaning order run padding old new place
IssueAtFailed meaning order run padding old new place _ = ⊥

-- the keys at these places are appended, and their lines are written
pub record AreIssued
    {L : Type 0} (meaning : ListMeaning L Issued) (order : Order) (run : ℕ) (padding : List ℕ)
    (old new : Ends L) (places : List ℕ) : Type 0 where
  pub text : List ℕ
  pub appended : AreAppended meaning old.ledger new.ledger (kept_at order run places)
  pub counted : meaning.count new.ledger ≡ meaning.count old.ledger + length places
  pub capacity : meaning.capacity new.ledger ≡ meaning.capacity old.ledger
  pub lines : AreLines order padding places text
  pub written : IsWritten old.output new.output text

-- the keys before one are issued, and that one is not
pub record StopsAtPlace
    {L : Type 0} (meaning : ListMeaning L Issued) (order : Order) (run : ℕ) (padding : List ℕ)
    (old new : Ends L) (places : List ℕ) (why : IssueFault) : Type 0 where
  pub done : List ℕ
  pub last : ℕ
  pub later : List ℕ
  pub mid : Ends L
  pub split : places ≡ done ++ last ∷ later
  pub issued : AreIssued meaning order run padding old mid done
  pub failed : IssueAtFailed meaning order run padding mid new last why
