-- What `issue` does with its ledger and its output (this project's own).
use Rattle.std.proofs.Common.{inl, inr}
use Rattle.std.specs.Prelude.{◌≡◌, ◌⊎◌, ◌<◌, ◌≤◌, ◌^◌, ◌+◌, ◌-◌, ◌++◌, ℕ, Bool, false, List, [], ◌∷◌, All, map, length}
use Rattle.duk_io.specs.Known.{Known}
use Rattle.duk_io.specs.Sink.{IsCut, IsWritten}
use Rattle.duk_ledger.specs.Issued.{Issues}
use Rattle.duk_ledger.specs.declared.issued.Issued.{Issued}
use Rattle.duk_store.specs.Listed.{GroupStopped, ListMeaning}
use Rattle.duk_store.specs.Restart.{Restarted, RestartFailed}
use Rattle.duk_store.specs.declared.fault.StoreFault.{StoreFault}
use Rattle.duk_store.specs.declared.fault.StoreFault.TheVariants as store
use Rattle.duk_commands.specs.Ledger.{AreNew, IsExtended, IsFirstIssued, IsNoneIssued, issue_at, next_run}
use Rattle.duk_commands.specs.IssuedLines.{AreLines, IsLine}
use Rattle.duk_commands.specs.Numbers.{iksn_at}
use Rattle.duk_commands.specs.declared.issue.fault.IssueFault.{IssueFault}
use Rattle.duk_commands.specs.declared.issue.fault.IssueFault.TheVariants as fault
use Rattle.duk_commands.specs.declared.issue.order.Order.{Order}

-- an order, whether numbers that are issued already are passed over, and the bytes of padding
pub record Job : Type 0 where
  pub order : Order
  pub skip : Bool
  pub padding : List ℕ

-- the three together
abbrev pub job : Order → Bool → List ℕ → Job
job order skip padding = record { order = order; skip = skip; padding = padding }

-- the ledger, and what is known of the writer that takes the lines
pub record Ends (L : Type 0) : Type 0 where
  pub ledger : L
  pub output : Known

-- the two together
abbrev pub ends : {L : Type 0} → L → Known → Ends L
ends ledger output = record { ledger = ledger; output = output }

-- the initial key serial numbers at these places
abbrev pub iksns_of : Job → List ℕ → List ℕ
iksns_of job places = map (iksn_at job.order.first) places

-- the keys at these places, as the ledger keeps them that had these issues
abbrev pub issues_of : Job → Issues → List ℕ → Issues
issues_of job issues places = map (issue_at job.order (next_run issues)) places

-- these are places of the order
abbrev pub AreOfOrder : Job → List ℕ → Type 0
AreOfOrder job places = All (λ place. place < job.order.count) places

-- none of the order's numbers stands in a list, if none may be passed over
abbrev pub IsFree : Job → Issues → Type 0
IsFree job issues = job.skip ≡ false → IsNoneIssued issues job.order.first job.order.count

-- keys may be issued for these places: they are the new ones of the order, the ledger has room for
-- them, and there is a number for the run
pub record MayIssue (job : Job) (capacity : ℕ) (issues : Issues) (places : List ℕ)
    : Type 0 where
  pub free : IsFree job issues
  pub new : AreNew issues job.order.first job.order.count places
  pub room : length places ≤ capacity - length issues
  pub run_fits : next_run issues < 2 ^ 32

-- all keys are issued: each stands in the ledger, and each line is written
pub record HasIssued {L : Type 0} (meaning : ListMeaning L Issued) (job : Job) (old new : Ends L)
    : Type 0 where
  pub issues : Issues
  pub places : List ℕ
  pub text : List ℕ
  pub inside : AreOfOrder job places
  pub tested : MayIssue job (meaning.capacity old.ledger) issues places
  pub kept : IsExtended meaning old.ledger new.ledger issues (issues_of job issues places)
  pub lines : AreLines job.order job.padding places text
  pub written : IsWritten old.output new.output text

-- all keys are issued, but those of so many terminals that are passed over
abbrev pub HasIssuedBut : {L : Type 0} → ListMeaning L Issued → Job → Ends L → Ends L → ℕ → Type 0
HasIssuedBut meaning job old new passed_over =
    (has : HasIssued meaning job old new) × (passed_over + length has.places ≡ job.order.count)

-- a write failed: the lines before were written, the number of this line stands in the ledger as
-- well, and none of the later ones
pub record IsCutShort {L : Type 0} (meaning : ListMeaning L Issued) (job : Job) (old new : Ends L)
    : Type 0 where
  pub issues : Issues
  pub done : List ℕ
  pub last : ℕ
  pub later : List ℕ
  pub text : List ℕ
  pub line : List ℕ
  pub mid : Known
  pub inside : AreOfOrder job (done ++ last ∷ later)
  pub tested : MayIssue job (meaning.capacity old.ledger) issues (done ++ last ∷ later)
  pub kept : IsExtended meaning old.ledger new.ledger issues
      (issues_of job issues (done ++ last ∷ []))
  pub lines : AreLines job.order job.padding done text
  pub line_is : IsLine job.order job.padding last line
  pub written : IsWritten old.output mid text
  pub cut : IsCut mid new.output line

-- a number is not appended, since a device step failed: the lines before were written, and nothing
-- of its own
pub record IsNotAppended {L : Type 0} (meaning : ListMeaning L Issued) (job : Job) (old new : Ends L)
    : Type 0 where
  pub issues : Issues
  pub done : List ℕ
  pub last : ℕ
  pub later : List ℕ
  pub text : List ℕ
  pub mid : L
  pub inside : AreOfOrder job (done ++ last ∷ later)
  pub tested : MayIssue job (meaning.capacity old.ledger) issues (done ++ last ∷ later)
  pub kept : IsExtended meaning old.ledger mid issues (issues_of job issues done)
  pub failed : GroupStopped meaning mid new.ledger
      (issue_at job.order (next_run issues) last ∷ [])
  pub lines : AreLines job.order job.padding done text
  pub written : IsWritten old.output new.output text

-- the ledger was not brought up or not read, and nothing is written
pub record IsUnread {L : Type 0} (meaning : ListMeaning L Issued) (old new : Ends L) (why : StoreFault)
    : Type 0 where
  pub failed : RestartFailed (meaning.state_of old.ledger) (meaning.state_of new.ledger) why
  pub unwritten : new.output ≡ old.output

-- the ledger was restarted and found a list for which this holds; it keeps that list, and nothing
-- is written
pub record IsRefusedBy
    {L : Type 0} (meaning : ListMeaning L Issued) (old new : Ends L) (Refuses : Issues → Type 0)
    : Type 0 where
  pub issues : Issues
  pub kept : Restarted (meaning.state_of old.ledger) (meaning.state_of new.ledger) issues
  pub refuses : Refuses issues
  pub unwritten : new.output ≡ old.output

-- none may be passed over, and this is the first number that is issued
pub record IsIssuedAlready (job : Job) (iksn : ℕ) (issues : Issues) : Type 0 where
  pub not_passed_over : job.skip ≡ false
  pub place : ℕ
  pub first_issued : IsFirstIssued issues job.order.first job.order.count place
  pub iksn_is : iksn ≡ iksn_at job.order.first place

-- the ledger has no room for all new numbers of the order, or there is no number for the run
pub record HasNoRoom (job : Job) (capacity : ℕ) (issues : Issues) : Type 0 where
  pub places : List ℕ
  pub free : IsFree job issues
  pub new : AreNew issues job.order.first job.order.count places
  pub too_many : (capacity - length issues < length places) ⊎ (2 ^ 32 ≤ next_run issues)

-- why not all keys are issued, and what that leaves; where memory was refused, all is as it was
abbrev pub IssueFailed : {L : Type 0} → ListMeaning L Issued → Job → Ends L → Ends L → IssueFault → Type 0
IssueFailed meaning job old new fault.LedgerFailed =
    IsUnread meaning old new store.Device ⊎ IsNotAppended meaning job old new
IssueFailed meaning job old new fault.LedgerDamaged =
    IsUnread meaning old new store.Damaged
IssueFailed meaning job old new (fault.Issued iksn) =
    IsRefusedBy meaning old new (IsIssuedAlready job iksn)
IssueFailed meaning job old new fault.LedgerFull =
    IsRefusedBy meaning old new (HasNoRoom job (meaning.capacity old.ledger))
IssueFailed meaning job old new fault.OutOfMemory = new ≡ old
IssueFailed meaning job old new fault.WriteFailed = IsCutShort meaning job old new
IssueFailed meaning job old new _ = ⊥

-- the places whose lines were written, in whole or in part, where not all keys are issued
abbrev pub begun_places : {L : Type 0} (meaning : ListMeaning L Issued) (job : Job) (old new : Ends L)
    → (why : IssueFault) → IssueFailed meaning job old new why → List ℕ
begun_places meaning job old new fault.LedgerFailed (inl unread) = []
begun_places meaning job old new fault.LedgerFailed (inr failed) = failed.done
begun_places meaning job old new fault.LedgerDamaged failed = []
begun_places meaning job old new (fault.Issued iksn) failed = []
begun_places meaning job old new fault.LedgerFull failed = []
begun_places meaning job old new fault.OutOfMemory failed = []
begun_places meaning job old new fault.WriteFailed cut = cut.done ++ cut.last ∷ []
begun_places meaning job old new fault.BdkRefused failed = []
begun_places meaning job old new fault.LoadingRefused failed = []
begun_places meaning job old new fault.IksnRefused failed = []
begun_places meaning job old new fault.CountRefused failed = []
begun_places meaning job old new fault.KcvRefused failed = []
begun_places meaning job old new fault.KcvDiffers failed = []
begun_places meaning job old new (fault.NotIssued iksn) failed = []
begun_places meaning job old new fault.PaddingUnread failed = []
begun_places meaning job old new fault.LedgerUnopened failed = []
begun_places meaning job old new fault.LedgerOldVersion failed = []
begun_places meaning job old new fault.OutUnmade failed = []
