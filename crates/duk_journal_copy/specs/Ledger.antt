-- A ledger's disk that is written with the numbers of a ledger in the form of a log: this project's own.
use Rattle.std.specs.Prelude.{◌≡◌, ◌≢◌, ◌⊎◌, ◌<◌, ◌+◌, ◌*◌, ◌-◌, ◌^◌, ℕ, List, None, drop, map, replicate}
use Rattle.std.specs.List.{All}
use Rattle.duk_journal.specs.Header.{header_of}
use Rattle.duk_journal.specs.RecordFormat.{record_at, record_length}
use Rattle.duk_journal_copy.specs.InPart.{BeginsAsNone, IsUnfinished}
use Rattle.duk_journal_copy.specs.declared.ledger.LedgerCopyFault.{LedgerCopyFault}
use Rattle.duk_journal_copy.specs.declared.ledger.LedgerCopyFault.TheVariants as fault
use Rattle.duk_ledger.specs.Issued.{Issues}
use Rattle.duk_ledger.specs.IssuedFormat.{issued_format, ledger_kind}
use Rattle.duk_ledger.specs.Ledger.{KeepsIssues}
use Rattle.duk_ledger.specs.declared.issued.Issued.{Issued}
use Rattle.duk_store.specs.Disk.{DiskState, HasFailed, LeavesReads, PreservesDisk}
use Rattle.duk_store.specs.DiskRecords.{IsSoundDisk, records_state}
use Rattle.duk_store.specs.Log.{Numbers}
use Rattle.duk_store.specs.Records.{IsRecordsSize}
use Rattle.duk_store.specs.StoreState.{FindsOnly, StoreState}
use Rattle.duk_store.specs.declared.fault.StoreFault.TheVariants.{Device}
use Rattle.duk_tree.specs.Serial.{Serial}

-- how a ledger keeps a number of one in the form of a log, which does not say how the key was made
abbrev pub issue_of : Serial → Issued
issue_of number = record { number = number.iksn; made = None }

abbrev pub issues_of : Numbers → Issues
issues_of numbers = map issue_of numbers

-- each is the number of an initial key: its transaction counter is zero
abbrev pub AreInitial : Numbers → Type 0
AreInitial numbers = All (λ number. number.counter ≡ 0) numbers

-- a disk is written anew, over all its bytes, and a stop leaves what was written: a header with this
-- identity, a record for each number of a log, which counts so many, and zeros. A ledger over it finds
-- these numbers in their order, and nothing else, whenever it is stopped, and never finds it damaged
pub record IsLedgerCopied
    (identity count : ℕ) (old : StoreState Numbers) (before after : DiskState) : Type 0 where
  pub identity_fits : identity < 2 ^ 64
  pub nature : PreservesDisk before after
  pub no_failure : after.failures ≡ before.failures
  pub leaves : before.honest → LeavesReads after
  pub header : before.honest → record_at 0 after.reads ≡ header_of ledger_kind identity
  pub behind : before.honest → drop (record_length * (1 + count)) after.reads
      ≡ replicate (before.size - record_length * (1 + count)) 0
  pub initial : old.honest → (numbers : Numbers) → FindsOnly old numbers → AreInitial numbers
  pub keeps : old.honest → before.honest → (numbers : Numbers) → FindsOnly old numbers
      → FindsOnly (records_state issued_format after None) (issues_of numbers)
  pub sound : old.honest → before.honest → IsRecordsSize issued_format before.size
      → (numbers : Numbers) → FindsOnly old numbers → IsSoundDisk issued_format after

-- why it is not: a device step of one or the other failed, or a number is that of no initial key
abbrev pub LedgerUncopied : StoreState Numbers → StoreState Numbers → DiskState → DiskState
    → LedgerCopyFault → Type 0
LedgerUncopied old old' new new' fault.Old = old'.failures ≢ old.failures
LedgerUncopied old old' new new' fault.Counted = old.honest → (numbers : Numbers)
    → FindsOnly old numbers → ¬ AreInitial numbers
LedgerUncopied old old' new new' fault.New = HasFailed new new' Device

-- these issues were to be written over a disk: where a stop left one image of it, which was unfinished,
-- a stop now leaves a ledger that keeps them, or such as begin as those of no file
abbrev pub LeavesIssuesInPart : Issues → DiskState → DiskState → Type 0
LeavesIssuesInPart issues before after =
    before.honest → LeavesReads before → IsUnfinished before.reads
    → (bytes : List ℕ) → after.may_leave bytes → BeginsAsNone bytes ⊎ KeepsIssues bytes issues
