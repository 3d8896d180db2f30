-- What only private functions and proofs say beside `Ledger.antt`: this project's own.
use Rattle.std.specs.Prelude.{◌≡◌, ◌≢◌, ◌+◌, ◌*◌, ◌<◌, ℕ, List, Some, length, slice_get}
use Rattle.duk_journal.specs.RecordFormat.{record_at}
use Rattle.duk_journal_copy.specs.Ledger.{issue_of}
use Rattle.duk_ledger.specs.IssuedFormat.{issued_format}
use Rattle.duk_ledger.specs.declared.issued.Issued.{Issued}
use Rattle.duk_store.specs.Disk.{DiskState, PreservesDisk, written}
use Rattle.duk_store.specs.Log.{Numbers}
use Rattle.duk_store.specs.LogFormat.{SaysNumber}
use Rattle.duk_store.specs.Records.{HasContents, IsOpen, after_gate}
use Rattle.duk_store.specs.StoreState.{FindsOnly, StoreState}
use Rattle.duk_tree.specs.Serial.{Serial}

-- a record of a log has this number, wherever it stands
abbrev pub HasNumber : List ℕ → Serial → Type 0
HasNumber record_bytes number =
    (followers : ℕ) × SaysNumber 0 0 followers number (after_gate record_bytes)

-- a ledger keeps this of the number in it, which is that of an initial key
abbrev pub IsIssueIn : List ℕ → Issued → Type 0
IsIssueIn record_bytes issued = (number : Serial) → HasNumber record_bytes number
    → (number.counter ≡ 0) × (issued ≡ issue_of number)

-- the number in it is that of no initial key
abbrev pub HasNoIssue : List ℕ → Type 0
HasNoIssue record_bytes = (number : Serial) → HasNumber record_bytes number → number.counter ≢ 0

-- the record at a place of a ledger is open, and has this issue
pub record IsIssueRecord (identity place : ℕ) (issued : Issued) (record_bytes : List ℕ)
    : Type 0 where
  pub opened : IsOpen record_bytes
  pub says : HasContents issued_format identity place 0 issued record_bytes

-- it is written
pub record IsIssueWritten (identity place : ℕ) (issued : Issued) (old new : DiskState)
    : Type 0 where
  pub nature : PreservesDisk old new
  pub no_failure : new.failures ≡ old.failures
  pub wrote : old.honest → (record_bytes : List ℕ) × (length record_bytes ≡ 32)
      × IsIssueRecord identity place issued record_bytes
      × (new.reads ≡ written old.reads (32 * place) record_bytes)

-- the number at a place of a list is that of an initial key
pub record IsInitialAt (numbers : Numbers) (place : ℕ) : Type 0 where
  pub number : Serial
  pub stands : slice_get numbers place ≡ Some number
  pub initial : number.counter ≡ 0

-- so are the first so many that a restart of a log finds
abbrev pub AreInitialBelow : ℕ → StoreState Numbers → Type 0
AreInitialBelow count old = old.honest → (numbers : Numbers) → FindsOnly old numbers
    → (place : ℕ) → place < count → IsInitialAt numbers place

-- so many records of a ledger, from the first on, have them
abbrev pub AreIssuesOf : ℕ → ℕ → StoreState Numbers → List ℕ → Type 0
AreIssuesOf identity count old records = (numbers : Numbers) → FindsOnly old numbers
    → (place : ℕ) → place < count → (number : Serial) → slice_get numbers place ≡ Some number
    → IsIssueRecord identity (1 + place) (issue_of number) (record_at place records)

-- they are written behind a header
pub record AreNumbersCopied (identity count : ℕ) (old : StoreState Numbers) (new new' : DiskState)
    : Type 0 where
  pub nature : PreservesDisk new new'
  pub no_failure : new'.failures ≡ new.failures
  pub initial : AreInitialBelow count old
  pub copied : new.honest → (records : List ℕ) × (length records ≡ 32 * count)
      × (old.honest → AreIssuesOf identity count old records)
      × (new'.reads ≡ written new.reads 32 records)
