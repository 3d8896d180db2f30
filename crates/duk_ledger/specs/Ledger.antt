-- A ledger on a disk, as records of its format: this project's own.
use Rattle.std.specs.Prelude.{◌<◌, ◌^◌, ℕ, List}
use Rattle.duk_journal.specs.Header.{header_of}
use Rattle.duk_store.specs.Disk.{DiskMeaning, DiskState}
use Rattle.duk_store.specs.DiskRecords.{IsFreshDisk, RecordsOf, new_records, records_meaning}
use Rattle.duk_store.specs.Listed.{ListMeaning}
use Rattle.duk_store.specs.Records as records
use Rattle.duk_ledger.specs.Issued.{Issues}
use Rattle.duk_ledger.specs.IssuedFormat.{issued_format, ledger_kind}
use Rattle.duk_ledger.specs.declared.format.IssuedFormat.{IssuedFormat}
use Rattle.duk_ledger.specs.declared.issued.Issued.{Issued}

-- a ledger on a disk: its records
abbrev pub LedgerOf : Type 0 → Type 0
LedgerOf D = RecordsOf D IssuedFormat

-- a ledger as it is made: it is stopped
abbrev pub new_ledger : {D : Type 0} → D → LedgerOf D
new_ledger disk = new_records disk (record {})

-- what ledgers on the disks of one kind mean
abbrev pub ledger_meaning : {D : Type 0} → DiskMeaning D → ListMeaning (LedgerOf D) Issued
ledger_meaning meaning = records_meaning meaning (λ format. issued_format)

-- the ledger of such a disk keeps these issues
abbrev pub KeepsIssues : List ℕ → Issues → Type 0
KeepsIssues bytes issues = records.KeepsItems issued_format bytes issues

-- a disk of which a stop leaves the header with this identity, and zero bytes behind it
pub record IsFreshLedgerDisk (identity : ℕ) (disk : DiskState) : Type 0 where
  pub identity_fits : identity < 2 ^ 64
  pub fresh : IsFreshDisk issued_format (header_of ledger_kind identity) disk
