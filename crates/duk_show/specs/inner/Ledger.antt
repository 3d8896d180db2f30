-- What only private functions and proofs say beside `Ledger.antt`: this project's own.
use Rattle.std.specs.Prelude.{◌≡◌, ◌⊎◌, ◌≤◌, ◌<◌, ◌+◌, ◌*◌, ◌/◌, ℕ, List, length, take}
use Rattle.duk_journal.specs.Header.{IsHeader}
use Rattle.duk_journal.specs.RecordFormat.{IsOpen, record_at}
use Rattle.duk_ledger.specs.Issued.{Issues}
use Rattle.duk_ledger.specs.IssuedFormat.{ledger_kind}
use Rattle.duk_show.specs.Ledger.{IsLedger}

-- bytes begin with the header of a ledger
pub record IsHeaded (bytes : List ℕ) : Type 0 where
  pub whole : 32 ≤ length bytes
  pub header : IsHeader ledger_kind (take 32 bytes)

-- the records up to the last open one in front are those of a ledger that keeps these issues, and that
-- behind it is closed, or there is none
pub record AreOpenIssues (bytes : List ℕ) (issues : Issues) : Type 0 where
  pub within : 32 * (1 + length issues) ≤ length bytes
  pub are : IsLedger (take (32 * (1 + length issues)) bytes) issues
  pub next : (1 + length issues ≡ length bytes / 32)
      ⊎ (¬ IsOpen (record_at (1 + length issues) bytes))
