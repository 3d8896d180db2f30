-- Why the log, the journal or the ledger of a file is not shown.
use Rattle.std.proofs.Common.{ℕ, List, Result, Ok, Err, IfErr}
use Rattle.duk_service.specs.Files.{FileKnown, HasBytes}
use Rattle.duk_program.specs.Show.{IsJournalFileRefused, IsLedgerFileRefused, IsLogFileRefused}
use Rattle.duk_show.specs.Journal.{IsJournalRefused}
use Rattle.duk_show.specs.Ledger.{IsLedgerRefused}
use Rattle.duk_show.specs.Log.{IsLogRefused}
use Rattle.duk_show.specs.declared.fault.ShowFault.{ShowFault}
use Rattle.duk_show.specs.declared.fault.ShowFault.TheVariants.{JournalRefused, LedgerRefused, LogRefused, OutOfMemory}

-- the bytes of the file are refused
pub log_refused : {T : Type 0} (held : FileKnown) (bytes : List ℕ) (shown : Result T ShowFault) → HasBytes held bytes
    → IfErr shown (IsLogRefused bytes) → IfErr shown (IsLogFileRefused held)
log_refused held bytes (Ok text) read why = tt
log_refused held bytes (Err (LogRefused place)) read why = record { bytes = bytes; read = read; cause = why }
log_refused held bytes (Err OutOfMemory) read why = tt
log_refused held bytes (Err fault) read why = absurd why

pub journal_refused : {T : Type 0} (held : FileKnown) (bytes : List ℕ) (shown : Result T ShowFault) → HasBytes held bytes
    → IfErr shown (IsJournalRefused bytes) → IfErr shown (IsJournalFileRefused held)
journal_refused held bytes (Ok text) read why = tt
journal_refused held bytes (Err (JournalRefused place)) read why = record { bytes = bytes; read = read; cause = why }
journal_refused held bytes (Err OutOfMemory) read why = tt
journal_refused held bytes (Err fault) read why = absurd why

pub ledger_refused : {T : Type 0} (held : FileKnown) (bytes : List ℕ) (shown : Result T ShowFault) → HasBytes held bytes
    → IfErr shown (IsLedgerRefused bytes) → IfErr shown (IsLedgerFileRefused held)
ledger_refused held bytes (Ok text) read why = tt
ledger_refused held bytes (Err (LedgerRefused place)) read why = record { bytes = bytes; read = read; cause = why }
ledger_refused held bytes (Err OutOfMemory) read why = tt
ledger_refused held bytes (Err fault) read why = absurd why
