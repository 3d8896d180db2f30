-- What `show` prints of a ledger, and where the reading of one stops (this project's own, over its
-- format).
use Rattle.std.specs.Prelude.{◌≡◌, ◌≤◌, ◌+◌, ◌-◌, ◌*◌, ◌/◌, ⊤, ℕ, List, [], ◌++◌, Option, Some, None, codes, decimal, flat_map, length, take}
use Rattle.byteorder.specs.Endian.{big_bytes}
use Rattle.hex.specs.Hex.{encode_upper}
use Rattle.duk_commands.specs.Lines.{text_line}
use Rattle.duk_journal.specs.Header.{identity_of}
use Rattle.duk_ledger.specs.Issued.{Issues}
use Rattle.duk_ledger.specs.IssuedFormat.{issued_format}
use Rattle.duk_ledger.specs.Ledger.{KeepsIssues}
use Rattle.duk_ledger.specs.declared.issued.Issued.{Issued}
use Rattle.duk_ledger.specs.declared.issued.Made.{Made}
use Rattle.duk_store.specs.Records.{IsRecordsSize}
use Rattle.duk_tree.specs.Serial.{iksn_bytes}
use Rattle.duk_show.specs.declared.fault.ShowFault.{ShowFault}
use Rattle.duk_show.specs.declared.fault.ShowFault.TheVariants.{LedgerRefused, OutOfMemory}

-- the bytes are those of a ledger that keeps these issues
pub record IsLedger (bytes : List ℕ) (issues : Issues) : Type 0 where
  pub size : IsRecordsSize issued_format (length bytes)
  pub keeps : KeepsIssues bytes issues

-- ---- the lines

-- the lines of a header: the version of the format, and the identity of the file
abbrev pub header_text : List ℕ → List ℕ
header_text bytes = text_line (codes "version") (codes "2")
    ++ text_line (codes "identity") (encode_upper (big_bytes 8 (identity_of (take 32 bytes))))

-- how a key was made: its check value, that of its base derivation key, and its run
abbrev pub made_words : Made → List ℕ
made_words made = codes " " ++ encode_upper made.key ++ codes " " ++ encode_upper made.key_set
    ++ codes " " ++ decimal made.run

-- the same, where it is known
abbrev pub if_made : Option Made → List ℕ
if_made None = []
if_made (Some made) = made_words made

-- the line of an issue
abbrev pub issued_line : Issued → List ℕ
issued_line issued =
    text_line (codes "issued") (encode_upper (iksn_bytes issued.number) ++ if_made issued.made)

-- the lines of a ledger that keeps these issues: how many there are, and for how many more there is
-- room, stands behind them
abbrev pub ledger_text : List ℕ → Issues → List ℕ
ledger_text bytes issues = header_text bytes ++ flat_map issued_line issues
    ++ text_line (codes "numbers") (decimal (length issues))
    ++ text_line (codes "room") (decimal (length bytes / 32 - 1 - length issues))

-- the bytes are those of a ledger, and these are its lines
pub record IsLedgerText (bytes text : List ℕ) : Type 0 where
  pub issues : Issues
  pub is_ledger : IsLedger bytes issues
  pub text_is : text ≡ ledger_text bytes issues

-- ---- where the reading stops

-- the first record that is in no ledger, the header being that at 0: the bytes in front of it are those
-- of a ledger, if there are any, and with it they are those of none
pub record IsLedgerDamagedAt (bytes : List ℕ) (place : ℕ) : Type 0 where
  pub before : 1 ≤ place → (issues : Issues) × IsLedger (take (32 * place) bytes) issues
  pub wrong : (issues : Issues) → ¬ IsLedger (take (32 * (place + 1)) bytes) issues

-- why bytes are not shown as a ledger: the first record that is in none; memory may be refused
abbrev pub IsLedgerRefused : List ℕ → ShowFault → Type 0
IsLedgerRefused bytes (LedgerRefused place) =
    IsLedgerDamagedAt bytes place × ((issues : Issues) → ¬ IsLedger bytes issues)
IsLedgerRefused bytes OutOfMemory = ⊤
IsLedgerRefused bytes why = ⊥
