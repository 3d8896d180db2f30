-- What only private functions and proofs say of a file that is written but for its first two bytes: this
-- project's own.
use Rattle.std.specs.Prelude.{◌≡◌, ◌-◌, ◌++◌, ℕ, List, drop, length, replicate}
use Rattle.duk_journal.specs.Header.{header_of}
use Rattle.duk_store.specs.Disk.{DiskState, PreservesDisk, written}

-- the bytes of a file of a kind, with this identity, on a disk of this size: its header, these records,
-- and zeros behind them
abbrev pub file_bytes : ℕ → ℕ → List ℕ → ℕ → List ℕ
file_bytes kind identity records size =
    header_of kind identity ++ (records ++ replicate (size - 32 - length records) 0)

-- a header of this kind and with this identity is written but for its first two bytes
pub record IsFrontWritten (kind identity : ℕ) (old new : DiskState) : Type 0 where
  pub nature : PreservesDisk old new
  pub no_failure : new.failures ≡ old.failures
  pub front : old.honest
      → new.reads ≡ written old.reads 2 (drop 2 (header_of kind identity))
