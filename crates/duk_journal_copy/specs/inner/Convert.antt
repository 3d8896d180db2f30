-- What only private functions and proofs say of records that are converted: this project's own.
use Rattle.std.specs.Prelude.{◌≡◌, ◌↔◌, ◌<◌, ◌+◌, ℕ, List, length}
use Rattle.duk_journal.specs.CheckedFormat.{checked_format}
use Rattle.duk_journal.specs.RecordFormat.{IsOpen, record_at}
use Rattle.duk_journal.specs.declared.entry.Entry.{Entry}
use Rattle.duk_journal_copy.specs.Version.{format_of}
use Rattle.duk_journal_copy.specs.declared.convert.Spot.{Spot}
use Rattle.duk_journal_copy.specs.declared.version.Version.{Version}
use Rattle.duk_store.specs.Records.{HasContents}

-- the spot so many records behind another
abbrev pub spot_behind : Spot → ℕ → Spot
spot_behind spot count = record { identity = spot.identity; place = spot.place + count }

-- a record says in version 2 at one spot what another says at another
pub record IsConverted (version : Version) (from to : Spot) (old new : List ℕ) : Type 0 where
  pub followers : ℕ
  pub entry : Entry
  pub was : HasContents (format_of version) from.identity from.place followers entry old
  pub is : HasContents checked_format to.identity to.place followers entry new
  pub gate : IsOpen new ↔ IsOpen old

-- so do so many records, from two spots on
pub record AreConverted (version : Version) (from to : Spot) (count : ℕ) (old new : List ℕ)
    : Type 0 where
  pub same_length : length new ≡ length old
  pub each : (place : ℕ) → place < count
      → IsConverted version (spot_behind from place) (spot_behind to place)
      (record_at place old) (record_at place new)

-- one of so many records, from a spot on, says nothing
abbrev pub AreNotAllRecords : Version → Spot → ℕ → List ℕ → Type 0
AreNotAllRecords version from count old =
    (place : ℕ) × (place < count) × ((followers : ℕ) (entry : Entry)
    → ¬ HasContents (format_of version) from.identity (from.place + place) followers entry
    (record_at place old))
