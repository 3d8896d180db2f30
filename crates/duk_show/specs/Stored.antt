-- The bytes of a journal of either version (this project's own).
use Rattle.std.specs.Prelude.{◌≡◌, ◌≤◌, ◌+◌, ℕ, List, [], drop, length, take}
use Rattle.duk_journal.specs.Header.{IsHeader, identity_of, journal_kind}
use Rattle.duk_journal.specs.RecordFormat.{record_at, record_length}
use Rattle.duk_journal_copy.specs.Version.{format_of}
use Rattle.duk_journal_copy.specs.declared.version.Version.{Version}
use Rattle.duk_journal_copy.specs.declared.version.Version.TheVariants.{One, Two}
use Rattle.duk_journal.specs.declared.entry.Entry.{Entry}
use Rattle.duk_show.specs.declared.stored.Stored.{Stored}
use Rattle.duk_store.specs.Records as records

-- bytes begin with a header
pub record HasHeader (bytes : List ℕ) : Type 0 where
  pub whole : record_length ≤ length bytes
  pub is : IsHeader journal_kind (take record_length bytes)

-- what bytes with a header are, and such without one
pub record IsStoredTwo (bytes : List ℕ) (stored : Stored) : Type 0 where
  pub header : HasHeader bytes
  pub identity_is : stored.identity ≡ identity_of (take record_length bytes)
  pub records_are : stored.records.now ≡ drop record_length bytes

pub record IsStoredOne (bytes : List ℕ) (stored : Stored) : Type 0 where
  pub no_header : ¬ HasHeader bytes
  pub identity_is : stored.identity ≡ 0
  pub records_are : stored.records.now ≡ bytes

-- what the bytes of a journal are: those with a header are of version 2
pub record IsStored (bytes : List ℕ) (stored : Stored) : Type 0 where
  pub two : stored.version ≡ Two → IsStoredTwo bytes stored
  pub one : stored.version ≡ One → IsStoredOne bytes stored

-- the record at a place, counted behind the header, has this entry, after which so many of its group
-- follow
abbrev pub HasContents : Stored → ℕ → ℕ → Entry → List ℕ → Type 0
HasContents stored place followers entry record_bytes =
    records.HasContents (format_of stored.version) stored.identity
    ((format_of stored.version).headers + place) followers entry record_bytes

-- the bytes of that record
abbrev pub stored_record : ℕ → Stored → List ℕ
stored_record place stored = record_at place stored.records.now

-- what stands in version 2 alone
abbrev pub if_two : Version → List ℕ → List ℕ
if_two One lines = []
if_two Two lines = lines
