-- Which bytes a log, a journal and a ledger leave in their file, whenever they are stopped (this
-- project's own).
-- A file of records from which none of ours wrote is mostly none of these.
use Rattle.std.specs.Prelude.{⊤, ◌≡◌, ◌⊎◌, ◌≤◌, ◌<◌, ◌+◌, ◌*◌, ℕ, zero, suc, List, length, slice_index}
use Rattle.std.specs.Int.{from_be_bytes, w16}
use Rattle.std.specs.List.{All}
use Rattle.duk_store.specs.Disk.{range_of}
use Rattle.duk_journal.specs.Groups.{HasContents}
use Rattle.duk_journal.specs.Header.{IsHeader, journal_kind}
use Rattle.duk_journal.specs.declared.entry.Entry.{Entry}
use Rattle.duk_store.specs.RecordFormat.{HasRecordNumber}
use Rattle.duk_ledger.specs.IssuedFormat.{ledger_kind}
use Rattle.duk_journal_copy.specs.declared.version.Version.{Version}
use Rattle.duk_journal_copy.specs.declared.version.Version.TheVariants.{One, Two}
use Rattle.duk_service.specs.declared.left_records.Layout.{Layout}
use Rattle.duk_service.specs.declared.left_records.Layout.TheVariants.{Journal, Ledger, Log}
use Rattle.duk_service.specs.declared.left_records.RecordFormat.{RecordFormat}
use Rattle.duk_service.specs.declared.left_records.RecordFormat.TheVariants as kind

-- how the files of a version are laid out
abbrev pub layout_in : RecordFormat → Version → Layout
layout_in kind.Log version = Log
layout_in kind.Journal version = Journal version
layout_in kind.Ledger version = Ledger version

-- and those that are written
abbrev pub layout_of : RecordFormat → Layout
layout_of format = layout_in format Two

-- the bytes of a record
abbrev pub record_length : Layout → ℕ
record_length Log = 16
record_length (Journal version) = 32
record_length (Ledger One) = 16
record_length (Ledger Two) = 32

-- the most records that are appended together
abbrev pub most_of_group : Layout → ℕ
most_of_group Log = 1
most_of_group (Journal version) = 4096
most_of_group (Ledger version) = 1

-- the record at a place, counted in records
abbrev pub record_at : Layout → ℕ → List ℕ → List ℕ
record_at layout place bytes = range_of (record_length layout * place) (record_length layout) bytes

-- the gate of a record is its first byte, and it is open where that is 1
abbrev pub gate_of : List ℕ → ℕ
gate_of record_bytes = slice_index record_bytes 0

abbrev pub IsOpen : List ℕ → Type 0
IsOpen record_bytes = gate_of record_bytes ≡ 1

-- all of its bytes are zeros
abbrev pub IsZero : List ℕ → Type 0
IsZero record_bytes = All (λ byte. byte ≡ 0) record_bytes

-- how many records an open one at a place says to follow: none of a log or a ledger, and none a header,
-- and of a journal so many as its third byte and its fourth say
abbrev pub followers_in : Layout → ℕ → List ℕ → ℕ
followers_in Log place record_bytes = 0
followers_in (Ledger version) place record_bytes = 0
followers_in (Journal One) place record_bytes = from_be_bytes w16 (range_of 2 2 record_bytes)
followers_in (Journal Two) zero record_bytes = 0
followers_in (Journal Two) (suc place) record_bytes = from_be_bytes w16 (range_of 2 2 record_bytes)

-- the first record of a journal of a version: in version 2 it is a header, which counts as a group by
-- itself; in version 1 it is closed, or has contents
abbrev pub IsFront : Version → List ℕ → Type 0
IsFront One record_bytes =
    IsOpen record_bytes → (followers : ℕ) × (entry : Entry) × HasContents followers entry record_bytes
IsFront Two record_bytes = IsHeader journal_kind record_bytes

-- the first record of a ledger of a version: in version 2 it is a header; in version 1, which has the
-- form of a log, it is closed, or has a number
abbrev pub IsLedgerFront : Version → List ℕ → Type 0
IsLedgerFront One record_bytes = IsOpen record_bytes → HasRecordNumber record_bytes
IsLedgerFront Two record_bytes = IsHeader ledger_kind record_bytes

-- the first record is such as the layout begins with
abbrev pub HasFront : Layout → List ℕ → Type 0
HasFront Log bytes = ⊤
HasFront (Journal version) bytes = IsFront version (record_at (Journal version) 0 bytes)
HasFront (Ledger version) bytes = IsLedgerFront version (record_at (Ledger version) 0 bytes)

-- so many bytes are whole records, one at least
abbrev pub IsWhole : Layout → ℕ → Type 0
IsWhole layout size = (records : ℕ) × (1 ≤ records) × (size ≡ record_length layout * records)

-- there are some, and they are none
pub record IsCut (layout : Layout) (size : ℕ) : Type 0 where
  pub some : 0 < size
  pub not_whole : ¬ IsWhole layout size

-- no record from this place on is open
abbrev pub AreClosedFrom : Layout → ℕ → List ℕ → Type 0
AreClosedFrom layout place bytes =
    (later : ℕ) → place ≤ later → ¬ IsOpen (record_at layout later bytes)

-- a group of this many records in front ends with the last of them: its first one is the last that
-- is open
abbrev pub EndsLastGroup : Layout → ℕ → List ℕ → Type 0
EndsLastGroup layout kept bytes =
    (first : ℕ) × IsOpen (record_at layout first bytes) × AreClosedFrom layout (first + 1) bytes
    × (kept ≡ first + 1 + followers_in layout first (record_at layout first bytes))

-- so many records in front are in groups
abbrev pub AreInGroups : Layout → ℕ → List ℕ → Type 0
AreInGroups layout kept bytes =
    ((kept ≡ 0) × AreClosedFrom layout 0 bytes) ⊎ EndsLastGroup layout kept bytes

-- bytes that a log, a journal or a ledger leaves. Behind the records that are in groups a stop leaves at most
-- one group in part: of its first record any bytes, and of the others the gate as it was, a zero. All
-- behind it is as it was made: zeros. A file of one record alone is zeros where none is kept, so that a
-- key is no record that a stop left in part
pub record IsLeftBy (layout : Layout) (bytes : List ℕ) : Type 0 where
  pub whole : IsWhole layout (length bytes)
  pub front : HasFront layout bytes
  pub kept : ℕ
  pub groups : AreInGroups layout kept bytes
  pub gates : (place : ℕ) → kept < place → gate_of (record_at layout place bytes) ≡ 0
  pub zeros : (place : ℕ) → kept + most_of_group layout ≤ place
      → IsZero (record_at layout place bytes)
  pub lone : length bytes ≡ record_length layout → kept ≡ 0 → IsZero (record_at layout 0 bytes)

-- bytes that begin as the layout does and that none leaves, of which the record at this place is
-- neither open nor zero, and all behind it are zeros
pub record IsForeignAt (layout : Layout) (place : ℕ) (bytes : List ℕ) : Type 0 where
  pub front : HasFront layout bytes
  pub not_left : ¬ IsLeftBy layout bytes
  pub not_open : ¬ IsOpen (record_at layout place bytes)
  pub not_zero : ¬ IsZero (record_at layout place bytes)
  pub last : (later : ℕ) → place < later → IsZero (record_at layout later bytes)
