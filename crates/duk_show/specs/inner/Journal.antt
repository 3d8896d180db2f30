-- What only private functions and proofs say beside `Journal.antt`: this project's own.
use Rattle.std.specs.Prelude.{◌≡◌, ◌⊎◌, ◌↔◌, ◌<◌, ◌≤◌, ◌+◌, ◌/◌, ℕ, List, [], ◌∷◌, ◌++◌, ⊤, length, Contains}
use Rattle.duk_host.specs.Used.{IsUsed}
use Rattle.duk_journal.specs.Groups.{Entries}
use Rattle.duk_journal.specs.RecordFormat.{IsOpen, record_at, record_length}
use Rattle.duk_journal.specs.Standing.{UseNewNumbers, used_by}
use Rattle.duk_journal.specs.declared.entry.Entry.{Entry}
use Rattle.duk_store.specs.Log.{Numbers}
use Rattle.duk_tree.specs.Serial.{Serial}
use Rattle.duk_show.specs.Journal.{BeginsJournal, GoesOn}
use Rattle.duk_show.specs.Stored.{HasContents, stored_record}
use Rattle.duk_show.specs.declared.stored.Stored.{Stored}
use Rattle.duk_show.specs.declared.fault.ShowFault.{ShowFault}
use Rattle.duk_show.specs.declared.fault.ShowFault.TheVariants.{JournalRefused, OutOfMemory}

-- a record stands where so many of a group are to come: the first of a group, or one inside it
pub record IsNextIn (stored : Stored) (place left followers : ℕ) (entry : Entry)
    (record_bytes : List ℕ) : Type 0 where
  pub contents : HasContents stored place followers entry record_bytes
  pub inside : 1 ≤ left → (¬ IsOpen record_bytes) × (followers ≡ 0)

abbrev pub IsNoneNext : Stored → ℕ → ℕ → List ℕ → Type 0
IsNoneNext stored place left record_bytes =
    (followers : ℕ) (entry : Entry) → ¬ IsNextIn stored place left followers entry record_bytes

-- how many of a group are to come after a record
pub record IsLeftAfter (left followers more : ℕ) : Type 0 where
  pub first : left ≡ 0 → more ≡ followers
  pub inside : 1 ≤ left → left ≡ more + 1

-- an entry with a new number is taken
pub record IsNewEntry (old : Entries) (entry : Entry) (new : Entries) : Type 0 where
  pub is_new : ¬ Contains (used_by old) entry.number
  pub taken : new ≡ old ++ entry ∷ []

-- the number of an entry is used before
abbrev pub IsNotNew : Entries → Entry → ShowFault → Type 0
IsNotNew entries entry (JournalRefused place) =
    (place ≡ length entries) × Contains (used_by entries) entry.number
IsNotNew entries entry OutOfMemory = ⊤
IsNotNew entries entry why = ⊥

-- a record with a new entry is taken
pub record IsRecordTaken (stored : Stored)
    (left : ℕ) (record_bytes : List ℕ) (old new : Entries) (more : ℕ) : Type 0 where
  pub entry : Entry
  pub followers : ℕ
  pub next : IsNextIn stored (length old) left followers entry record_bytes
  pub left_after : IsLeftAfter left followers more
  pub taken : IsNewEntry old entry new

-- it does not go on with the entries before it
abbrev pub IsRecordNotTaken : Stored → ℕ → List ℕ → Entries → ShowFault → Type 0
IsRecordNotTaken stored left record_bytes entries (JournalRefused place) =
    (place ≡ length entries) × ¬ GoesOn stored (length entries) left entries record_bytes
IsRecordNotTaken stored left record_bytes entries OutOfMemory = ⊤
IsRecordNotTaken stored left record_bytes entries why = ⊥

-- these are the entries of all groups: behind them the bytes end, or a record is closed
pub record AreGroups (stored : Stored) (entries : Entries) : Type 0 where
  pub begins : BeginsJournal (length entries) 0 entries stored
  pub within : length entries ≤ length stored.records.now / record_length
  pub ends : length entries < length stored.records.now / record_length
      → ¬ IsOpen (stored_record (length entries) stored)

-- why they are not found: the record at a place does not go on with what is before it, or is missing
-- inside a group
pub record AreCutAt (stored : Stored) (place : ℕ) : Type 0 where
  pub left : ℕ
  pub entries : Entries
  pub begins : BeginsJournal place left entries stored
  pub wrong : (place ≡ length stored.records.now / record_length) × (1 ≤ left)
      ⊎ (place < length stored.records.now / record_length)
      × ¬ GoesOn stored place left entries (stored_record place stored)

abbrev pub AreNoGroups : Stored → ShowFault → Type 0
AreNoGroups stored (JournalRefused place) = AreCutAt stored place
AreNoGroups stored OutOfMemory = ⊤
AreNoGroups stored why = ⊥

-- the records from a place to another are closed
abbrev pub AreClosedBetween : ℕ → ℕ → List ℕ → Type 0
AreClosedBetween from to bytes =
    (other : ℕ) → from ≤ other → other < to → ¬ IsOpen (record_at other bytes)

-- the first open record from a place on
pub record IsOpenAt (from : ℕ) (bytes : List ℕ) (place : ℕ) : Type 0 where
  pub behind : from ≤ place
  pub inside : place < length bytes / record_length
  pub closed : AreClosedBetween from place bytes
  pub is_open : IsOpen (record_at place bytes)

-- used numbers are those of a list
abbrev pub AreThose : Numbers → Numbers → Type 0
AreThose numbers used = (ksn : Serial) → Contains numbers ksn ↔ IsUsed used ksn

-- used numbers are those of entries that a host may have appended
pub record AreUsedBy (entries : Entries) (used : Numbers) : Type 0 where
  pub new_numbers : UseNewNumbers entries
  pub members : AreThose (used_by entries) used

-- all these numbers are used now too
abbrev pub AddsAll : Numbers → Numbers → Numbers → Type 0
AddsAll numbers used more = (ksn : Serial) → IsUsed more ksn ↔ (IsUsed used ksn ⊎ Contains numbers ksn)
