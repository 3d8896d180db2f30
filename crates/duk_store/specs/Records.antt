-- Which items the bytes of a disk keep, in records of a format: this project's own. Groups stand one
-- after the other behind the header, and all records behind the last group are closed. The first
-- record of a group is open and says how many follow; these are closed, and say zero.
use Rattle.std.specs.Prelude.{◌≡◌, ◌≤◌, ◌+◌, ◌*◌, ℕ, zero, suc, List, [], ◌∷◌, length, take, drop, slice_index}
use Rattle.std.specs.List.{All}
use Rattle.duk_store.specs.Format.{FormatMeaning}

-- the sizes of such a disk
abbrev pub IsRecordsSize : {I : Type 0} → FormatMeaning I → ℕ → Type 0
IsRecordsSize format size =
    (records : ℕ) × (1 ≤ records) × (size ≡ format.record_length * records)

-- the record of so many bytes at a place, counted in records
abbrev pub record_at : ℕ → ℕ → List ℕ → List ℕ
record_at long place bytes = take long (drop (long * place) bytes)

-- the gate of a record, and its contents
abbrev pub gate_of : List ℕ → ℕ
gate_of record_bytes = slice_index record_bytes 0

abbrev pub after_gate : List ℕ → List ℕ
after_gate record_bytes = drop 1 record_bytes

-- a record is open where its gate is 1, and closed where it is anything else
abbrev pub IsOpen : List ℕ → Type 0
IsOpen record_bytes = gate_of record_bytes ≡ 1

-- the header in front, which is empty where the format has none, and the identity that it gives
abbrev pub header_in : {I : Type 0} → FormatMeaning I → List ℕ → List ℕ
header_in format bytes = take (format.record_length * format.headers) bytes

abbrev pub identity_in : {I : Type 0} → FormatMeaning I → List ℕ → ℕ
identity_in format bytes = format.identity (header_in format bytes)

-- on the disk of an identity, a record with this item, after which so many of its group follow
abbrev pub HasContents : {I : Type 0} → FormatMeaning I → ℕ → ℕ → ℕ → I → List ℕ → Type 0
HasContents format identity place followers item record_bytes =
    format.says identity place followers item (after_gate record_bytes)

-- all records from this place on are closed
abbrev pub AreClosedFrom : ℕ → ℕ → List ℕ → Type 0
AreClosedFrom long place bytes =
    (later : ℕ) → place ≤ later → ¬ IsOpen (record_at long later bytes)

-- these items, and no more, are kept from this place on, where so many of them belong to a group
-- that began before it
abbrev pub AreKeptFrom :
    {I : Type 0} → FormatMeaning I → List I → ℕ → ℕ → List ℕ → Type 0
AreKeptFrom format [] zero place bytes = AreClosedFrom format.record_length place bytes
AreKeptFrom format [] (suc left) place bytes = ⊥
AreKeptFrom format (item ∷ later) zero place bytes =
    (followers : ℕ) × IsOpen (record_at format.record_length place bytes)
    × HasContents format (identity_in format bytes) place followers item
    (record_at format.record_length place bytes)
    × AreKeptFrom format later followers (place + 1) bytes
AreKeptFrom format (item ∷ later) (suc left) place bytes =
    (¬ IsOpen (record_at format.record_length place bytes))
    × HasContents format (identity_in format bytes) place 0 item
    (record_at format.record_length place bytes)
    × AreKeptFrom format later left (place + 1) bytes

-- these items are kept behind the header
abbrev pub AreListed : {I : Type 0} → FormatMeaning I → List I → List ℕ → Type 0
AreListed format items bytes = AreKeptFrom format items 0 format.headers bytes

-- the header is one of the format, where it has one
abbrev pub HasHeader : {I : Type 0} → FormatMeaning I → List ℕ → Type 0
HasHeader format bytes =
    1 ≤ format.headers → format.is_header (record_at format.record_length 0 bytes)

-- such a disk keeps these items
pub record KeepsItems
    {I : Type 0} (format : FormatMeaning I) (bytes : List ℕ) (items : List I) : Type 0 where
  pub header : HasHeader format bytes
  pub listed : AreListed format items bytes

-- items that may be appended together: at least one
pub record IsGroup {I : Type 0} (format : FormatMeaning I) (group : List I) : Type 0 where
  pub some : 1 ≤ length group
  pub most : length group ≤ format.most
  pub stand : All format.may_stand group
