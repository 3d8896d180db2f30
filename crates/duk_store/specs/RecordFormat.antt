-- The disk of a log: a format of this project's own. It is a positive number of records of 16
-- bytes: a commit byte, a key serial number in 10 bytes with the highest first, and five zero
-- bytes.
use Rattle.std.specs.Prelude.{◌≡◌, ◌<◌, ◌≤◌, ◌*◌, ◌++◌, ◌∷◌, zero, suc, ℕ, List, [], take, drop, replicate, length}
use Rattle.duk_tree.specs.Serial.{Serial, serial_of_bytes}
use Rattle.duk_store.specs.Log.{Numbers}
use Rattle.duk_store.specs.SlotFormat.{IsOpen, after_commit}

-- the bytes of a record
abbrev pub record_length : ℕ
record_length = 16

-- the sizes of a log's disk
abbrev pub IsLogSize : ℕ → Type 0
IsLogSize size = (records : ℕ) × (1 ≤ records) × (size ≡ record_length * records)

-- the record at a place, counted in records
abbrev pub record_at : ℕ → List ℕ → List ℕ
record_at place bytes = take record_length (drop (record_length * place) bytes)

-- the number in a record, and what stands after it
abbrev pub number_in : List ℕ → Serial
number_in bytes = serial_of_bytes (take 10 (after_commit bytes))

abbrev pub after_number : List ℕ → List ℕ
after_number bytes = drop 10 (after_commit bytes)

-- a record that has a number: it is open, and has zeros after its number
pub record HasRecordNumber (bytes : List ℕ) : Type 0 where
  pub is_open : IsOpen bytes
  pub zeros : after_number bytes ≡ replicate 5 0

-- so many records in front have numbers, and all others are closed
pub record IsLog (count : ℕ) (bytes : List ℕ) : Type 0 where
  pub fits : record_length * count ≤ length bytes
  pub kept : (place : ℕ) → place < count → HasRecordNumber (record_at place bytes)
  pub closed : (place : ℕ) → count ≤ place → ¬ IsOpen (record_at place bytes)

-- the numbers of so many records in front, in their order
abbrev pub numbers_in : ℕ → List ℕ → Numbers
numbers_in zero bytes = []
numbers_in (suc count) bytes = numbers_in count bytes ++ number_in (record_at count bytes) ∷ []

-- the log of such a disk keeps these numbers
abbrev pub KeepsNumbers : List ℕ → Numbers → Type 0
KeepsNumbers bytes numbers = (count : ℕ) × IsLog count bytes × (numbers ≡ numbers_in count bytes)
