-- What only private functions and proofs say beside `Log.antt`: this project's own.
use Rattle.std.specs.Prelude.{◌≡◌, ◌⊎◌, ◌<◌, ◌+◌, ℕ, List, [], ◌∷◌, ◌++◌, ⊤, length, replicate}
use Rattle.duk_store.specs.RecordFormat.{HasRecordNumber, after_number, number_in, numbers_in}
use Rattle.duk_store.specs.SlotFormat.{IsOpen}
use Rattle.duk_tree.specs.Serial.{Serial}
use Rattle.duk_show.specs.Log.{AreOfOneLog, BeginsLog, IsFirstOther, IsNoLog}
use Rattle.duk_show.specs.declared.fault.ShowFault.{ShowFault}
use Rattle.duk_show.specs.declared.fault.ShowFault.TheVariants.{LogRefused, OutOfMemory}

-- a record that is closed leaves the numbers; one that has a number adds it
abbrev pub IsNextRecord : List ℕ → ℕ → List Serial → List Serial → Type 0
IsNextRecord bytes place old new =
    (¬ IsOpen bytes × (new ≡ old))
    ⊎ (HasRecordNumber bytes × (length old ≡ place) × (new ≡ old ++ number_in bytes ∷ []))

-- a record that is open after a closed one, or lacks its zeros; memory may be refused
abbrev pub IsRecordRefused : List ℕ → ℕ → ℕ → ShowFault → Type 0
IsRecordRefused bytes place count (LogRefused refused) =
    (refused ≡ place) × IsOpen bytes
    × ((count < place) ⊎ ¬ (after_number bytes ≡ replicate 5 0))
IsRecordRefused bytes place count OutOfMemory = ⊤
IsRecordRefused bytes place count why = ⊥

-- a record that is open after a closed one, where so many have numbers, or lacks its zeros
abbrev pub IsOutOfPlace : List ℕ → ℕ → ℕ → Type 0
IsOutOfPlace bytes place count =
    IsOpen bytes × ((count < place) ⊎ ¬ (after_number bytes ≡ replicate 5 0))

-- a record that is closed leaves the count of those with numbers; one that has a number is one more
abbrev pub CountsRecord : List ℕ → ℕ → ℕ → ℕ → Type 0
CountsRecord bytes place count next =
    (¬ IsOpen bytes × (next ≡ count))
    ⊎ (HasRecordNumber bytes × (count ≡ place) × (next ≡ count + 1))

-- these are the numbers of the first records
pub record AreFirstNumbers (records : ℕ) (bytes : List ℕ) (numbers : List Serial) : Type 0 where
  pub begins : BeginsLog records (length numbers) bytes
  pub numbers_are : numbers ≡ numbers_in (length numbers) bytes

-- why no numbers are read: the first record that is in no log; memory may be refused
abbrev pub IsDamagedLog : List ℕ → ShowFault → Type 0
IsDamagedLog bytes (LogRefused place) = IsNoLog bytes place
IsDamagedLog bytes OutOfMemory = ⊤
IsDamagedLog bytes why = ⊥

-- why numbers are not shown: the first that is not of one log with those before it; memory may be
-- refused
abbrev pub IsNumberRefused : List Serial → ShowFault → Type 0
IsNumberRefused numbers (LogRefused place) = IsFirstOther AreOfOneLog numbers place
IsNumberRefused numbers OutOfMemory = ⊤
IsNumberRefused numbers why = ⊥
