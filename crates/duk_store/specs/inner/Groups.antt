-- What only private functions and proofs say beside `Records.antt`: this project's own.
use Rattle.std.specs.Prelude.{◌≡◌, ◌≤◌, ◌<◌, ◌+◌, ◌-◌, ℕ, zero, suc, List, length, slice_get, Some}
use Rattle.duk_store.specs.Format.{FormatMeaning}
use Rattle.duk_store.specs.Records.{HasContents, record_at}

-- the records of this range are the same
abbrev pub SameRecords : ℕ → ℕ → ℕ → List ℕ → List ℕ → Type 0
SameRecords long from to before after =
    (place : ℕ) → from ≤ place → place < to
    → record_at long place after ≡ record_at long place before

-- how many records of a group of so many follow the one at a place in it, as that one says
abbrev pub followers_at : ℕ → ℕ → ℕ
followers_at zero count = count - 1
followers_at (suc place) count = 0

-- on the disk of an identity, the first items of a group stand in the contents of the records from a
-- place on
abbrev pub AreWritten :
    {I : Type 0} → FormatMeaning I → ℕ → ℕ → List I → ℕ → List ℕ → Type 0
AreWritten {I} format identity count group place bytes =
    (index : ℕ) (item : I) → index < count → slice_get group index ≡ Some item
    → HasContents format identity (place + index) (followers_at index (length group)) item
    (record_at format.record_length (place + index) bytes)
