-- How records are read, one after the other: this project's own.
use Rattle.std.specs.Prelude.{◌≡◌, ◌⊎◌, ◌<◌, ◌≤◌, ◌+◌, ◌*◌, ℕ, List, ◌++◌, ◌∷◌, length}
use Rattle.duk_store.specs.Disk.{range_of}
use Rattle.duk_store.specs.declared.fault.StoreFault.{StoreFault}
use Rattle.duk_store.specs.declared.fault.StoreFault.TheVariants.{Damaged}
use Rattle.duk_store.specs.Format.{FormatMeaning}
use Rattle.duk_store.specs.Records.{AreClosedFrom, AreKeptFrom, AreListed, HasContents, IsOpen, identity_in, record_at}
use Rattle.duk_store.specs.Visitor.{TakesAll}
use Rattle.duk_store.specs.declared.reading.Reading.{Reading}
use Rattle.duk_store.specs.declared.reading.Reading.TheVariants.{Behind, Groups}

-- no list is kept in these bytes
abbrev pub ListsNone : {I : Type 0} → FormatMeaning I → List ℕ → Type 0
ListsNone {I} format bytes = (items : List I) → ¬ AreListed format items bytes

abbrev pub HasNoContents : {I : Type 0} → FormatMeaning I → ℕ → ℕ → List ℕ → Type 0
HasNoContents {I} format identity place record_bytes =
    (followers : ℕ) (item : I) → ¬ HasContents format identity place followers item record_bytes

-- the records before a place are the header and those of groups with these items, of which so many
-- are left
pub record HasReadGroups {I : Type 0} (format : FormatMeaning I) (kept left : ℕ) (items : List I)
    (place : ℕ) (bytes : List ℕ) : Type 0 where
  pub counted : length items ≡ kept
  pub all_kept : place ≡ format.headers + kept
  -- whatever is kept from here on is kept behind them ..
  pub joins : (rest : List I) → AreKeptFrom format rest left place bytes
      → AreListed format (items ++ rest) bytes
  -- .. and nothing else is kept
  pub parts : (listed : List I) → AreListed format listed bytes
      → (rest : List I) × AreKeptFrom format rest left place bytes × (listed ≡ items ++ rest)

-- the records before a place are those of groups with these items, and closed ones behind them
pub record HasReadBehind {I : Type 0} (format : FormatMeaning I) (kept : ℕ) (items : List I)
    (place : ℕ) (bytes : List ℕ) : Type 0 where
  pub counted : length items ≡ kept
  pub in_front : format.headers + kept ≤ place
  pub closed : (other : ℕ) → format.headers + kept ≤ other → other < place
      → ¬ IsOpen (record_at format.record_length other bytes)
  pub joins : AreClosedFrom format.record_length (format.headers + kept) bytes
      → AreListed format items bytes
  pub parts : (listed : List I) → AreListed format listed bytes
      → AreClosedFrom format.record_length (format.headers + kept) bytes

-- the records before a place were read, and these items were found
abbrev pub HasRead :
    {I : Type 0} → FormatMeaning I → Reading → List I → ℕ → List ℕ → Type 0
HasRead format (Groups kept left) items place bytes =
    HasReadGroups format kept left items place bytes
HasRead format (Behind kept) items place bytes = HasReadBehind format kept items place bytes

abbrev pub kept_in : Reading → ℕ
kept_in (Groups kept left) = kept
kept_in (Behind kept) = kept

-- on the disk of an identity, a record stands at a place of the bytes, and a piece of them from a
-- place on
abbrev pub IsRecordAt : {I : Type 0} → FormatMeaning I → ℕ → List ℕ → ℕ → List ℕ → Type 0
IsRecordAt format identity record_bytes place bytes =
    (record_at format.record_length place bytes ≡ record_bytes)
    × (identity_in format bytes ≡ identity)

abbrev pub IsPieceAt : {I : Type 0} → FormatMeaning I → ℕ → List ℕ → ℕ → List ℕ → Type 0
IsPieceAt format identity piece place bytes =
    (piece ≡ range_of (format.record_length * place) (length piece) bytes)
    × (identity_in format bytes ≡ identity)

-- so many records are read, wherever these stand, and a visitor takes their items
pub record ReadsOn {I V : Type 0} (format : FormatMeaning I) (takes : V → I → V → Type 0)
    (before : Reading) (count : ℕ) (standing : ℕ → List ℕ → Type 0) (visitor visited : V)
    (after : Reading) : Type 0 where
  pub items : List I
  pub taken : TakesAll takes items visitor visited
  pub kept : kept_in after ≡ kept_in before + length items
  pub most : length items ≤ count
  pub read : (earlier : List I) (place : ℕ) (bytes : List ℕ) → standing place bytes
      → HasRead format before earlier place bytes
      → HasRead format after (earlier ++ items) (place + count) bytes

-- no list goes on with these records
abbrev pub GoesOnInNone :
    {I : Type 0} → FormatMeaning I → Reading → (ℕ → List ℕ → Type 0) → Type 0
GoesOnInNone {I} format before standing =
    (earlier : List I) (place : ℕ) (bytes : List ℕ) → standing place bytes
    → HasRead format before earlier place bytes → ListsNone format bytes

-- a visitor refused the item of one of these records. Each list that goes on with them has it there.
pub record Refuses {I V : Type 0} (format : FormatMeaning I) (takes : V → I → V → Type 0)
    (refuses : V → I → StoreFault → Type 0) (before : Reading) (standing : ℕ → List ℕ → Type 0)
    (visitor : V) (fault : StoreFault) : Type 0 where
  pub items : List I
  pub item : I
  pub visited : V
  pub taken : TakesAll takes items visitor visited
  pub refused : refuses visited item fault
  pub begins : (earlier : List I) (place : ℕ) (bytes : List ℕ) → standing place bytes
      → HasRead format before earlier place bytes
      → (listed : List I) → AreListed format listed bytes
      → (rest : List I) × (listed ≡ earlier ++ (items ++ item ∷ rest))

-- why records are not read
abbrev pub IsUnreadable : {I V : Type 0} → FormatMeaning I → (V → I → V → Type 0)
    → (V → I → StoreFault → Type 0) → Reading → (ℕ → List ℕ → Type 0) → V → StoreFault → Type 0
IsUnreadable format takes refuses before standing visitor fault =
    ((fault ≡ Damaged) × GoesOnInNone format before standing)
    ⊎ Refuses format takes refuses before standing visitor fault
