-- How a host finds a used number in memory: this project's own, over the key serial numbers of ANSI
-- X9.24-1:2009 annex A.
use Rattle.std.specs.Prelude.{◌≡◌, ◌≢◌, ◌<◌, ◌≤◌, ◌+◌, ◌-◌, ◌*◌, ◌/◌, ◌%◌, ◌^◌, ◌&&◌, ◌⊎◌, ◌↔◌, leb, ltb, ℕ, Bool, Option, Some, None, List, length, map}
use Rattle.std.specs.BTreeMap.{BTreeMap, get}
use Rattle.std.specs.List.{filter, flat_map, range_with_len}
use Rattle.std.specs.Ordering.{nat_cmp}
use Rattle.duk_store.specs.Log.{Numbers}
use Rattle.duk_tree.specs.Next.{IsNextUsable}
use Rattle.duk_tree.specs.Path.{IsUsable, path_of}
use Rattle.duk_tree.specs.Serial.{Serial, serial_number}
use Rattle.duk_host.specs.declared.ranges.Range.{Range}

-- the initial key serial number of a number of 80 bits
abbrev pub iksn_of : ℕ → ℕ
iksn_of number = number / 2 ^ 21 * 2 ^ 21

-- and its counter
abbrev pub counter_of : ℕ → ℕ
counter_of number = number % 2 ^ 21

-- ranges of used numbers: each stands under the number that it begins at, and has the counter that
-- it ends at, of the same initial key serial number
abbrev pub Ranges : Type 0
Ranges = BTreeMap ℕ ℕ

-- a range begins at this number, and ends at this counter
abbrev pub HasRange : Ranges → ℕ → ℕ → Type 0
HasRange ranges first last = get nat_cmp ranges first ≡ Some last

-- whether a counter numbers a transaction: it has 21 bits, and its path has one to ten places
abbrev pub is_usable : ℕ → Bool
is_usable counter =
    let places = length (path_of counter) in
    ltb counter (2 ^ 21) && (leb 1 places && leb places 10)

-- the counters from one to another
abbrev pub counters_between : ℕ → ℕ → List ℕ
counters_between first last = range_with_len first (last + 1 - first)

-- the key serial numbers of a range: all usable ones from its first to its last
abbrev pub range_numbers : ℕ × ℕ → Numbers
range_numbers range =
    map (λ counter. record { iksn = iksn_of range.0; counter = counter })
    (filter is_usable (counters_between (counter_of range.0) range.1))

-- the key serial numbers of all the ranges
abbrev pub numbers_in : Ranges → Numbers
numbers_in ranges = flat_map range_numbers ranges.entries

-- a key serial number is in the range that begins at this number and ends at this counter
pub record IsInRange (first last : ℕ) (ksn : Serial) : Type 0 where
  pub same_terminal : iksn_of first ≡ ksn.iksn
  pub from_first : counter_of first ≤ ksn.counter
  pub to_last : ksn.counter ≤ last
  pub is_usable : IsUsable ksn.counter

-- a key serial number is in one of the ranges
pub record IsHeld (ranges : Ranges) (ksn : Serial) : Type 0 where
  pub first : ℕ
  pub last : ℕ
  pub is_range : HasRange ranges first last
  pub is_in : IsInRange first last ksn

-- the ranges hold what others held, and one more
abbrev pub HoldsOneMore : Ranges → Serial → Ranges → Type 0
HoldsOneMore ranges ksn more = (other : Serial) → IsHeld more other ↔ (IsHeld ranges other ⊎ (other ≡ ksn))

-- both ends of a range are usable, and the last is not below the first
pub record IsRange (first last : ℕ) : Type 0 where
  pub begins_usable : IsUsable (counter_of first)
  pub ends_usable : IsUsable last
  pub is_forward : counter_of first ≤ last

-- two counters have a usable one between them
pub record AreApart (last first : ℕ) : Type 0 where
  pub between : ℕ
  pub is_usable : IsUsable between
  pub is_above : last < between
  pub is_below : between < first

-- ranges, of which no two of one terminal overlap or touch: a usable number that is in neither lies
-- between them
pub record AreRanges (ranges : Ranges) : Type 0 where
  pub each : (first last : ℕ) → HasRange ranges first last → IsRange first last
  pub apart : (first last second end : ℕ) → HasRange ranges first last
      → HasRange ranges second end → iksn_of first ≡ iksn_of second → first < second
      → AreApart last (counter_of second)

-- a range that begins at this number begins at or below a key serial number of the same terminal
pub record BeginsBefore (first : ℕ) (ksn : Serial) : Type 0 where
  pub same_terminal : iksn_of first ≡ ksn.iksn
  pub at_or_below : counter_of first ≤ ksn.counter

-- no range begins so
abbrev pub HasNoneBefore : Ranges → Serial → Type 0
HasNoneBefore ranges ksn =
    (first last : ℕ) → HasRange ranges first last → ¬ BeginsBefore first ksn

-- the last range that begins so
pub record IsLastBefore (ranges : Ranges) (ksn : Serial) (range : Range) : Type 0 where
  pub is_range : HasRange ranges range.first range.last
  pub begins : BeginsBefore range.first ksn
  pub is_last : (first last : ℕ) → HasRange ranges first last → BeginsBefore first ksn
      → first ≤ range.first

-- the last range that begins at or below a number
pub record IsLastUpTo (ranges : Ranges) (number : ℕ) (range : Range) : Type 0 where
  pub is_range : HasRange ranges range.first range.last
  pub is_up_to : range.first ≤ number
  pub is_last : (first last : ℕ) → HasRange ranges first last → first ≤ number
      → first ≤ range.first

-- no range begins so
abbrev pub HasNoneUpTo : Ranges → ℕ → Type 0
HasNoneUpTo ranges number = (first last : ℕ) → HasRange ranges first last → ¬ (first ≤ number)

-- a range is this one, and of the terminal of a key serial number
pub record IsOfTerminal (range : Range) (ksn : Serial) (found : Range) : Type 0 where
  pub is_same : found ≡ range
  pub same_terminal : iksn_of range.first ≡ ksn.iksn

-- a range that begins at this number begins with the number that the terminal of a key serial
-- number uses after that
pub record BeginsAfter (ksn : Serial) (first : ℕ) : Type 0 where
  pub same_terminal : iksn_of first ≡ ksn.iksn
  pub is_next : IsNextUsable ksn.counter (counter_of first)

-- the range that begins so
pub record IsRangeAfter (ranges : Ranges) (ksn : Serial) (range : Range) : Type 0 where
  pub is_range : HasRange ranges range.first range.last
  pub begins : BeginsAfter ksn range.first

-- none begins so: a usable number lies before each that begins above
abbrev pub HasNoneAfter : Ranges → Serial → Type 0
HasNoneAfter ranges ksn =
    (first last : ℕ) → HasRange ranges first last → iksn_of first ≡ ksn.iksn
    → ksn.counter < counter_of first → AreApart ksn.counter (counter_of first)

-- a range is found that reaches this counter
abbrev pub Reaches : Option Range → ℕ → Type 0
Reaches None counter = ⊥
Reaches (Some range) counter = counter ≤ range.last

-- where the range begins that a key serial number comes into: with the range before it, if that
-- ends right before it, and else with itself
abbrev pub BeginsWith : Serial → Option Range → ℕ → Type 0
BeginsWith ksn None first = first ≡ serial_number ksn
BeginsWith ksn (Some before) first =
    (IsNextUsable before.last ksn.counter × (first ≡ before.first))
    ⊎ (AreApart before.last ksn.counter × (first ≡ serial_number ksn))

-- the number that its terminal uses after a key serial number
pub record IsNextNumber (ksn : Serial) (next : ℕ) : Type 0 where
  pub counter : ℕ
  pub is_next : IsNextUsable ksn.counter counter
  pub number_is : next ≡ ksn.iksn + counter

-- where that range ends: with the range after it, if there is one, and else with its counter
abbrev pub EndsWith : ℕ → Option Range → ℕ → Type 0
EndsWith counter None last = last ≡ counter
EndsWith counter (Some after) last = last ≡ after.last

-- this range begins at a number
abbrev pub BeginsAt : Option Range → ℕ → Type 0
BeginsAt None first = ⊥
BeginsAt (Some range) first = first ≡ range.first

-- a range was put in, and the one after it was taken out
pub record IsPut (old new : Ranges) (range : Range) (after : Option Range) : Type 0 where
  pub here : HasRange new range.first range.last
  pub only : (first last : ℕ) → HasRange new first last
      → ((first ≡ range.first) × (last ≡ range.last))
      ⊎ (HasRange old first last × (first ≢ range.first) × (¬ BeginsAt after first))
  pub kept : (first last : ℕ) → HasRange old first last
      → HasRange new first last ⊎ ((first ≡ range.first) ⊎ BeginsAt after first)
