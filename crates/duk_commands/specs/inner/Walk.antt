-- What only private functions and proofs say beside `Walk.antt`: this project's own.
use Rattle.std.specs.Prelude.{◌≡◌, ◌≤◌, ℕ, Bool, List}
use Rattle.duk_group.specs.InOrder.{InOrder}
use Rattle.duk_io.specs.Known.{Known}
use Rattle.duk_io.specs.Sink.{IsCut, IsWritten}
use Rattle.duk_commands.specs.Walk.{Asked, number_line, spent_line, IsPrinted, IsPassed}

-- a terminal before its first number
abbrev pub before_first : List ℕ → ℕ → InOrder
before_first initial iksn = record { initial = initial; iksn = iksn; counter = 1 }

-- the line of a counter of a terminal
abbrev pub line_of : InOrder → Bool → ℕ → List ℕ
line_of keys alone = number_line keys.initial keys.iksn alone

-- a terminal that has passed so many numbers: it is the same terminal, and its lines go on where
-- they were
pub record Passes (old : InOrder) (skip : ℕ) (new : InOrder) : Type 0 where
  pub same_initial : new.initial ≡ old.initial
  pub same_iksn : new.iksn ≡ old.iksn
  pub lines : (line : ℕ → List ℕ) (count : ℕ) (text : List ℕ)
      → IsPrinted line new.counter count text
      → IsPassed line old.counter skip count text

-- a terminal that is spent before it has passed so many numbers
abbrev pub IsSpentWithin : InOrder → ℕ → Type 0
IsSpentWithin old skip =
    (line : ℕ → List ℕ) (count : ℕ) → IsPassed line old.counter skip count spent_line

-- the lines of so many numbers of a terminal were written
abbrev pub HasPrinted : InOrder → Bool → ℕ → Known → Known → Type 0
HasPrinted old alone count output output' =
    (text : List ℕ) × IsPrinted (line_of old alone) old.counter count text
    × IsWritten output output' text

-- a prefix of such lines was written
abbrev pub HasPrintedInPart : InOrder → Bool → ℕ → Known → Known → Type 0
HasPrintedInPart old alone count output output' =
    (reached : ℕ) × (text : List ℕ) × (reached ≤ count)
    × IsPrinted (line_of old alone) old.counter reached text
    × IsCut output output' text

-- the same after numbers that are passed
abbrev pub HasWalked : InOrder → Bool → ℕ → ℕ → Known → Known → Type 0
HasWalked old alone skip count output output' =
    (text : List ℕ) × IsPassed (line_of old alone) old.counter skip count text
    × IsWritten output output' text

abbrev pub HasWalkedInPart : InOrder → Bool → ℕ → ℕ → Known → Known → Type 0
HasWalkedInPart old alone skip count output output' =
    (reached : ℕ) × (text : List ℕ) × (reached ≤ count)
    × IsPassed (line_of old alone) old.counter skip reached text
    × IsCut output output' text

-- what the arguments ask for
pub record IsAskedFor (asked : Asked) (initial : List ℕ) (iksn skip count : ℕ) : Type 0 where
  pub same_initial : initial ≡ asked.initial
  pub same_iksn : iksn ≡ asked.iksn
  pub same_skip : skip ≡ asked.skip
  pub same_count : count ≡ asked.count
