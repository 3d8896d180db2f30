-- The used numbers of a host: this project's own, over the key serial numbers of ANSI X9.24-1:2009
-- annex A.
use Rattle.std.specs.Prelude.{◌≢◌, ◌≡◌, ◌⊎◌, ◌↔◌, All, AllPairs, Contains}
use Rattle.duk_store.specs.Log.{Numbers}
use Rattle.duk_tree.specs.Path.{IsUsable}
use Rattle.duk_tree.specs.Serial.{Serial}

-- a key serial number is one of the used ones, in whatever order these stand
abbrev pub IsUsed : Numbers → Serial → Type 0
IsUsed used ksn = Contains used ksn

-- the used ones, and one more
abbrev pub IsOneMore : Numbers → Serial → Numbers → Type 0
IsOneMore used ksn more = (other : Serial) → IsUsed more other ↔ (IsUsed used other ⊎ (other ≡ ksn))

-- key serial numbers that a host may have used: each of them numbers a transaction, and none occurs
-- twice
pub record AreUsable (numbers : Numbers) : Type 0 where
  pub usable : All (λ ksn. IsUsable ksn.counter) numbers
  pub once : AllPairs (λ earlier later. earlier ≢ later) numbers

-- the used ones are those of this list
pub record Lists (numbers used : Numbers) : Type 0 where
  pub usable : AreUsable numbers
  pub members : (ksn : Serial) → Contains numbers ksn ↔ IsUsed used ksn
