-- How a lane goes down the path of its counter: this project's own.
use Rattle.std.specs.Prelude.{◌≡◌, ◌<◌, ◌-◌, ℕ, true, false, List, ◌∷◌}
use Rattle.std.specs.List.{filter}
use Rattle.duk_tree.specs.Path.{value_of, places_from, has_one}
use Rattle.duk_tree.specs.Serial.{Serial, low_bytes}
use Rattle.duk_group.specs.declared.turns.Turn.{Turn}

-- the path to the node at which a lane stands that has gone down to this place: the places of the
-- counter's one bits from there up
abbrev pub ones_from : ℕ → ℕ → List ℕ
ones_from place counter = filter (has_one counter) (places_from place (21 - place))

-- the next one bit is at this place, and the block is the register of the child which has it
pub record GoesOn (number : Serial) (before place : ℕ) (turn : Turn) : Type 0 where
  pub falls : place < before
  pub path : ones_from place number.counter ≡ place ∷ ones_from before number.counter
  pub register : turn.block ≡ low_bytes (record { iksn = number.iksn; counter = value_of (place ∷ ones_from before number.counter) })

-- no one bit is left: the lane is at the end of its path
pub record Stays (number : Serial) (before place : ℕ) : Type 0 where
  pub ended : place ≡ 0
  pub path : ones_from 0 number.counter ≡ ones_from before number.counter

-- where a lane goes from the place before
pub record IsNext (number : Serial) (before place : ℕ) (turn : Turn) : Type 0 where
  pub goes : turn.goes ≡ true → GoesOn number before place turn
  pub stays : turn.goes ≡ false → Stays number before place
