-- The two numbers of a reversal: this project's own.
use Rattle.std.specs.Prelude.{◌≡◌, ◌≢◌, ℕ, List, ◌++◌}
use Rattle.duk_tree.specs.Path.{IsUsable}
use Rattle.duk_tree.specs.Serial.{Serial, IsSerial, serial_bytes}

-- the key serial number that a reversal uses, and the one that it reverses
pub record Numbers : Type 0 where
  pub ksn : Serial
  pub reversed : Serial

-- a number reverses a usable one of the same initial key serial number, and not itself
pub record Reverses (ksn reversed : Serial) : Type 0 where
  pub same_iksn : reversed.iksn ≡ ksn.iksn
  pub other : reversed.counter ≢ ksn.counter
  pub usable : IsUsable reversed.counter

-- both are key serial numbers, and the first reverses the second
pub record AreNumbers (numbers : Numbers) : Type 0 where
  pub ksn_is : IsSerial numbers.ksn
  pub reversed_is : IsSerial numbers.reversed
  pub reverses : Reverses numbers.ksn numbers.reversed

-- as they stand in a frame: the number that is used, and then the one that is reversed
abbrev pub number_bytes : Numbers → List ℕ
number_bytes numbers = serial_bytes numbers.ksn ++ serial_bytes numbers.reversed
