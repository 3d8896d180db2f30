-- Initial keys that were issued, as a ledger keeps them: this project's own.
use Rattle.std.specs.Prelude.{◌≡◌, ◌<◌, ◌^◌, ℕ, List, Option, Some, None, IfSome, length}
use Rattle.duk_tree.specs.Serial.{IsIksn}
use Rattle.duk_ledger.specs.declared.issued.Issued.{Issued}
use Rattle.duk_ledger.specs.declared.issued.Made.{Made}

-- what a ledger keeps: the keys in the order in which they were issued
abbrev pub Issues : Type 0
Issues = List Issued

-- what the type says of how a key was made
pub record AreMadeFields (made : Made) : Type 0 where
  pub key_length : length made.key ≡ 3
  pub key_set_length : length made.key_set ≡ 3
  pub run_fits : made.run < 2 ^ 32

-- and of a key that was issued
pub record AreFields (issued : Issued) : Type 0 where
  pub iksn : IsIksn issued.number
  pub made : IfSome issued.made AreMadeFields

-- the run that issued a key: 0 where that is not known
abbrev pub run_of : Option Made → ℕ
run_of None = 0
run_of (Some made) = made.run
