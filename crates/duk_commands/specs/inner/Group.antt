-- The keys of many numbers that are derived together: this project's own.
use Rattle.std.specs.Prelude.{◌≡◌, ◌<◌, ℕ, Bool, true, false, List, Some, length}
use Rattle.duk_commands.specs.declared.batch.group.Group.{Group}
use Rattle.duk_group.specs.Numbers.{bytes_at, number_at}
use Rattle.duk_tdes.specs.KeyText.{double_key_of_text}
use Rattle.duk_tree.specs.Derivation.{initial_key_of, transaction_key_of}
use Rattle.duk_tree.specs.Path.{IsUsable}
use Rattle.duk_tree.specs.Serial.{Serial}

-- the initial key of a terminal, by whether the key that is given is that already, or else a base
-- derivation key
abbrev pub root_key_of : Bool → List ℕ → ℕ → List ℕ
root_key_of false key iksn = initial_key_of key iksn
root_key_of true key iksn = key

-- the number is usable, and its initial key and its transaction key are these, by the key of a text
pub record HasKeysOf (text : List ℕ) (is_initial : Bool) (number : Serial) (initial key : List ℕ)
    : Type 0 where
  pub given : List ℕ
  pub given_read : double_key_of_text text ≡ Some given
  pub usable : IsUsable number.counter
  pub initial_is : initial ≡ root_key_of is_initial given number.iksn
  pub key_is : key ≡ transaction_key_of initial number.iksn number.counter

-- a group has the keys of each of its numbers, by the key of its text
abbrev pub AreKeysOf : Group → Type 0
AreKeysOf group = (i : ℕ) → i < length group.numbers
    → HasKeysOf group.text group.is_initial (number_at group.numbers i) (bytes_at group.initial i)
    (bytes_at group.keys i)

-- each of the numbers is usable
abbrev pub AreUsable : List Serial → Type 0
AreUsable numbers = (i : ℕ) → i < length numbers → IsUsable (number_at numbers i).counter
