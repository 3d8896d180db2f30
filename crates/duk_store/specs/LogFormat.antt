-- The records of a log of used numbers, as a format: this project's own.
use Rattle.std.specs.Prelude.{◌≡◌, ℕ, List, length, take, drop, replicate}
use Rattle.duk_tree.specs.Serial.{Serial, serial_of_bytes}
use Rattle.duk_store.specs.Format.{FormatMeaning}

-- the contents of a record with a number: its ten bytes, and five zeros. Each is a group of its own.
pub record SaysNumber (identity place followers : ℕ) (number : Serial) (contents : List ℕ) : Type 0 where
  pub alone : followers ≡ 0
  pub whole : length contents ≡ 15
  pub number_is : number ≡ serial_of_bytes (take 10 contents)
  pub zeros : drop 10 contents ≡ replicate 5 0

abbrev pub log_format : FormatMeaning Serial
log_format = record {
  record_length = 16;
  headers = 0;
  is_header = λ record_bytes. ⊥;
  identity = λ header. 0;
  most = 1;
  may_stand = λ number. Unit {0};
  says = SaysNumber;
}
