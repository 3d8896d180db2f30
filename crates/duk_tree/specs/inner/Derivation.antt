-- What only private functions and proofs say beside `Derivation.antt`: this project's own.
use Rattle.std.specs.Prelude.{◌≡◌, ℕ, List}
use Rattle.duk_tdes.specs.Tdes.{first_key, second_key}

-- these are the halves of a key (for what a node keeps whose children are
-- derived)
pub record AreHalves (key left right : List ℕ) : Type 0 where
  pub left_is : left ≡ first_key key
  pub right_is : right ≡ second_key key
