-- What only private functions and proofs say beside `Tdes.antt`: this project's own.
use Rattle.std.specs.Prelude.{◌≡◌, ℕ, List, Option, MatchOption}
use Rattle.duk_tdes.specs.Tdes.{first_key, second_key, third_key}

-- these are the single keys of a key, where a third that is not given is the first again: what a
-- cipher under one key keeps
pub record AreSingleKeys (key first second : List ℕ) (third : Option (List ℕ)) : Type 0 where
  pub first_is : first ≡ first_key key
  pub second_is : second ≡ second_key key
  pub third_is : MatchOption third (third_key key ≡ first_key key) (λ third. third ≡ third_key key)
