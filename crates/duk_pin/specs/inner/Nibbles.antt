-- What only private functions and proofs say beside `Nibbles.antt`: this project's own.
use Rattle.std.specs.Prelude.{◌≡◌, ℕ, ◌<◌, List, length, All}

-- sixteen nibbles, as the fields of a PIN block have
pub record IsField (field : List ℕ) : Type 0 where
  pub sixteen : length field ≡ 16
  pub nibbles_fit : All (λ nibble. nibble < 16) field
