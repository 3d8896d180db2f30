-- Keys as lists of bytes. The words are this project's own.
use Rattle.std.specs.Prelude.{◌≡◌, ◌<◌, ◌^◌, ℕ, List, length}
use Rattle.std.specs.List.{All}
pub use Rattle.duk_des.specs.Bytes.{xor_bytes}

-- the bytes of a key of so many bytes
pub record IsKey (size : ℕ) (key : List ℕ) : Type 0 where
  pub size_is : length key ≡ size
  pub bytes_fit : All (λ byte. byte < 2 ^ 8) key
