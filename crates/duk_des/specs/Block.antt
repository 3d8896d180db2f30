-- Blocks of eight bytes (NIST SP 800-67 section 2).
use Rattle.std.specs.Prelude.{◌≡◌, ◌<◌, ◌^◌, ℕ, List, length}
use Rattle.std.specs.List.{All}

-- eight bytes, as a block and a key of DES have them
pub record IsBlock (bytes : List ℕ) : Type 0 where
  pub eight : length bytes ≡ 8
  pub bytes_fit : All (λ byte. byte < 2 ^ 8) bytes
