-- What only private functions and proofs say beside `Optional.antt`: this project's own.
use Rattle.std.specs.Prelude.{◌≡◌, ℕ, List, ◌++◌}
use Rattle.duk_block.specs.Optional.{IsOptionalBlock}

-- the text begins with an optional block, and this is what follows it: what a private function of
-- `unwrap` answers
pub record LeavesOne (text rest : List ℕ) : Type 0 where
  pub block : List ℕ
  pub is_block : IsOptionalBlock block
  pub laid_out : text ≡ block ++ rest
