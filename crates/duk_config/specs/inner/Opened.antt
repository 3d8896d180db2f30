-- What only private functions and proofs say beside `Opened.antt`: this project's own.
use Rattle.std.specs.Prelude.{◌≡◌, ℕ, List}
use Rattle.duk_block.specs.Faults.{IsFirstFault}
use Rattle.duk_block.specs.KeyBlock.{Wraps}
use Rattle.duk_block.specs.declared.fault.BlockFault.{BlockFault}
use Rattle.duk_block.specs.declared.header.Header.{Header}

-- the text wraps this header and this key alone, and has no fault: what a private function of
-- `open_hsm` answers
pub record WrapsAlone (lmk text : List ℕ) (header : Header) (key : List ℕ) : Type 0 where
  pub wraps : Wraps lmk text header key
  pub alone : (other_header : Header) (other_key : List ℕ) → Wraps lmk text other_header other_key
      → (header ≡ other_header) × (key ≡ other_key)
  pub has_no_fault : (why : BlockFault) → ¬ IsFirstFault text lmk why
