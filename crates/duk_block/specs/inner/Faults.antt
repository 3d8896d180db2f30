-- What only private functions and proofs say beside `Faults.antt`: this project's own.
use Rattle.std.specs.Prelude.{◌≡◌, ℕ, List, take, drop}
use Rattle.duk_io.specs.FirstFault.{AllBefore}
use Rattle.duk_block.specs.declared.header.Header.{Header}
use Rattle.duk_block.specs.declared.fault.BlockFault.{BlockFault}
use Rattle.duk_block.specs.HeaderText.{IsHeader, fields}
use Rattle.duk_block.specs.Faults.{HasLength, HasVersion, HasCount, Meets, rank}

-- the text meets what comes before this fault in the order
abbrev pub MetBefore : List ℕ → List ℕ → BlockFault → Type 0
MetBefore text protection_key = AllBefore rank (Meets text protection_key)

-- the header's characters are this header's and this number of optional blocks: what a private
-- function of `unwrap` answers
pub record HasHeader (text : List ℕ) (header : Header) (count : ℕ) : Type 0 where
  pub length_is : HasLength text
  pub version_is : HasVersion text
  pub header_is : IsHeader header
  pub fields_are : fields header ≡ take 7 (drop 5 text)
  pub count_is : HasCount text count
