-- What only private functions and proofs say beside `Block.antt`: this project's own.
use Rattle.std.specs.Prelude.{◌≡◌, ◌<◌, ◌≤◌, ◌+◌, ◌%◌, ℕ, List, ◌++◌, codes, decimal, drop, flat_map, length, take}
use Rattle.std.specs.List.{All, concat}
use Rattle.duk_block.specs.Faults.{Meets, rank}
use Rattle.duk_block.specs.Optional.{IsOptionalBlock}
use Rattle.duk_block.specs.declared.fault.BlockFault.{BlockFault}
use Rattle.duk_block.specs.declared.header.Header.{Header}
use Rattle.duk_commands.specs.Lines.{text_line}
use Rattle.duk_io.specs.FirstFault.{AllBefore}
use Rattle.duk_show.specs.Block.{BeginsWithNoBlock, header_lines, optional_line, sealed_lines}
use Rattle.duk_show.specs.Hexadecimal.{IsNoDigitAt}
use Rattle.duk_show.specs.ShownText.{shown_text}
use Rattle.duk_show.specs.declared.block.SealedFault.{SealedFault}
use Rattle.duk_show.specs.declared.block.SealedFault.TheVariants as sealed

-- the text begins with an optional block, and this is what follows it
pub record LeavesOne (text rest : List ℕ) : Type 0 where
  pub block : List ℕ
  pub is_block : IsOptionalBlock block
  pub laid_out : text ≡ block ++ rest

-- the text begins with an optional block of this length
pub record BeginsWithBlock (text : List ℕ) (size : ℕ) : Type 0 where
  pub least : 4 ≤ size
  pub within : size ≤ length text
  pub is_block : IsOptionalBlock (take size text)

-- these optional blocks stand after the header, and end at this place; their lines were appended
pub record ArePassed (block : List ℕ) (blocks : List (List ℕ)) (place : ℕ) (before after : List ℕ)
    : Type 0 where
  pub each : All IsOptionalBlock blocks
  pub laid_out : drop 16 block ≡ concat blocks ++ drop place block
  pub place_is : place ≡ 16 + length (concat blocks)
  pub within : place ≤ length block
  pub lines : after ≡ before ++ flat_map optional_line blocks

-- whatever the key is, the text meets what comes before this fault in the order
abbrev pub MetBefore : List ℕ → BlockFault → Type 0
MetBefore block limit =
    (protection_key : List ℕ) → AllBefore rank (Meets block protection_key) limit

-- after fewer than so many optional blocks this is the place of no further one
pub record StopsAfterBlocks (block : List ℕ) (count place : ℕ) : Type 0 where
  pub blocks : List (List ℕ)
  pub each : All IsOptionalBlock blocks
  pub laid_out : drop 16 block ≡ concat blocks ++ drop place block
  pub place_is : place ≡ 16 + length (concat blocks)
  pub fewer : length blocks < count
  pub no_more : BeginsWithNoBlock (drop place block)

-- a text has room for a ciphertext and a MAC
pub record IsSealedPart (sealed_part : List ℕ) : Type 0 where
  pub least : 64 ≤ length sealed_part
  pub whole : length sealed_part % 16 ≡ 0

-- why a text is no ciphertext and MAC
abbrev pub IsSealedFault : List ℕ → SealedFault → Type 0
IsSealedFault sealed_part sealed.Length = ¬ IsSealedPart sealed_part
IsSealedFault sealed_part (sealed.Digit place) =
    IsSealedPart sealed_part × (place < length sealed_part) × IsNoDigitAt sealed_part place

-- the lines of what stands before the optional blocks
abbrev pub front_lines : List ℕ → Header → ℕ → List ℕ
front_lines block header count =
    text_line (codes "version") (codes "B")
    ++ text_line (codes "length") (decimal (length block))
    ++ header_lines header
    ++ text_line (codes "optional-blocks") (decimal count)
    ++ text_line (codes "reserved") (shown_text (take 2 (drop 14 block)))

-- the lines of the parts after the header were appended
pub record HasPushedParts (block : List ℕ) (count : ℕ) (before after : List ℕ) : Type 0 where
  pub blocks : List (List ℕ)
  pub sealed_part : List ℕ
  pub count_is : length blocks ≡ count
  pub each : All IsOptionalBlock blocks
  pub laid_out : drop 16 block ≡ concat blocks ++ sealed_part
  pub lines : after ≡ before ++ flat_map optional_line blocks ++ sealed_lines sealed_part
