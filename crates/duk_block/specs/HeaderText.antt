-- The header of a key block (ANSI X9.143, key block header).
use Rattle.std.specs.Prelude.{◌≡◌, ◌≤◌, ℕ, List, [], ◌∷◌, ◌++◌, length, codes}
use Rattle.std.specs.List.{All}
use Rattle.duk_block.specs.declared.header.Header.{Header}
use Rattle.duk_block.specs.Digits.{four_digits, two_digits}

-- a printable ASCII character; that each field is made of such characters is this project's own
abbrev pub IsPrintable : ℕ → Type 0
IsPrintable byte = (0x20 ≤ byte) × (byte ≤ 0x7E)

-- usage, algorithm, mode of use, key version and exportability
abbrev pub fields : Header → List ℕ
fields header =
    header.usage
    ++ header.algorithm ∷ header.mode ∷ []
    ++ header.version
    ++ header.exportability ∷ []

-- usage and version have two characters
pub record HasWidths (header : Header) : Type 0 where
  pub usage_width : length header.usage ≡ 2
  pub version_width : length header.version ≡ 2

-- the fields have their widths, and their characters can be printed
pub record IsHeader (header : Header) : Type 0 where
  pub widths : HasWidths header
  pub printable : All IsPrintable (fields header)

-- the 16 characters: the block's version identifier B, the length of the whole block, the fields,
-- the number of optional blocks, and two characters that are reserved
abbrev pub header_text : ℕ → Header → ℕ → List ℕ → List ℕ
header_text total header optional_count reserved =
    codes "B" ++ four_digits total ++ fields header ++ two_digits optional_count ++ reserved
