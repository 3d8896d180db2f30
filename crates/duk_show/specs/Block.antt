-- What `show` prints of a key block, and where the reading of one stops (this project's own, over
-- the layout of ANSI X9.143). No key is needed: what comes before the MAC in the order of a key
-- block's faults is shown, and the MAC is not tested.
use Rattle.std.specs.Prelude.{◌≡◌, ◌⊎◌, ◌<◌, ◌≤◌, ◌+◌, ◌-◌, ℕ, List, [], ◌∷◌, ◌++◌, codes, decimal, drop, flat_map, length, slice_index, take}
use Rattle.std.specs.Char.{IsAsciiDigit}
use Rattle.std.specs.List.{All, concat}
use Rattle.duk_block.specs.Faults.{HasCount, HasSealedPart, IsFirstFault, Meets, rank}
use Rattle.duk_block.specs.HeaderText.{HasWidths, IsPrintable, fields}
use Rattle.duk_block.specs.Optional.{IsOptionalBlock}
use Rattle.duk_block.specs.declared.fault.BlockFault.{BlockFault}
use Rattle.duk_block.specs.declared.fault.BlockFault.TheVariants as fault
use Rattle.duk_block.specs.declared.header.Header.{Header}
use Rattle.duk_commands.specs.Lines.{text_line}
use Rattle.duk_io.specs.FirstFault.{AllBefore}
use Rattle.duk_show.specs.Hexadecimal.{IsNoDigitAt}
use Rattle.duk_show.specs.KeyNames.{algorithm_name, exportability_name, mode_name, usage_name}
use Rattle.duk_show.specs.ShownText.{shown_text}
use Rattle.duk_show.specs.declared.fault.ShowFault.{ShowFault}
use Rattle.duk_show.specs.declared.fault.ShowFault.TheVariants.{BlockRefused}

-- the parts of a key block that are shown
pub record BlockParts : Type 0 where
  pub header : Header
  pub reserved : List ℕ
  pub optional_blocks : List (List ℕ)
  pub sealed_part : List ℕ

-- the text has these parts at their places
pub record HasBlockParts (block : List ℕ) (parts : BlockParts) : Type 0 where
  pub widths : HasWidths parts.header
  pub fields_are : fields parts.header ≡ take 7 (drop 5 block)
  pub count_is : HasCount block (length parts.optional_blocks)
  pub reserved_is : parts.reserved ≡ take 2 (drop 14 block)
  pub each_optional : All IsOptionalBlock parts.optional_blocks
  pub laid_out : drop 16 block ≡ concat parts.optional_blocks ++ parts.sealed_part

-- the line of a field, as it stands and in words
abbrev pub worded_line : List ℕ → List ℕ → List ℕ → List ℕ
worded_line name value words = text_line name (value ++ codes " " ++ words)

-- the lines of a header's fields
abbrev pub header_lines : Header → List ℕ
header_lines header =
    worded_line (codes "usage") header.usage (usage_name header.usage)
    ++ worded_line (codes "algorithm") (header.algorithm ∷ []) (algorithm_name header.algorithm)
    ++ worded_line (codes "mode") (header.mode ∷ []) (mode_name header.mode)
    ++ text_line (codes "key-version") header.version
    ++ worded_line (codes "exportability") (header.exportability ∷ [])
    (exportability_name header.exportability)

-- the line of an optional block, whose content may be any bytes
abbrev pub optional_line : List ℕ → List ℕ
optional_line block = text_line (codes "optional-block") (shown_text block)

-- the lines of the ciphertext and of the MAC, its last 16 digits, as they stand
abbrev pub sealed_lines : List ℕ → List ℕ
sealed_lines sealed_part =
    text_line (codes "ciphertext") (take (length sealed_part - 16) sealed_part)
    ++ text_line (codes "mac") (drop (length sealed_part - 16) sealed_part)

-- the lines of a key block of so many characters
abbrev pub block_lines : ℕ → BlockParts → List ℕ
block_lines size parts =
    text_line (codes "version") (codes "B")
    ++ text_line (codes "length") (decimal size)
    ++ header_lines parts.header
    ++ text_line (codes "optional-blocks") (decimal (length parts.optional_blocks))
    ++ text_line (codes "reserved") (shown_text parts.reserved)
    ++ flat_map optional_line parts.optional_blocks
    ++ sealed_lines parts.sealed_part

-- the text meets what a key block must before its MAC, whatever the key is, and these are the lines
-- of its parts
pub record IsBlockText (block text : List ℕ) : Type 0 where
  pub parts : BlockParts
  pub met : (protection_key : List ℕ) → AllBefore rank (Meets block protection_key) fault.Mac
  pub parts_are : HasBlockParts block parts
  pub text_is : text ≡ block_lines (length block) parts

-- what a character of the header's fields must be: those of the number of optional blocks digits,
-- from place 12 on, and the others printable
pub record IsFieldCharacter (place character : ℕ) : Type 0 where
  pub printable : place < 12 → IsPrintable character
  pub digit : 12 ≤ place → IsAsciiDigit character

-- the first character of the fields that is not
pub record IsWrongCharacterAt (block : List ℕ) (place : ℕ) : Type 0 where
  pub first : 5 ≤ place
  pub last : place < 14
  pub wrong : ¬ IsFieldCharacter place (slice_index block place)
  pub earlier_right : (earlier : ℕ) → 5 ≤ earlier → earlier < place
      → IsFieldCharacter earlier (slice_index block earlier)

-- no optional block begins a text
abbrev pub BeginsWithNoBlock : List ℕ → Type 0
BeginsWithNoBlock text =
    (block after : List ℕ) → IsOptionalBlock block → ¬ (text ≡ block ++ after)

-- the place after all optional blocks, or after those in front of the first text that is none
pub record IsAfterOptionalBlocks (block : List ℕ) (place : ℕ) : Type 0 where
  pub count : ℕ
  pub optional_blocks : List (List ℕ)
  pub count_is : HasCount block count
  pub each : All IsOptionalBlock optional_blocks
  pub laid_out : drop 16 block ≡ concat optional_blocks ++ drop place block
  pub place_is : place ≡ 16 + length (concat optional_blocks)
  pub no_more : (length optional_blocks ≡ count)
      ⊎ ((length optional_blocks < count) × BeginsWithNoBlock (drop place block))

-- the place in the text of the first character of the sealed part that is no digit
pub record IsSealedStop (block : List ℕ) (place : ℕ) : Type 0 where
  pub sealed_part : List ℕ
  pub offset : ℕ
  pub sealed_part_is : HasSealedPart block sealed_part
  pub offset_is : IsNoDigitAt sealed_part offset
  pub place_is : place + length sealed_part ≡ length block + offset

-- the place of a fault: where the length field begins, the version, the first wrong character of
-- the fields, the end of the optional blocks, the first character after them that is no digit
abbrev pub IsBlockStop : List ℕ → ℕ → BlockFault → Type 0
IsBlockStop block place fault.Length = place ≡ 1
IsBlockStop block place fault.Version = place ≡ 0
IsBlockStop block place fault.HeaderField = IsWrongCharacterAt block place
IsBlockStop block place fault.OptionalBlock = IsAfterOptionalBlocks block place
IsBlockStop block place fault.Hex = IsSealedStop block place
IsBlockStop block place why = ⊥

-- the first fault of a text, whatever the key is, and the place of it
abbrev pub IsFirstBlockFault : List ℕ → ShowFault → Type 0
IsFirstBlockFault block (BlockRefused place why) =
    ((protection_key : List ℕ) → IsFirstFault block protection_key why)
    × IsBlockStop block place why
IsFirstBlockFault block why = ⊥

-- a text begins as a key block of another version does: with A (65), C, D or E
abbrev pub IsOfOtherVersion : List ℕ → Type 0
IsOfOtherVersion [] = ⊥
IsOfOtherVersion (first ∷ rest) = (first ≡ 65) ⊎ (first ≡ 67) ⊎ (first ≡ 68) ⊎ (first ≡ 69)

-- why a text is not shown as a key block: it is one of another version, which has other lengths; or
-- its first fault
abbrev pub IsBlockRefused : List ℕ → ShowFault → Type 0
IsBlockRefused block why =
    (IsOfOtherVersion block × (why ≡ BlockRefused 0 fault.Version))
    ⊎ (¬ IsOfOtherVersion block × IsFirstBlockFault block why)
