-- Optional blocks (ANSI X9.143, optional blocks of the header).
use Rattle.std.specs.Prelude.{◌≡◌, ◌<◌, ◌%◌, ℕ, List, [], ◌∷◌, ◌++◌, length, take, drop}
use Rattle.std.specs.List.{All, concat}
use Rattle.duk_block.specs.HeaderText.{IsPrintable}
use Rattle.duk_block.specs.Hexadecimal.{IsHexadecimal}

-- an id of two characters, two hexadecimal digits that give the length of the whole block, and the
-- block's content; that id and content may be anything is this project's own
pub record IsOptionalBlock (block : List ℕ) : Type 0 where
  pub id : List ℕ
  pub digits : List ℕ
  pub content : List ℕ
  pub laid_out : block ≡ id ++ digits ++ content
  pub id_width : length id ≡ 2
  pub length_is : IsHexadecimal digits (length block ∷ [])

-- the text begins with so many optional blocks, and this is what follows them
pub record Leaves (count : ℕ) (text rest : List ℕ) : Type 0 where
  pub optional_blocks : List (List ℕ)
  pub laid_out : text ≡ concat optional_blocks ++ rest
  pub count_is : length optional_blocks ≡ count
  pub each : All IsOptionalBlock optional_blocks

-- The text is optional blocks, one after another, as they stand in a key block that is written: with
-- the header's 16 characters they fill whole blocks of the cipher. There may be none. That each
-- character can be printed is this project's own.
pub record AreOptionalBlocks (text : List ℕ) : Type 0 where
  pub count : ℕ
  pub count_has_two_digits : count < 100
  pub leaves : Leaves count text []
  pub printable : All IsPrintable text
  pub whole : length text % 8 ≡ 0

-- the block's id is not this one
abbrev pub HasOtherId : List ℕ → List ℕ → Type 0
HasOtherId id block = ¬ take 2 block ≡ id

-- of these optional blocks the first with this id has this content, which stands after the id and
-- the two digits of the length
pub record IsFirstContent (blocks : List (List ℕ)) (id content : List ℕ) : Type 0 where
  pub before : List (List ℕ)
  pub block : List ℕ
  pub after : List (List ℕ)
  pub laid_out : blocks ≡ before ++ block ∷ after
  pub others : All (HasOtherId id) before
  pub id_is : take 2 block ≡ id
  pub content_is : content ≡ drop 4 block
