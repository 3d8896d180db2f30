-- What the calls over key blocks answer (ANSI X9.143). The faults are this project's own.
use Rattle.std.specs.Prelude.{◌≡◌, ◌≢◌, ◌⊎◌, ℕ, List, [], ◌∷◌, length}
use Rattle.std.specs.List.{All}
use Rattle.duk_block.specs.Faults.{IsFirstFault}
use Rattle.duk_block.specs.HeaderText.{HasWidths, IsHeader, fields}
use Rattle.duk_block.specs.KeyBlock.{FitsKeyBlock, FitsKeyBlockWith, IsWithinLimits, IsWrittenKeyBlock, IsWrittenKeyBlockWith, Wraps}
use Rattle.duk_block.specs.Optional.{AreOptionalBlocks, HasOtherId, IsFirstContent}
use Rattle.duk_block.specs.declared.fault.BlockFault.{BlockFault}
use Rattle.duk_block.specs.declared.fault.BlockFault.TheVariants.{HeaderField, OptionalBlock, PadLength}
use Rattle.duk_block.specs.declared.header.Header.{Header}
use Rattle.duk_tdes.specs.Tdes.{IsTdesLength}
use Rattle.duk_calls.specs.Answer.{Answer, Buffer, Ends, HaveLengths, HaveRoom, filled, with_front}
use Rattle.duk_calls.specs.declared.fault.Fault.{Fault}
use Rattle.duk_calls.specs.declared.fault.Fault.TheVariants.{Length, Block, OtherUsage, OtherKeyLength, NoOptionalBlock}

-- a key block to be written: protection key, the characters of the header, optional blocks one
-- after another, key and padding
pub record Wrapping : Type 0 where
  pub kbpk : List ℕ
  pub header : List ℕ
  pub optional : List ℕ
  pub key : List ℕ
  pub padding : List ℕ

abbrev pub wrapping_with : List ℕ → List ℕ → List ℕ → List ℕ → List ℕ → Wrapping
wrapping_with kbpk header optional key padding = record {
  kbpk = kbpk;
  header = header;
  optional = optional;
  key = key;
  padding = padding;
}

-- one with no optional block
abbrev pub wrapping : List ℕ → List ℕ → List ℕ → List ℕ → Wrapping
wrapping kbpk header key padding = wrapping_with kbpk header [] key padding

-- keys of either length, the seven characters of the header, and room for a text
abbrev pub FitWrapping : Wrapping → List ℕ → Type 0
FitWrapping asked text =
    IsTdesLength (length asked.kbpk) × IsTdesLength (length asked.key)
    × HaveLengths (asked.header ∷ []) (7 ∷ []) × HaveRoom (text ∷ []) (512 ∷ [])

-- the header of these seven characters
pub record IsHeaderOf (characters : List ℕ) (header : Header) : Type 0 where
  pub widths : HasWidths header
  pub fields_are : fields header ≡ characters

-- why a key block is not written, of a key and padding of these lengths: a character of the header
-- that cannot be printed, and then padding that does not fit
abbrev pub IsNotWrapped : Header → ℕ → ℕ → BlockFault → Type 0
IsNotWrapped header key padding HeaderField = ¬ IsHeader header
IsNotWrapped header key padding PadLength = IsHeader header × ¬ FitsKeyBlock key padding
IsNotWrapped header key padding _ = ⊥

-- why the key block that is asked for is not written
pub record IsBlockRefused (asked : Wrapping) (why : BlockFault) : Type 0 where
  pub header : Header
  pub header_is : IsHeaderOf asked.header header
  pub why_is : IsNotWrapped header (length asked.key) (length asked.padding) why

-- the call is refused where slices do not fit, and then for a fault of the block
abbrev pub IsWrapRefused : Type 0 → (BlockFault → Type 0) → Fault → Type 0
IsWrapRefused Fit IsRefused Length = ¬ Fit
IsWrapRefused Fit IsRefused (Block why) = Fit × IsRefused why
IsWrapRefused Fit IsRefused _ = ⊥

-- the text is a key block as this project writes it, within the limits
pub record IsWrapped (kbpk : List ℕ) (header : Header) (key padding text : List ℕ) : Type 0 where
  pub limits : IsWithinLimits text
  pub block : IsWrittenKeyBlock text kbpk header key padding

-- the buffer holds the key block that is asked for
pub record HoldsWrapped (asked : Wrapping) (old new : Buffer) : Type 0 where
  pub header : Header
  pub header_is : IsHeaderOf asked.header header
  pub text : List ℕ
  pub wrapped : IsWrapped asked.kbpk header asked.key asked.padding text
  pub written : new ≡ filled text old

abbrev pub WrapAnswers : Wrapping → Buffer → Buffer → Answer → Type 0
WrapAnswers asked old new =
    let Fit = FitWrapping asked old.bytes in
    Ends (Fit × HoldsWrapped asked old new) (IsWrapRefused Fit (IsBlockRefused asked)) (new ≡ old)

-- why a key block with these optional blocks is not written: a character of the header that cannot
-- be printed, then optional blocks that cannot be written, and then padding that does not fit
abbrev pub IsNotWrappedWith : Header → List ℕ → ℕ → ℕ → BlockFault → Type 0
IsNotWrappedWith header optional key padding HeaderField = ¬ IsHeader header
IsNotWrappedWith header optional key padding OptionalBlock =
    IsHeader header × ¬ AreOptionalBlocks optional
IsNotWrappedWith header optional key padding PadLength =
    IsHeader header × AreOptionalBlocks optional
    × ¬ FitsKeyBlockWith (length optional) key padding
IsNotWrappedWith header optional key padding _ = ⊥

-- why the key block with optional blocks that is asked for is not written
pub record IsBlockWithRefused (asked : Wrapping) (why : BlockFault) : Type 0 where
  pub header : Header
  pub header_is : IsHeaderOf asked.header header
  pub why_is : IsNotWrappedWith header asked.optional (length asked.key) (length asked.padding) why

-- the text is a key block with these optional blocks as this project writes it, within the limits
pub record IsWrappedWith (kbpk : List ℕ) (header : Header) (optional key padding text : List ℕ)
    : Type 0 where
  pub limits : IsWithinLimits text
  pub block : IsWrittenKeyBlockWith text kbpk header optional key padding

-- the buffer holds the key block with optional blocks that is asked for
pub record HoldsWrappedWith (asked : Wrapping) (old new : Buffer) : Type 0 where
  pub header : Header
  pub header_is : IsHeaderOf asked.header header
  pub text : List ℕ
  pub wrapped : IsWrappedWith asked.kbpk header asked.optional asked.key asked.padding text
  pub written : new ≡ filled text old

abbrev pub WrapWithAnswers : Wrapping → Buffer → Buffer → Answer → Type 0
WrapWithAnswers asked old new =
    let Fit = FitWrapping asked old.bytes in
    Ends (Fit × HoldsWrappedWith asked old new) (IsWrapRefused Fit (IsBlockWithRefused asked))
    (new ≡ old)

-- what unwrapping writes: the seven characters of the header, and the key
pub record Unwrapped : Type 0 where
  pub header : List ℕ
  pub key : Buffer

abbrev pub unwrapped : List ℕ → Buffer → Unwrapped
unwrapped header key = record { header = header; key = key }

-- a protection key of either length, and room for the header and for the longer key
abbrev pub FitUnwrapping : List ℕ → Unwrapped → Type 0
FitUnwrapping kbpk old =
    IsTdesLength (length kbpk) × HaveRoom (old.header ∷ old.key.bytes ∷ []) (7 ∷ 24 ∷ [])

-- these are the header and the key that the text wraps under the protection key
pub record HoldsUnwrapped (kbpk text : List ℕ) (old new : Unwrapped) : Type 0 where
  pub header : Header
  pub key : List ℕ
  pub wraps : Wraps kbpk text header key
  pub header_is : new.header ≡ with_front (fields header) old.header
  pub key_is : new.key ≡ filled key old.key

abbrev pub IsUnwrapRefused : Type 0 → List ℕ → List ℕ → Fault → Type 0
IsUnwrapRefused Fit kbpk text Length = ¬ Fit
IsUnwrapRefused Fit kbpk text (Block why) = Fit × IsFirstFault text kbpk why
IsUnwrapRefused Fit kbpk text _ = ⊥

abbrev pub UnwrapAnswers : List ℕ → List ℕ → Unwrapped → Unwrapped → Answer → Type 0
UnwrapAnswers kbpk text old new =
    let Fit = FitUnwrapping kbpk old in
    Ends (Fit × HoldsUnwrapped kbpk text old new) (IsUnwrapRefused Fit kbpk text) (new ≡ old)

-- a text to be unwrapped for a key usage, in two characters, and a TDES key of so many bytes
pub record Wanting : Type 0 where
  pub kbpk : List ℕ
  pub usage : List ℕ
  pub size : ℕ
  pub text : List ℕ

abbrev pub wanting : List ℕ → List ℕ → ℕ → List ℕ → Wanting
wanting kbpk usage size text =
    record { kbpk = kbpk; usage = usage; size = size; text = text }

-- a protection key of either length, a usage, a length that keys have, and room for the longer key
abbrev pub FitWanting : Wanting → List ℕ → Type 0
FitWanting asked key =
    IsTdesLength (length asked.kbpk) × HaveLengths (asked.usage ∷ []) (2 ∷ [])
    × IsTdesLength asked.size × HaveRoom (key ∷ []) (24 ∷ [])

-- the front of a slice holds the TDES key (algorithm T) of this length that the text wraps for this
-- usage
pub record HoldsWanted (asked : Wanting) (old new : List ℕ) : Type 0 where
  pub header : Header
  pub key : List ℕ
  pub wraps : Wraps asked.kbpk asked.text header key
  pub usage_is : header.usage ≡ asked.usage
  pub algorithm_is : header.algorithm ≡ 0x54
  pub size_is : length key ≡ asked.size
  pub written : new ≡ with_front key old

-- the text wraps a key for another usage, or of another algorithm
pub record WrapsOtherUsage (asked : Wanting) : Type 0 where
  pub header : Header
  pub key : List ℕ
  pub wraps : Wraps asked.kbpk asked.text header key
  pub use_is_other : (header.usage ≢ asked.usage) ⊎ (header.algorithm ≢ 0x54)

-- the text wraps a TDES key of another length for this usage
pub record WrapsOtherLength (asked : Wanting) : Type 0 where
  pub header : Header
  pub key : List ℕ
  pub wraps : Wraps asked.kbpk asked.text header key
  pub usage_is : header.usage ≡ asked.usage
  pub algorithm_is : header.algorithm ≡ 0x54
  pub size_is_other : length key ≢ asked.size

abbrev pub IsUnwrapForRefused : Type 0 → Wanting → Fault → Type 0
IsUnwrapForRefused Fit asked Length = ¬ Fit
IsUnwrapForRefused Fit asked (Block why) = Fit × IsFirstFault asked.text asked.kbpk why
IsUnwrapForRefused Fit asked OtherUsage = Fit × WrapsOtherUsage asked
IsUnwrapForRefused Fit asked OtherKeyLength = Fit × WrapsOtherLength asked
IsUnwrapForRefused Fit asked _ = ⊥

abbrev pub UnwrapForAnswers : Wanting → List ℕ → List ℕ → Answer → Type 0
UnwrapForAnswers asked old new =
    let Fit = FitWanting asked old in
    Ends (Fit × HoldsWanted asked old new) (IsUnwrapForRefused Fit asked) (new ≡ old)

-- a protection key of either length, the two characters of an id, and room for a content
abbrev pub FitOptional : List ℕ → List ℕ → List ℕ → Type 0
FitOptional kbpk id content =
    IsTdesLength (length kbpk) × HaveLengths (id ∷ []) (2 ∷ [])
    × HaveRoom (content ∷ []) (251 ∷ [])

-- the text is a key block under the protection key, and its first optional block with this id has
-- this content
pub record IsOptionalContent (kbpk text id content : List ℕ) : Type 0 where
  pub header : Header
  pub key : List ℕ
  pub wraps : Wraps kbpk text header key
  pub is_first : IsFirstContent wraps.block.optional_blocks id content

-- the text is a key block under the protection key, with no optional block of this id
pub record HasNoOptional (kbpk text id : List ℕ) : Type 0 where
  pub header : Header
  pub key : List ℕ
  pub wraps : Wraps kbpk text header key
  pub others : All (HasOtherId id) wraps.block.optional_blocks

-- the buffer holds the content of the first optional block with this id
pub record HoldsOptional (kbpk text id : List ℕ) (old new : Buffer) : Type 0 where
  pub content : List ℕ
  pub is_content : IsOptionalContent kbpk text id content
  pub written : new ≡ filled content old

abbrev pub IsUnwrapOptionalRefused : Type 0 → List ℕ → List ℕ → List ℕ → Fault → Type 0
IsUnwrapOptionalRefused Fit kbpk text id Length = ¬ Fit
IsUnwrapOptionalRefused Fit kbpk text id (Block why) = Fit × IsFirstFault text kbpk why
IsUnwrapOptionalRefused Fit kbpk text id NoOptionalBlock = Fit × HasNoOptional kbpk text id
IsUnwrapOptionalRefused Fit kbpk text id _ = ⊥

abbrev pub UnwrapOptionalAnswers : List ℕ → List ℕ → List ℕ → Buffer → Buffer → Answer → Type 0
UnwrapOptionalAnswers kbpk text id old new =
    let Fit = FitOptional kbpk id old.bytes in
    Ends (Fit × HoldsOptional kbpk text id old new) (IsUnwrapOptionalRefused Fit kbpk text id)
    (new ≡ old)
