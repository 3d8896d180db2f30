-- The order in which a key block is refused: this project's own.
use Rattle.std.specs.Prelude.{◌≡◌, ◌<◌, ◌≤◌, ◌%◌, ℕ, List, ◌++◌, length, take, drop, codes}
use Rattle.std.specs.List.{All, AllPass}
use Rattle.hex.specs.Hex.{is_hex_digit}
use Rattle.duk_io.specs.FirstFault.{IsFirst}
use Rattle.duk_tdes.specs.Cbc.{AreWholeBlocks}
use Rattle.duk_tdes.specs.Tdes.{IsTdesKey}
use Rattle.duk_block.specs.declared.fault.BlockFault.{BlockFault}
use Rattle.duk_block.specs.declared.fault.BlockFault.TheVariants.{Length, Version, HeaderField, OptionalBlock, Hex, Mac, Payload, PadLength}
use Rattle.duk_block.specs.Digits.{four_digits, two_digits}
use Rattle.duk_block.specs.HeaderText.{IsPrintable}
use Rattle.duk_block.specs.Hexadecimal.{IsHexadecimal}
use Rattle.duk_block.specs.KeyBlock.{IsWithinLimits, ciphertext_of, mac_of, payload_of}
use Rattle.duk_block.specs.Optional.{Leaves}

-- the length is within the limits, and characters 1 to 4 are its decimal digits
pub record HasLength (text : List ℕ) : Type 0 where
  pub limits : IsWithinLimits text
  pub written : take 4 (drop 1 text) ≡ four_digits (length text)

-- character 0 is the version identifier
abbrev pub HasVersion : List ℕ → Type 0
HasVersion text = take 1 text ≡ codes "B"

-- characters 5 to 11 can be printed
abbrev pub HasFields : List ℕ → Type 0
HasFields text = All IsPrintable (take 7 (drop 5 text))

-- characters 12 and 13 are this number in decimal digits
pub record HasCount (text : List ℕ) (count : ℕ) : Type 0 where
  pub below : count < 100
  pub written : take 2 (drop 12 text) ≡ two_digits count

-- as many optional blocks as characters 12 and 13 say stand after the header, and then the sealed
-- part: hexadecimal digits of a ciphertext of at least 24 bytes, in whole blocks, and of the MAC
pub record HasSealedPart (text sealed_part : List ℕ) : Type 0 where
  pub count : ℕ
  pub count_is : HasCount text count
  pub leaves : Leaves count (drop 16 text) sealed_part
  pub least : 64 ≤ length sealed_part
  pub whole : length sealed_part % 16 ≡ 0

-- the sealed part is this ciphertext and this MAC, and front is what stands before it
pub record HasParts (text front ciphertext mac : List ℕ) : Type 0 where
  pub sealed_part : List ℕ
  pub sealed_part_is : HasSealedPart text sealed_part
  pub front_is : text ≡ front ++ sealed_part
  pub sealed_part_is_read : IsHexadecimal sealed_part (ciphertext ++ mac)
  pub mac_width : length mac ≡ 8

-- under the protection key the parts are those of this payload, whatever it is
pub record HasPayload (text protection_key payload : List ℕ) : Type 0 where
  pub front : List ℕ
  pub ciphertext : List ℕ
  pub mac : List ℕ
  pub parts : HasParts text front ciphertext mac
  pub payload_is : AreWholeBlocks payload
  pub authentic : mac ≡ mac_of protection_key front payload
  pub enciphered : ciphertext ≡ ciphertext_of protection_key mac payload

-- the payload begins with the length of this key and the key
pub record Carries (payload key : List ℕ) : Type 0 where
  pub padding : List ℕ
  pub key_is : IsTdesKey key
  pub payload_is : payload ≡ payload_of key padding

-- what a text must meet, or else is refused with this fault
abbrev pub Meets : List ℕ → List ℕ → BlockFault → Type 0
Meets text protection_key Length = HasLength text
Meets text protection_key Version = HasVersion text
Meets text protection_key HeaderField = HasFields text × ((count : ℕ) × HasCount text count)
Meets text protection_key OptionalBlock = (sealed_part : List ℕ) × HasSealedPart text sealed_part
Meets text protection_key Hex =
    (sealed_part : List ℕ) × HasSealedPart text sealed_part × AllPass is_hex_digit sealed_part
Meets text protection_key Mac = (payload : List ℕ) × HasPayload text protection_key payload
Meets text protection_key Payload =
    (payload key : List ℕ) × HasPayload text protection_key payload × Carries payload key
Meets text protection_key PadLength = Unit {0}

-- the order of the faults
abbrev pub rank : BlockFault → ℕ
rank Length = 0
rank Version = 1
rank HeaderField = 2
rank OptionalBlock = 3
rank Hex = 4
rank Mac = 5
rank Payload = 6
rank PadLength = 7

-- the first of the faults, in their order, whose condition the text does not meet
abbrev pub IsFirstFault : List ℕ → List ℕ → BlockFault → Type 0
IsFirstFault text protection_key =
    IsFirst rank (Meets text protection_key) (λ fault. ¬ Meets text protection_key fault)
