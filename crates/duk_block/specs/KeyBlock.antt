-- Key blocks of version B (ANSI X9.143, key derivation binding method).
use Rattle.std.specs.Prelude.{◌≡◌, ◌<◌, ◌≤◌, ◌+◌, ◌*◌, ◌%◌, ℕ, List, [], ◌++◌, length, codes}
use Rattle.std.specs.Int.{w16, to_be_bytes}
use Rattle.std.specs.List.{All, concat}
use Rattle.hex.specs.Hex.{encode_upper}
use Rattle.duk_mac.specs.Cmac.{cmac_of}
use Rattle.duk_tdes.specs.Cbc.{AreWholeBlocks, cbc_encrypted}
use Rattle.duk_tdes.specs.Tdes.{IsTdesKey}
use Rattle.duk_block.specs.declared.header.Header.{Header}
use Rattle.duk_block.specs.Derived.{derived_key, encryption_usage, mac_usage}
use Rattle.duk_block.specs.HeaderText.{IsHeader, header_text}
use Rattle.duk_block.specs.Hexadecimal.{IsHexadecimal}
use Rattle.duk_block.specs.Optional.{IsOptionalBlock}

-- the payload: the key's length in bits as two bytes, the key, and padding
abbrev pub payload_of : List ℕ → List ℕ → List ℕ
payload_of key padding = to_be_bytes w16 (8 * length key) ++ key ++ padding

-- the MAC: over what stands before the ciphertext, as it stands, and the clear payload
abbrev pub mac_of : List ℕ → List ℕ → List ℕ → List ℕ
mac_of protection_key front payload =
    cmac_of (derived_key mac_usage protection_key) (front ++ payload)

-- the ciphertext: the payload in CBC with the MAC as initial vector
abbrev pub ciphertext_of : List ℕ → List ℕ → List ℕ → List ℕ
ciphertext_of protection_key mac payload =
    cbc_encrypted (derived_key encryption_usage protection_key) mac payload

-- The text is a key block that binds the header to the key under the protection key. In front stand
-- the header's characters and the optional blocks; the sealed part after them is the ciphertext and
-- the MAC in hexadecimal. This project's own: the reserved characters may be anything, the header's
-- fields can be printed, and the key has 16 or 24 bytes.
pub record IsKeyBlock (text protection_key : List ℕ) (header : Header) (key : List ℕ) : Type 0 where
  pub reserved : List ℕ
  pub optional_blocks : List (List ℕ)
  pub front : List ℕ
  pub sealed_part : List ℕ
  pub ciphertext : List ℕ
  pub mac : List ℕ
  pub padding : List ℕ
  pub laid_out : text ≡ front ++ sealed_part
  pub front_is : front
      ≡ header_text (length text) header (length optional_blocks) reserved ++ concat optional_blocks
  pub length_has_four_digits : length text < 10000
  pub header_is : IsHeader header
  pub reserved_width : length reserved ≡ 2
  pub count_has_two_digits : length optional_blocks < 100
  pub each_optional : All IsOptionalBlock optional_blocks
  pub sealed_part_is_read : IsHexadecimal sealed_part (ciphertext ++ mac)
  pub mac_width : length mac ≡ 8
  pub key_is : IsTdesKey key
  pub payload_is : AreWholeBlocks (payload_of key padding)
  pub authentic : mac ≡ mac_of protection_key front (payload_of key padding)
  pub enciphered : ciphertext ≡ ciphertext_of protection_key mac (payload_of key padding)

-- the MAC and the ciphertext of the payload with this key and padding, where these characters stand
-- in front: the parts of which a key block is put together
pub record AreSealed (protection_key front key padding ciphertext mac : List ℕ) : Type 0 where
  pub key_is : IsTdesKey key
  pub payload_is : AreWholeBlocks (payload_of key padding)
  pub authentic : mac ≡ mac_of protection_key front (payload_of key padding)
  pub enciphered : ciphertext ≡ ciphertext_of protection_key mac (payload_of key padding)

-- what this project reads and writes: 80 to 512 characters, a multiple of eight; the limits are
-- this project's own
pub record IsWithinLimits (text : List ℕ) : Type 0 where
  pub least : 80 ≤ length text
  pub most : length text ≤ 512
  pub whole : length text % 8 ≡ 0

-- the text wraps this header and key under the protection key, within the limits
pub record Wraps (protection_key text : List ℕ) (header : Header) (key : List ℕ) : Type 0 where
  pub limits : IsWithinLimits text
  pub block : IsKeyBlock text protection_key header key

-- the text wraps this key, for this use: what the use asks of header and key is met
pub record WrapsFor (IsForUse : Header → List ℕ → Type 0) (protection_key text key : List ℕ)
    : Type 0 where
  pub header : Header
  pub wraps : Wraps protection_key text header key
  pub use_is : IsForUse header key

-- the text wraps a key for another use
pub record WrapsOther (IsForUse : Header → List ℕ → Type 0) (protection_key text : List ℕ)
    : Type 0 where
  pub header : Header
  pub key : List ℕ
  pub wraps : Wraps protection_key text header key
  pub use_is_other : ¬ IsForUse header key

-- a key block as this project writes it: no optional block, two zeros as reserved characters, this
-- padding, and the hexadecimal digits in upper case
pub record IsWrittenKeyBlock (text protection_key : List ℕ) (header : Header) (key padding : List ℕ)
    : Type 0 where
  pub block : IsKeyBlock text protection_key header key
  pub no_optional : block.optional_blocks ≡ []
  pub reserved_zeros : block.reserved ≡ codes "00"
  pub padding_is : block.padding ≡ padding
  pub upper_case : block.sealed_part ≡ encode_upper (block.ciphertext ++ block.mac)

-- a key and padding of these lengths fit a key block with no optional block: the payload, with two
-- bytes for the key's length in front, is made of whole blocks, and the text is within the limits
pub record FitsKeyBlock (key padding : ℕ) : Type 0 where
  pub whole : (2 + key + padding) % 8 ≡ 0
  pub most : 32 + 2 * (2 + key + padding) ≤ 512

-- a key block as this project writes it with optional blocks: those of this text, two zeros as
-- reserved characters, this padding, and the hexadecimal digits in upper case
pub record IsWrittenKeyBlockWith (text protection_key : List ℕ) (header : Header)
    (optional key padding : List ℕ) : Type 0 where
  pub block : IsKeyBlock text protection_key header key
  pub optional_is : concat block.optional_blocks ≡ optional
  pub reserved_zeros : block.reserved ≡ codes "00"
  pub padding_is : block.padding ≡ padding
  pub upper_case : block.sealed_part ≡ encode_upper (block.ciphertext ++ block.mac)

-- a key and padding of these lengths fit a key block with optional blocks of this length in all
pub record FitsKeyBlockWith (optional key padding : ℕ) : Type 0 where
  pub whole : (2 + key + padding) % 8 ≡ 0
  pub most : 32 + optional + 2 * (2 + key + padding) ≤ 512
