-- The places of a key block's parts in its text.
use Rattle.std.proofs.Common.{◌≡◌, ℕ, ◌+◌, ◌*◌, ◌%◌, ◌<◌, ◌≤◌, ◌^◌, List, [], ◌∷◌, ◌++◌, length, take, drop, get_or, codes, inl, inr, refl, sym, ap, ◌∙◌, length-append, arith}
use Rattle.std.specs.List.{concat}
use Rattle.std.proofs.lemmas.List.{append_assoc, take_at, drop_at, get_or-append-add}
use Rattle.std.proofs.lemmas.List.Elements.{All-from_get_or}
use Rattle.hex.proofs.HexLemmas.{decode_of-ok}
use Rattle.duk_des.specs.Block.{IsBlock}
use Rattle.duk_tdes.specs.Cbc.{AreWholeBlocks, cbc_encrypted}
use Rattle.duk_tdes.specs.Tdes.{IsTdesKey}
use Rattle.duk_block.specs.declared.header.Header.{Header}
use Rattle.duk_block.specs.Derived.{derived_key, encryption_usage}
use Rattle.duk_block.specs.Digits.{four_digits, two_digits}
use Rattle.duk_block.specs.Hexadecimal.{IsHexadecimal}
use Rattle.duk_block.specs.HeaderText.{HasWidths, fields, header_text}
use Rattle.duk_block.specs.Faults.{Carries, HasCount, HasPayload}
use Rattle.duk_block.specs.KeyBlock.{IsKeyBlock, payload_of}
use Rattle.duk_block.proofs.HeaderLength.{length-fields, length-header_text}

-- a part of a text by what stands before it
part_at : (text before part after : List ℕ) (i n : ℕ) → text ≡ before ++ (part ++ after) → length before ≡ i → length part ≡ n → take n (drop i text) ≡ part
part_at text before part after i n laid start width =
    ap (λ all. take n (drop i all)) laid
    ∙ ap (take n) (drop_at before (part ++ after) i start)
    ∙ take_at part after n width

-- the whole text, from the header on
pub whole_text : (text protection_key : List ℕ) (header : Header) (key : List ℕ) (block : IsKeyBlock text protection_key header key)
    → text ≡ header_text (length text) header (length block.optional_blocks) block.reserved ++ (concat block.optional_blocks ++ block.sealed_part)
whole_text text protection_key header key block =
    block.laid_out
    ∙ ap (λ front. front ++ block.sealed_part) block.front_is
    ∙ append_assoc (header_text (length text) header (length block.optional_blocks) block.reserved) (concat block.optional_blocks) block.sealed_part

-- the text with one piece of the header set apart
pub fields_at : (text protection_key : List ℕ) (header : Header) (key : List ℕ) (block : IsKeyBlock text protection_key header key)
    → fields header ≡ take 7 (drop 5 text)
fields_at text protection_key header key block =
    let n = length block.optional_blocks in
    let rest : List ℕ = concat block.optional_blocks ++ block.sealed_part in
    let before : List ℕ = codes "B" ++ four_digits (length text) in
    let laid : text ≡ before ++ (fields header ++ (two_digits n ++ (block.reserved ++ rest))) =
    whole_text text protection_key header key block
    ∙ append_assoc (before ++ fields header ++ two_digits n) block.reserved rest
    ∙ append_assoc (before ++ fields header) (two_digits n) (block.reserved ++ rest)
    ∙ append_assoc before (fields header) (two_digits n ++ (block.reserved ++ rest)) in
    sym (part_at text before (fields header) (two_digits n ++ (block.reserved ++ rest)) 5 7 laid refl (length-fields header block.header_is.widths))

pub count_at : (text protection_key : List ℕ) (header : Header) (key : List ℕ) (block : IsKeyBlock text protection_key header key)
    → HasCount text (length block.optional_blocks)
count_at text protection_key header key block =
    let n = length block.optional_blocks in
    let rest : List ℕ = concat block.optional_blocks ++ block.sealed_part in
    let before : List ℕ = codes "B" ++ four_digits (length text) ++ fields header in
    let laid : text ≡ before ++ (two_digits n ++ (block.reserved ++ rest)) =
    whole_text text protection_key header key block
    ∙ append_assoc (before ++ two_digits n) block.reserved rest
    ∙ append_assoc before (two_digits n) (block.reserved ++ rest) in
    let start : length before ≡ 12 = omega (arith, length-append (codes "B" ++ four_digits (length text)) (fields header), length-fields header block.header_is.widths) in
    record {
      below = block.count_has_two_digits;
      written = part_at text before (two_digits n) (block.reserved ++ rest) 12 2 laid start refl;
    }

pub version_at : (text protection_key : List ℕ) (header : Header) (key : List ℕ) (block : IsKeyBlock text protection_key header key)
    → (take 1 text ≡ codes "B") × (take 4 (drop 1 text) ≡ four_digits (length text))
version_at text protection_key header key block =
    let n = length block.optional_blocks in
    let rest : List ℕ = concat block.optional_blocks ++ block.sealed_part in
    let four : List ℕ = four_digits (length text) in
    let after : List ℕ = fields header ++ (two_digits n ++ (block.reserved ++ rest)) in
    let laid : text ≡ codes "B" ++ (four ++ after) =
    whole_text text protection_key header key block
    ∙ append_assoc (codes "B" ++ four ++ fields header ++ two_digits n) block.reserved rest
    ∙ append_assoc (codes "B" ++ four ++ fields header) (two_digits n) (block.reserved ++ rest)
    ∙ append_assoc (codes "B" ++ four) (fields header) (two_digits n ++ (block.reserved ++ rest))
    ∙ append_assoc (codes "B") four after in (
      ap (take 1) laid ∙ take_at (codes "B") (four ++ after) 1 refl,
      part_at text (codes "B") four after 1 4 laid refl refl,
    )

-- what stands after the header
pub after_header : (text protection_key : List ℕ) (header : Header) (key : List ℕ) (block : IsKeyBlock text protection_key header key)
    → drop 16 text ≡ concat block.optional_blocks ++ block.sealed_part
after_header text protection_key header key block =
    let head : List ℕ = header_text (length text) header (length block.optional_blocks) block.reserved in
    let sixteen : length head ≡ 16 = length-header_text (length text) header (length block.optional_blocks) block.reserved block.header_is.widths block.reserved_width in
    ap (drop 16) (whole_text text protection_key header key block) ∙ drop_at head (concat block.optional_blocks ++ block.sealed_part) 16 sixteen

-- what CBC's laws say of lengths
abbrev pub PreservesLength : Type 0
PreservesLength = (key initial_vector bytes : List ℕ) → IsTdesKey key → IsBlock initial_vector → AreWholeBlocks bytes → length (cbc_encrypted key initial_vector bytes) ≡ length bytes

-- the MAC is a block, since it was read
pub IsBlock-mac : (sealed_part ciphertext mac : List ℕ) → IsHexadecimal sealed_part (ciphertext ++ mac) → length mac ≡ 8 → IsBlock mac
IsBlock-mac sealed_part ciphertext mac read eight =
    let bytes = (decode_of-ok sealed_part (ciphertext ++ mac) read).3 in
    record {
      eight = eight;
      bytes_fit = All-from_get_or (λ byte. byte < 2 ^ 8) mac 0 (λ i below. omega (arith, bytes (length ciphertext + i), get_or-append-add ciphertext mac i 0));
    }

pub payload_at : PreservesLength → (text protection_key : List ℕ) (header : Header) (key : List ℕ) (block : IsKeyBlock text protection_key header key)
    → IsTdesKey (derived_key encryption_usage protection_key) → HasPayload text protection_key (payload_of key block.padding)
payload_at keeps text protection_key header key block derived =
    let payload : List ℕ = payload_of key block.padding in
    let n = length block.optional_blocks in
    let head : List ℕ = header_text (length text) header n block.reserved in
    let rest : List ℕ = concat block.optional_blocks ++ block.sealed_part in
    let sixteen : length head ≡ 16 = length-header_text (length text) header n block.reserved block.header_is.widths block.reserved_width in
    let mac : IsBlock block.mac = IsBlock-mac block.sealed_part block.ciphertext block.mac block.sealed_part_is_read block.mac_width in
    let cipher_width : length block.ciphertext ≡ length payload =
    ap length block.enciphered ∙ keeps (derived_key encryption_usage protection_key) block.mac payload derived mac block.payload_is in
    let sealed_part_width = (decode_of-ok block.sealed_part (block.ciphertext ++ block.mac) block.sealed_part_is_read).2 in
    let payload_width : length payload ≡ 2 + length key + length block.padding = omega (arith, length-append key block.padding) in
    let key_width : 16 ≤ length key = elim block.key_is.length_is [ inl double ↦ omega arith | inr triple ↦ omega arith ] in
    let twice : length block.sealed_part ≡ 2 * (length payload + 8) = omega (arith, sealed_part_width, length-append block.ciphertext block.mac, block.mac_width, cipher_width) in
    record {
      front = block.front;
      ciphertext = block.ciphertext;
      mac = block.mac;
      parts = record {
        sealed_part = block.sealed_part;
        sealed_part_is = record {
          count = n;
          count_is = count_at text protection_key header key block;
          leaves = record {
            optional_blocks = block.optional_blocks;
            laid_out = ap (drop 16) (whole_text text protection_key header key block) ∙ drop_at head rest 16 sixteen;
            count_is = refl;
            each = block.each_optional;
          };
          least = omega (arith, twice, payload_width, key_width, block.payload_is.whole);
          whole = omega (arith, twice, block.payload_is.whole);
        };
        front_is = block.laid_out;
        sealed_part_is_read = block.sealed_part_is_read;
        mac_width = block.mac_width;
      };
      payload_is = block.payload_is;
      authentic = block.authentic;
      enciphered = block.enciphered;
    }

-- two lists that end alike
pub same_split : (a b c d : List ℕ) → length a ≡ length c → a ++ b ≡ c ++ d → (a ≡ c) × (b ≡ d)
same_split a b c d width same = (
  sym (take_at a b (length a) refl) ∙ ap (take (length a)) same ∙ take_at c d (length a) (sym width),
  sym (drop_at a b (length a) refl) ∙ ap (drop (length a)) same ∙ drop_at c d (length a) (sym width),
)

head_same : (a b : ℕ) → (a ∷ []) ≡ (b ∷ []) → a ≡ b
head_same a b same = cc

pair_same : (a b c d : ℕ) → (a ∷ b ∷ []) ≡ (c ∷ d ∷ []) → (a ≡ c) × (b ≡ d)
pair_same a b c d same = (ap (λ xs. get_or xs 0 0) same, ap (λ xs. get_or xs 1 0) same)

made_same : (u v u' v' : List ℕ) (a m e a' m' e' : ℕ) → u ≡ u' → v ≡ v' → a ≡ a' → m ≡ m' → e ≡ e'
    → (let one : Header = record { usage = u; algorithm = a; mode = m; version = v; exportability = e } in one)
    ≡ (let other : Header = record { usage = u'; algorithm = a'; mode = m'; version = v'; exportability = e' } in other)
made_same u v u' v' a m e a' m' e' pu pv pa pm pe = cc

-- fields of the same widths name one header
pub header_same : (one other : Header) → HasWidths one → HasWidths other → fields one ≡ fields other → one ≡ other
header_same one other of_one of_other same =
    let first = same_split (one.usage ++ one.algorithm ∷ one.mode ∷ [] ++ one.version) (one.exportability ∷ []) (other.usage ++ other.algorithm ∷ other.mode ∷ [] ++ other.version) (other.exportability ∷ [])
    (omega (
      arith,
      length-append (one.usage ++ one.algorithm ∷ one.mode ∷ []) one.version,
      length-append one.usage (one.algorithm ∷ one.mode ∷ []),
      length-append (other.usage ++ other.algorithm ∷ other.mode ∷ []) other.version,
      length-append other.usage (other.algorithm ∷ other.mode ∷ []),
      of_one.usage_width,
      of_one.version_width,
      of_other.usage_width,
      of_other.version_width,
    ))
    same in
    let second = same_split (one.usage ++ one.algorithm ∷ one.mode ∷ []) one.version (other.usage ++ other.algorithm ∷ other.mode ∷ []) other.version
    (omega (arith, length-append one.usage (one.algorithm ∷ one.mode ∷ []), length-append other.usage (other.algorithm ∷ other.mode ∷ []), of_one.usage_width, of_other.usage_width))
    first.0 in
    let third = same_split one.usage (one.algorithm ∷ one.mode ∷ []) other.usage (other.algorithm ∷ other.mode ∷ []) (of_one.usage_width ∙ sym of_other.usage_width) second.0 in
    let modes = pair_same one.algorithm one.mode other.algorithm other.mode third.1 in
    made_same one.usage one.version other.usage other.version one.algorithm one.mode one.exportability other.algorithm other.mode other.exportability
    third.0 second.1 modes.0 modes.1 (head_same one.exportability other.exportability first.1)

-- a payload carries one key
pub Carries-same : (payload key other : List ℕ) → Carries payload key → Carries payload other → key ≡ other
Carries-same payload key other one two =
    let same : payload_of key one.padding ≡ payload_of other two.padding = sym one.payload_is ∙ two.payload_is in
    let bits : 8 * length key % 256 ≡ 8 * length other % 256 = ap (λ bytes. get_or bytes 1 0) same in
    let rest : key ++ one.padding ≡ other ++ two.padding = ap (drop 2) same in
    let width : length key ≡ length other = elim one.key_is.length_is [
      | inl a ↦ elim two.key_is.length_is [ inl b ↦ omega arith | inr b ↦ omega arith ]
      | inr a ↦ elim two.key_is.length_is [ inl b ↦ omega arith | inr b ↦ omega arith ]
    ] in
    (same_split key one.padding other two.padding width rest).0
