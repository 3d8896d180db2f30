-- The characters of a header, piece by piece.
use Rattle.std.proofs.Common.{◌≡◌, ℕ, ◌+◌, List, ◌++◌, length, take, drop, codes, sym, ap, ◌∙◌, length-drop, arith}
use Rattle.std.specs.List.{concat}
use Rattle.std.proofs.lemmas.List.{append_assoc, append_cancel_right, length-take-le, take-append-drop, drop-drop}
use Rattle.duk_block.specs.declared.header.Header.{Header}
use Rattle.duk_block.specs.Digits.{four_digits}
use Rattle.duk_block.specs.HeaderText.{fields, header_text}
use Rattle.duk_block.specs.Faults.{Carries, HasPayload}
use Rattle.duk_block.specs.inner.Faults.{HasHeader}
use Rattle.duk_block.specs.KeyBlock.{IsKeyBlock}
use Rattle.duk_block.proofs.OneSealedPart.{HasCount-same}

-- cut after the first n of what follows i characters
cut : (text : List ℕ) (i n : ℕ) → drop i text ≡ take n (drop i text) ++ drop (i + n) text
cut text i n = sym (ap (λ rest. take n (drop i text) ++ rest) (sym (drop-drop n i text)) ∙ take-append-drop n (drop i text))

-- a text as the pieces of its header and what follows
pub pieces : (text : List ℕ) → text ≡ take 1 text ++ take 4 (drop 1 text) ++ take 7 (drop 5 text) ++ take 2 (drop 12 text) ++ take 2 (drop 14 text) ++ drop 16 text
pieces text =
    let a : List ℕ = take 1 text in
    let b : List ℕ = take 4 (drop 1 text) in
    let d : List ℕ = take 7 (drop 5 text) in
    let e : List ℕ = take 2 (drop 12 text) in
    let f : List ℕ = take 2 (drop 14 text) in
    sym (take-append-drop 1 text)
    ∙ ap (λ rest. a ++ rest) (cut text 1 4)
    ∙ sym (append_assoc a b (drop 5 text))
    ∙ ap (λ rest. a ++ b ++ rest) (cut text 5 7)
    ∙ sym (append_assoc (a ++ b) d (drop 12 text))
    ∙ ap (λ rest. a ++ b ++ d ++ rest) (cut text 12 2)
    ∙ sym (append_assoc (a ++ b ++ d) e (drop 14 text))
    ∙ ap (λ rest. a ++ b ++ d ++ e ++ rest) (cut text 14 2)
    ∙ sym (append_assoc (a ++ b ++ d ++ e) f (drop 16 text))

pub header_is_read : (text : List ℕ) (header : Header) (count : ℕ) → HasHeader text header count
    → text ≡ header_text (length text) header count (take 2 (drop 14 text)) ++ drop 16 text
header_is_read text header count has =
    let f : List ℕ = take 2 (drop 14 text) in
    let rest : List ℕ = drop 16 text in
    pieces text
    ∙ ap (λ a. a ++ take 4 (drop 1 text) ++ take 7 (drop 5 text) ++ take 2 (drop 12 text) ++ f ++ rest) has.version_is
    ∙ ap (λ b. codes "B" ++ b ++ take 7 (drop 5 text) ++ take 2 (drop 12 text) ++ f ++ rest) has.length_is.written
    ∙ ap (λ d. codes "B" ++ four_digits (length text) ++ d ++ take 2 (drop 12 text) ++ f ++ rest) (sym has.fields_are)
    ∙ ap (λ e. codes "B" ++ four_digits (length text) ++ fields header ++ e ++ f ++ rest) has.count_is.written

-- what was read is a key block
pub block_read : (text protection_key : List ℕ) (header : Header) (count : ℕ) (payload key : List ℕ)
    → HasHeader text header count → HasPayload text protection_key payload → Carries payload key → IsKeyBlock text protection_key header key
block_read text protection_key header count payload key has opened carries =
    let reserved : List ℕ = take 2 (drop 14 text) in
    let parts = opened.parts in
    let leaves = parts.sealed_part_is.leaves in
    let blocks = leaves.optional_blocks in
    let count_same : length blocks ≡ count = leaves.count_is ∙ HasCount-same text parts.sealed_part_is.count count parts.sealed_part_is.count_is has.count_is in
    let front_text : List ℕ = header_text (length text) header (length blocks) reserved ++ concat blocks in
    let whole : text ≡ front_text ++ parts.sealed_part =
    header_is_read text header count has
    ∙ ap (λ n. header_text (length text) header n reserved ++ drop 16 text) (sym count_same)
    ∙ ap (λ rest. header_text (length text) header (length blocks) reserved ++ rest) leaves.laid_out
    ∙ sym (append_assoc (header_text (length text) header (length blocks) reserved) (concat blocks) parts.sealed_part) in
    let limits = has.length_is.limits in
    record {
      reserved = reserved;
      optional_blocks = blocks;
      front = opened.front;
      sealed_part = parts.sealed_part;
      ciphertext = opened.ciphertext;
      mac = opened.mac;
      padding = carries.padding;
      laid_out = parts.front_is;
      front_is = append_cancel_right opened.front front_text parts.sealed_part (sym parts.front_is ∙ whole);
      length_has_four_digits = omega (arith, limits.most);
      header_is = has.header_is;
      reserved_width = length-take-le 2 (drop 14 text) (omega (arith, length-drop 14 text, limits.least));
      count_has_two_digits = omega (arith, count_same, has.count_is.below);
      each_optional = leaves.each;
      sealed_part_is_read = parts.sealed_part_is_read;
      mac_width = parts.mac_width;
      key_is = carries.key_is;
      payload_is = rw (← carries.payload_is) opened.payload_is;
      authentic = rw (← carries.payload_is) opened.authentic;
      enciphered = rw (← carries.payload_is) opened.enciphered;
    }
