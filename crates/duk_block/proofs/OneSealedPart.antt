-- The sealed part of a key block's text, and its parts: a text has one of each.
use Rattle.std.proofs.Common.{◌≡◌, ℕ, ◌+◌, ◌/◌, ◌%◌, ◌-◌, ◌<◌, ◌≤◌, List, ◌++◌, length, take, drop, get_or, Ok, refl, sym, ap, subst, ◌∙◌, length-append, arith}
use Rattle.std.proofs.lemmas.List.{append_assoc, append_cancel_right, take_at, drop_at, take-append-drop}
use Rattle.std.specs.List.{concat}
use Rattle.hex.proofs.HexLemmas.{decode_of-same}
use Rattle.hex.specs.Hex.{decode_of}
use Rattle.duk_block.specs.Digits.{two_digits}
use Rattle.duk_block.specs.Faults.{HasSealedPart, HasCount, HasParts}
use Rattle.duk_block.specs.Optional.{Leaves}
use Rattle.duk_block.proofs.OptionalBlocks.{Leaves-same}

two_digits_same : (a b : ℕ) → a < 100 → b < 100 → two_digits a ≡ two_digits b → a ≡ b
two_digits_same a b small other same =
    let tens : 0x30 + a / 10 ≡ 0x30 + b / 10 = ap (λ digits. get_or digits 0 0) same in
    let ones : 0x30 + a % 10 ≡ 0x30 + b % 10 = ap (λ digits. get_or digits 1 0) same in
    omega arith

pub HasCount-same : (text : List ℕ) (a b : ℕ) → HasCount text a → HasCount text b → a ≡ b
HasCount-same text a b one other = two_digits_same a b one.below other.below (sym one.written ∙ other.written)

pub HasSealedPart-same : (text a b : List ℕ) → HasSealedPart text a → HasSealedPart text b → a ≡ b
HasSealedPart-same text a b one other =
    let P : ℕ → Type 0 = λ n. Leaves n (drop 16 text) b in
    Leaves-same one.count (drop 16 text) a b one.leaves (subst P (HasCount-same text other.count one.count other.count_is one.count_is) other.leaves)

-- a text ends with what its optional blocks leave
pub sealed_part_after : (text sealed_part : List ℕ) → 16 ≤ length text → HasSealedPart text sealed_part → text ≡ take (length text - length sealed_part) text ++ sealed_part
sealed_part_after text sealed_part long has =
    let front : List ℕ = take 16 text ++ concat has.leaves.optional_blocks in
    let split : text ≡ front ++ sealed_part =
    sym (take-append-drop 16 text) ∙ ap (λ rest. take 16 text ++ rest) has.leaves.laid_out ∙ sym (append_assoc (take 16 text) (concat has.leaves.optional_blocks) sealed_part) in
    let width : length front ≡ length text - length sealed_part = omega (arith, ap length split, length-append front sealed_part) in
    split ∙ ap (λ part. part ++ sealed_part) (sym (ap (take (length text - length sealed_part)) split ∙ take_at front sealed_part (length text - length sealed_part) width))

same_ends : (c d m n : List ℕ) → length m ≡ 8 → length n ≡ 8 → c ++ m ≡ d ++ n → (c ≡ d) × (m ≡ n)
same_ends c d m n eight other same =
    let width : length c ≡ length d = omega (arith, ap length same, length-append c m, length-append d n) in (
      sym (take_at c m (length c) refl) ∙ ap (take (length c)) same ∙ take_at d n (length c) (sym width),
      sym (drop_at c m (length c) refl) ∙ ap (drop (length c)) same ∙ drop_at d n (length c) (sym width),
    )

pub record SameParts (front ciphertext mac other_front other_ciphertext other_mac : List ℕ) : Type 0 where
  pub fronts : front ≡ other_front
  pub ciphertexts : ciphertext ≡ other_ciphertext
  pub macs : mac ≡ other_mac

pub HasParts-same : (text f c m g d n : List ℕ) → HasParts text f c m → HasParts text g d n → SameParts f c m g d n
HasParts-same text f c m g d n one other =
    let sealed_part : one.sealed_part ≡ other.sealed_part = HasSealedPart-same text one.sealed_part other.sealed_part one.sealed_part_is other.sealed_part_is in
    let P : List ℕ → Type 0 = λ b. decode_of b ≡ Ok (c ++ m) in
    let bytes : c ++ m ≡ d ++ n = decode_of-same other.sealed_part (c ++ m) (d ++ n) (subst P sealed_part one.sealed_part_is_read) other.sealed_part_is_read in
    let ends = same_ends c d m n one.mac_width other.mac_width bytes in
    record {
      fronts = append_cancel_right f g one.sealed_part (sym one.front_is ∙ other.front_is ∙ ap (λ b. g ++ b) (sym sealed_part));
      ciphertexts = ends.0;
      macs = ends.1;
    }
