-- The line of a component is read as that component.
use Rattle.std.proofs.Common.{◌≡◌, ◌<◌, ◌^◌, ◌-◌, ◌*◌, ◌++◌, ℕ, List, inl, inr, Some, None, Option, Ok, ap, ap₂, arith, codes, drop, length, refl, sym, take, true, ◌∙◌, length-append, length-take}
use Rattle.std.proofs.Math.Seq.{drop-append_seam, take-append_seam}
use Rattle.std.specs.List.{All}
use Rattle.std.specs.Str.{bytes_eq}
use Rattle.std.proofs.lemmas.Bool.{cases_lt}
use Rattle.std.proofs.lemmas.List.{get_or_past}
use Rattle.std.proofs.lemmas.List.Elements.{All-get_or}
use Rattle.std.proofs.lemmas.Slice.Eq.{bytes_eq-Decides}
use Rattle.hex.specs.Hex.{IsBytes, decode_sized, encode_upper, upper_digits}
use Rattle.hex.proofs.HexLemmas.{decode_of-encode_upper, decode_sized-other, decode_sized-twice, length-encode_with}
use Rattle.duk_components.specs.Components.{behind_digits, component_of, with_value}
use Rattle.duk_components.specs.NewComponent.{IsWholeKey, written_component}
use Rattle.duk_des.specs.Block.{IsBlock}
use Rattle.duk_mac.specs.Chain.{zero_block}
use Rattle.duk_mac.specs.CheckValue.{check_value_of}
use Rattle.duk_tdes.specs.Key.{IsKey}
use Rattle.duk_tdes.specs.KeyBytes.{bytes_of}
use Rattle.duk_tdes.specs.KeyText.{tdes_key_of_text}
use Rattle.duk_tdes.specs.Tdes.{tdes_encrypted}
use Rattle.duk_tdes.specs.declared.key.KeyBytes.{KeyBytes}
use Rattle.duk_tdes.specs.declared.key.KeyBytes.TheVariants.{Double, Triple}

are_bytes : (bytes : List ℕ) → All (λ byte. byte < 2 ^ 8) bytes → IsBytes bytes
are_bytes bytes fit i =
    elim (cases_lt i (length bytes)) [
      | inl below ↦ All-get_or (λ byte. byte < 2 ^ 8) bytes i 0 below fit
      | inr past ↦ let zero_there = get_or_past bytes i 0 past in omega arith
    ]

-- the digits of a key of so many bytes
decoded : (size : ℕ) (key : List ℕ) → IsKey size key → decode_sized (encode_upper key) size ≡ Ok key
decoded size key is =
    decode_sized-twice (encode_upper key) size (length-encode_with upper_digits key ∙ ap (λ n. 2 * n) is.size_is)
    ∙ decode_of-encode_upper key (are_bytes key is.bytes_fit)

digits_read : (key : KeyBytes) → IsWholeKey key → tdes_key_of_text (encode_upper (bytes_of key)) ≡ Some key
digits_read (Double key) is = rw (decoded 16 key is) refl
digits_read (Triple key) is =
    let long : length (encode_upper key) ≡ 48 = length-encode_with upper_digits key ∙ ap (λ n. 2 * n) is.size_is in
    rw (decode_sized-other (encode_upper key) 16 (omega arith) (λ half. omega arith), decoded 24 key is) refl

module _ (blocks : (key block : List ℕ) → IsBlock (tdes_encrypted key block)) where
  behind_long : (key : KeyBytes) → length (behind_digits key) ≡ 7
  behind_long key =
      let eight = (blocks (bytes_of key) zero_block).eight in
      let three : length (check_value_of (bytes_of key)) ≡ 3 = omega (arith, length-take 3 (tdes_encrypted (bytes_of key) zero_block)) in
      let six = length-encode_with upper_digits (check_value_of (bytes_of key)) in
      omega (arith, length-append (codes " ") (encode_upper (check_value_of (bytes_of key))))

  pub is_read : (key : KeyBytes) → IsWholeKey key → component_of (written_component key) ≡ Some key
  is_read key is =
      let digits = encode_upper (bytes_of key) in
      let behind = behind_digits key in
      let front : length (written_component key) - 7 ≡ length digits =
      omega (arith, length-append digits behind, behind_long key) in
      let same : bytes_eq behind behind ≡ true = (bytes_eq-Decides behind behind).1 refl in
      ap₂ (λ (rest text : List ℕ). with_value rest (tdes_key_of_text text))
      (ap (λ n. drop n (written_component key)) front ∙ drop-append_seam digits behind)
      (ap (λ n. take n (written_component key)) front ∙ take-append_seam digits behind)
      ∙ ap (with_value behind) (digits_read key is) ∙ rw same refl
