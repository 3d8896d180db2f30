-- The PIN in a PIN field.
use Rattle.std.proofs.Common.{◌≡◌, ℕ, ◌<◌, Bool, true, ◌&&◌, ◌==◌, nat_lt, nat_le, List, [], ◌∷◌, Some, None, take, drop, get_or, inl, inr, refl, ap, ◌∙◌, arith, if◌then◌else◌}
use Rattle.std.specs.List.{list_all, AllPass}
use Rattle.std.proofs.lemmas.Bool.{and_parts, cases_Bool, eqb-true, leb-true, le-leb, ltb-true, lt-ltb}
use Rattle.std.proofs.lemmas.List.Elements.{All-weaker}
use Rattle.std.proofs.lemmas.List.Sums.{AllPass-from_list_all, list_all-from_AllPass}
use Rattle.duk_pin.specs.Digits.{ascii_of}
use Rattle.duk_pin.specs.inner.Nibbles.{IsField}
use Rattle.duk_pin.specs.PinBlock.{are_digits_and_fill, is_pin_start, pin_in_field}
use Rattle.duk_pin.specs.inner.Reading.{ReadsAsPin}

both : (a b : Bool) → a ≡ true → b ≡ true → (a && b) ≡ true
both a b first second = ap (λ x. x && b) first ∙ second

-- the test of nibbles, and what it reports
abbrev is_pin_field : ℕ → ℕ → List ℕ → Bool
is_pin_field control count nibbles = is_pin_start control count && are_digits_and_fill count nibbles

tested_reads : (control count : ℕ) (nibbles : List ℕ) → is_pin_field control count nibbles ≡ true → ReadsAsPin (control ∷ count ∷ nibbles)
tested_reads control count nibbles is =
    let digits : List ℕ = take count nibbles in
    let fill : List ℕ = drop count nibbles in
    let halves = and_parts (is_pin_start control count) (are_digits_and_fill count nibbles) is in
    let start = and_parts (control == 0) (nat_le 4 count && nat_le count 12) halves.0 in
    let length = and_parts (nat_le 4 count) (nat_le count 12) start.1 in
    let body = and_parts (list_all (λ digit. nat_lt digit 10) digits) (list_all (λ fill. fill == 0xF) fill) halves.1 in
    record {
      format = eqb-true control 0 start.0;
      at_least = leb-true 4 count length.0;
      at_most = leb-true count 12 length.1;
      digits = All-weaker (λ digit. nat_lt digit 10 ≡ true) (λ digit. digit < 10) (λ digit is. ltb-true digit 10 is) digits (AllPass-from_list_all (λ digit. nat_lt digit 10) digits body.0);
      filler = All-weaker (λ fill. (fill == 0xF) ≡ true) (λ fill. fill ≡ 0xF) (λ fill is. eqb-true fill 0xF is) fill (AllPass-from_list_all (λ fill. fill == 0xF) fill body.1);
    }

reads_tested : (control count : ℕ) (nibbles : List ℕ) → ReadsAsPin (control ∷ count ∷ nibbles) → is_pin_field control count nibbles ≡ true
reads_tested control count nibbles reads =
    let digits : List ℕ = take count nibbles in
    let fill : List ℕ = drop count nibbles in
    let digits_pass : AllPass (λ digit. nat_lt digit 10) digits = All-weaker (λ digit. digit < 10) (λ digit. nat_lt digit 10 ≡ true) (λ digit is. lt-ltb digit 10 is) digits reads.digits in
    let fill_passes : AllPass (λ fill. fill == 0xF) fill = All-weaker (λ fill. fill ≡ 0xF) (λ fill. (fill == 0xF) ≡ true) (λ fill is. ap (λ nibble. nibble == 0xF) is) fill reads.filler in
    both (is_pin_start control count) (are_digits_and_fill count nibbles)
    (both (control == 0) (nat_le 4 count && nat_le count 12) (ap (λ nibble. nibble == 0) reads.format) (both (nat_le 4 count) (nat_le count 12) (le-leb 4 count reads.at_least) (le-leb count 12 reads.at_most)))
    (both (list_all (λ digit. nat_lt digit 10) digits) (list_all (λ fill. fill == 0xF) fill) (list_all-from_AllPass (λ digit. nat_lt digit 10) digits digits_pass) (list_all-from_AllPass (λ fill. fill == 0xF) fill fill_passes))

-- nibbles that read as a PIN field have the PIN with those digits
pub pin_of_field : (field : List ℕ) → IsField field → ReadsAsPin field → pin_in_field field ≡ Some (ascii_of (take (get_or field 1 0) (drop 2 field)))
pin_of_field [] is_field reads = absurd (omega (arith, is_field.sixteen))
pin_of_field (control ∷ []) is_field reads = absurd (omega (arith, is_field.sixteen))
pin_of_field (control ∷ count ∷ nibbles) is_field reads =
    ap (λ (is : Bool). if is then Some (ascii_of (take count nibbles)) else None) (reads_tested control count nibbles reads)

-- other nibbles have none
pub no_pin_of_field : (field : List ℕ) → ¬ ReadsAsPin field → pin_in_field field ≡ None
no_pin_of_field [] reads_not = refl
no_pin_of_field (control ∷ []) reads_not = refl
no_pin_of_field (control ∷ count ∷ nibbles) reads_not =
    elim (cases_Bool (is_pin_field control count nibbles)) [
      | inl is ↦ absurd (reads_not (tested_reads control count nibbles is))
      | inr is_not ↦ ap (λ (is : Bool). if is then Some (ascii_of (take count nibbles)) else None) is_not
    ]
