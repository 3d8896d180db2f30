-- The two fields of a PIN block: how they are written, and how a PIN field is read.
use Rattle.std.proofs.Common.{◌≡◌, ℕ, ◌+◌, ◌-◌, ◌<◌, ◌≤◌, List, [], ◌∷◌, ◌++◌, length, get_or, set, take, drop, replicate, All, refl, sym, ap, ◌∙◌, arith}
use Rattle.std.specs.Char.{IsAsciiDigit}
use Rattle.std.proofs.lemmas.List.{drop_more, set_at, append_assoc, map_more, length-take-le, length-append, length-map, length-drop, length-replicate, drop-drop, drop-replicate, take-replicate, take_at, drop_at, take-append-drop, append-nil, replicate-append-replicate}
use Rattle.std.proofs.lemmas.List.Elements.{All-cons, All-head, All-tail, All-append, All-replicate, All-map, All-weaker, All-same, All-take, All-drop}
use Rattle.duk_pin.specs.Digits.{values, ascii_of}
use Rattle.duk_pin.specs.inner.Nibbles.{IsField}
use Rattle.duk_pin.specs.Pin.{HasPinLength, IsPin}
use Rattle.duk_pin.specs.Pan.{IsPan}
use Rattle.duk_pin.specs.inner.Reading.{ReadsAsPin}
use Rattle.duk_pin.specs.PinBlock.{pin_field, without_check_digit, account_digits, account_field}

-- ---- the values of digits from a place on

-- one digit more
pub placed_next : (front digits all : List ℕ) (start i : ℕ) → length front ≡ start → i < length digits → start + i < length all → set (front ++ values (take i digits) ++ drop (start + i) all) (start + i) (get_or digits i 0 - 48) ≡ front ++ values (take (i + 1) digits) ++ drop (start + (i + 1)) all
placed_next front digits all start i long in_digits in_all =
    let written = front ++ values (take i digits) in
    let value = get_or digits i 0 - 48 in
    let written_long : length written ≡ start + i = omega (arith, length-append front (values (take i digits)), length-map (take i digits) (λ digit. digit - 48), length-take-le i digits (omega arith)) in
    let next : start + i + 1 ≡ start + (i + 1) = omega arith in
    ap (λ rest. set (written ++ rest) (start + i) value) (drop_more all (start + i) 0 in_all)
    ∙ set_at written (get_or all (start + i) 0) (drop (start + i + 1) all) value (start + i) written_long
    ∙ sym (append_assoc written (value ∷ []) (drop (start + i + 1) all))
    ∙ ap (λ done. done ++ drop (start + i + 1) all) (append_assoc front (values (take i digits)) (value ∷ []) ∙ ap (λ more. front ++ more) (sym (map_more (λ digit. digit - 48) digits i 0 in_digits)))
    ∙ ap (λ n. front ++ values (take (i + 1) digits) ++ drop n all) next

-- ---- the two fields

length-pin_field : (pin : List ℕ) → HasPinLength pin → length (pin_field pin) ≡ 16
unfolding pin_field
length-pin_field pin long =
    omega (arith, length-append (values pin) (replicate (14 - length pin) 15), length-map pin (λ digit. digit - 48), length-replicate {A = ℕ} (14 - length pin) 15, long.at_most)

values_fit : (text : List ℕ) → All IsAsciiDigit text → All (λ nibble. nibble < 16) (values text)
values_fit text digits =
    All-map (λ nibble. nibble < 16) (λ digit. digit - 48) text (All-weaker IsAsciiDigit (λ digit. digit - 48 < 16) (λ digit is. omega (arith, is.0, is.1)) text digits)

pub pin_field_is_field : (pin : List ℕ) → IsPin pin → IsField (pin_field pin)
unfolding pin_field
pin_field_is_field pin is_pin =
    let small : ℕ → Type 0 = λ nibble. nibble < 16 in
    record {
      sixteen = length-pin_field pin is_pin.length;
      nibbles_fit =
          All-cons small 0 (length pin ∷ values pin ++ replicate (14 - length pin) 15) (omega arith)
          (All-cons small (length pin) (values pin ++ replicate (14 - length pin) 15) (omega (arith, is_pin.length.at_most))
          (All-append small (values pin) (replicate (14 - length pin) 15) (values_fit pin is_pin.digits) (All-replicate small (14 - length pin) 15 (omega arith))));
    }

-- how the PIN field is written: the digits over filler
pub pin_field_written : (pin all : List ℕ) → all ≡ 0 ∷ length pin ∷ replicate 14 15 → take 2 all ++ values pin ++ drop (2 + length pin) all ≡ pin_field pin
unfolding pin_field
pin_field_written pin all is =
    ap (λ l. take 2 l ++ values pin ++ drop (2 + length pin) l) is
    ∙ ap (λ rest. 0 ∷ length pin ∷ values pin ++ rest) (sym (drop-drop (length pin) 2 (0 ∷ length pin ∷ replicate 14 15)) ∙ drop-replicate (length pin) 14 15)

-- the zeros before and after up to 12 digits at the end of a field
zeros_before : (count : ℕ) → count ≤ 12 → take {A = ℕ} (16 - count) (replicate 16 0) ≡ replicate 4 0 ++ replicate (12 - count) 0
zeros_before count short =
    let fits : 16 - count ≤ 16 = omega arith in
    let parts : 16 - count ≡ 4 + (12 - count) = omega arith in
    take-replicate (16 - count) 16 0 fits ∙ ap (λ n. replicate n 0) parts ∙ sym (replicate-append-replicate 4 (12 - count) 0)

zeros_after : (count : ℕ) → count ≤ 12 → drop {A = ℕ} (16 - count + count) (replicate 16 0) ≡ []
zeros_after count short =
    let none : 16 - (16 - count + count) ≡ 0 = omega arith in
    drop-replicate (16 - count + count) 16 0 ∙ ap (λ n. replicate n 0) none

-- how the account field is written: the digits over zeros
pub account_field_written : (pan account all : List ℕ) → account ≡ account_digits pan → all ≡ replicate 16 0 → take (16 - length account) all ++ values account ++ drop (16 - length account + length account) all ≡ account_field pan
unfolding account_field
account_field_written pan account all is zeros =
    let short : length account ≤ 12 = omega (arith, ap length is, length-drop (length (without_check_digit pan) - 12) (without_check_digit pan)) in
    ap (λ l. take (16 - length account) l ++ values account ++ drop (16 - length account + length account) l) zeros
    ∙ ap (λ l. l ++ values account ++ drop (16 - length account + length account) (replicate 16 0)) (zeros_before (length account) short)
    ∙ ap (λ l. replicate 4 0 ++ replicate (12 - length account) 0 ++ values account ++ l) (zeros_after (length account) short)
    ∙ append-nil (replicate 4 0 ++ replicate (12 - length account) 0 ++ values account)
    ∙ ap (λ a. replicate 4 0 ++ (replicate (12 - length a) 0 ++ values a)) is

pub account_field_is_field : (pan : List ℕ) → IsPan pan → IsField (account_field pan)
unfolding account_field
account_field_is_field pan is_pan =
    let small : ℕ → Type 0 = λ nibble. nibble < 16 in
    let digits = without_check_digit pan in
    let account = account_digits pan in
    record {
      sixteen = omega (arith, length-append (replicate (12 - length account) 0) (values account), length-map account (λ digit. digit - 48), length-replicate {A = ℕ} (12 - length account) 0, length-drop (length digits - 12) digits);
      nibbles_fit =
          All-append small (replicate 4 0) (replicate (12 - length account) 0 ++ values account) (All-replicate small 4 0 (omega arith))
          (All-append small (replicate (12 - length account) 0) (values account) (All-replicate small (12 - length account) 0 (omega arith))
          (values_fit account (All-drop IsAsciiDigit (length digits - 12) digits (All-take IsAsciiDigit (length pan - 1) pan is_pan.digits))));
    }

-- ---- reading a PIN field

pub pin_field_reads : (pin : List ℕ) → IsPin pin → ReadsAsPin (pin_field pin)
unfolding pin_field
pin_field_reads pin is_pin =
    let filler : List ℕ = replicate (14 - length pin) 15 in
    let long : length (values pin) ≡ length pin = length-map pin (λ digit. digit - 48) in
    record {
      format = refl;
      at_least = is_pin.length.at_least;
      at_most = is_pin.length.at_most;
      digits =
          All-same (λ nibble. nibble < 10) (take (length pin) (values pin ++ filler)) (values pin) (take_at (values pin) filler (length pin) long)
          (All-map (λ nibble. nibble < 10) (λ digit. digit - 48) pin (All-weaker IsAsciiDigit (λ digit. digit - 48 < 10) (λ digit is. omega (arith, is.0, is.1)) pin is_pin.digits));
      filler =
          All-same (λ nibble. nibble ≡ 15) (drop (length pin) (values pin ++ filler)) filler (drop_at (values pin) filler (length pin) long)
          (All-replicate (λ nibble. nibble ≡ 15) (14 - length pin) 15 refl);
    }

replicate_from_all : (xs : List ℕ) (y : ℕ) → All (λ x. x ≡ y) xs → replicate (length xs) y ≡ xs
replicate_from_all [] y same = refl
replicate_from_all (x ∷ xs) y same =
    ap (λ first. first ∷ replicate (length xs) y) (sym (All-head (λ x. x ≡ y) x xs same))
    ∙ ap (λ rest. x ∷ rest) (replicate_from_all xs y (All-tail (λ x. x ≡ y) x xs same))

counted_from_all : (xs : List ℕ) (y count : ℕ) → count ≡ length xs → All (λ x. x ≡ y) xs → replicate count y ≡ xs
counted_from_all xs y count long same = ap (λ n. replicate n y) long ∙ replicate_from_all xs y same

two_first : (xs : List ℕ) → 2 ≤ length xs → get_or xs 0 0 ∷ get_or xs 1 0 ∷ drop 2 xs ≡ xs
two_first [] long = absurd (omega arith)
two_first (x ∷ []) long = absurd (omega arith)
two_first (x ∷ y ∷ xs) long = refl

pin_field_from_parts : (pin digits filler field : List ℕ) (count : ℕ) → length pin ≡ count → values pin ≡ digits → replicate (14 - length pin) 15 ≡ filler → 0 ∷ count ∷ digits ++ filler ≡ field → pin_field pin ≡ field
unfolding pin_field
pin_field_from_parts pin digits filler field count long is_digits is_filler is_field =
    ap (λ n. 0 ∷ n ∷ values pin ++ replicate (14 - length pin) 15) long
    ∙ ap (λ l. 0 ∷ count ∷ l ++ replicate (14 - length pin) 15) is_digits
    ∙ ap (λ l. 0 ∷ count ∷ digits ++ l) is_filler
    ∙ is_field

parts_joined : (field : List ℕ) (count : ℕ) → 2 ≤ length field → get_or field 0 0 ≡ 0 → get_or field 1 0 ≡ count → 0 ∷ count ∷ take count (drop 2 field) ++ drop count (drop 2 field) ≡ field
parts_joined field count long format is_count =
    ap (λ body. 0 ∷ count ∷ body) (take-append-drop count (drop 2 field))
    ∙ ap (λ n. n ∷ count ∷ drop 2 field) (sym format)
    ∙ ap (λ n. get_or field 0 0 ∷ n ∷ drop 2 field) (sym is_count)
    ∙ two_first field long

-- a PIN with the digits that were read has that field
pub field_of_digits_read : (pin field : List ℕ) → ReadsAsPin field → IsField field → values pin ≡ take (get_or field 1 0) (drop 2 field) → pin_field pin ≡ field
field_of_digits_read pin field reads is_field same =
    let count : ℕ = get_or field 1 0 in
    let body : List ℕ = drop 2 field in
    let body_long : length body ≡ 14 = omega (arith, length-drop 2 field, is_field.sixteen) in
    let pin_long : length pin ≡ count = omega (arith, length-map pin (λ digit. digit - 48), ap length same, length-take-le count body (omega (arith, reads.at_most)), reads.at_most) in
    let filler_long : 14 - length pin ≡ length (drop count body) = omega (arith, length-drop count body) in
    let filler : replicate (14 - length pin) 15 ≡ drop count body = counted_from_all (drop count body) 15 (14 - length pin) filler_long reads.filler in
    let joined : 0 ∷ count ∷ take count body ++ drop count body ≡ field = parts_joined field count (omega (arith, is_field.sixteen)) reads.format refl in
    pin_field_from_parts pin (take count body) (drop count body) field count pin_long same filler joined

-- a text of digits is given back by their values
pub ascii_of_values : (text : List ℕ) → All IsAsciiDigit text → ascii_of (values text) ≡ text
ascii_of_values [] digits = refl
ascii_of_values (digit ∷ text) digits =
    let is : IsAsciiDigit digit = All-head IsAsciiDigit digit text digits in
    let head : 48 + (digit - 48) ≡ digit = omega arith in
    ap (λ first. first ∷ ascii_of (values text)) head
    ∙ ap (λ rest. digit ∷ rest) (ascii_of_values text (All-tail IsAsciiDigit digit text digits))

-- a PIN field is the field of one PIN
pub one_pin_of_field : (pin other : List ℕ) → IsPin pin → IsPin other → pin_field pin ≡ pin_field other → pin ≡ other
unfolding pin_field
one_pin_of_field pin other is_pin is_other same =
    let long : length pin ≡ length other = ap (λ field. get_or field 1 0) same in
    let first : values pin ≡ take (length pin) (values pin ++ replicate (14 - length pin) 15) = sym (take_at (values pin) (replicate (14 - length pin) 15) (length pin) (length-map pin (λ digit. digit - 48))) in
    let second : take (length pin) (values other ++ replicate (14 - length other) 15) ≡ values other = take_at (values other) (replicate (14 - length other) 15) (length pin) (length-map other (λ digit. digit - 48) ∙ sym long) in
    let equal : values pin ≡ values other = first ∙ ap (λ field. take (length pin) (drop 2 field)) same ∙ second in
    sym (ascii_of_values pin is_pin.digits) ∙ ap ascii_of equal ∙ ascii_of_values other is_other.digits
