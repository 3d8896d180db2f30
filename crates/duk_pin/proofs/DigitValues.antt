-- Digits: their values, and the loop that writes them.
use Rattle.std.proofs.Common.{◌≡◌, ℕ, ◌+◌, ◌-◌, ◌<◌, ◌≤◌, List, [], ◌∷◌, ◌++◌, length, get_or, set, take, replicate, All, refl, sym, ap, ◌∙◌, arith}
use Rattle.std.specs.Char.{IsAsciiDigit}
use Rattle.std.specs.Str.{IsUtf8}
use Rattle.std.proofs.lemmas.List.{take-map, get_or-map, length-map}
use Rattle.std.proofs.lemmas.List.Elements.{All-map, All-weaker}
use Rattle.std.proofs.lemmas.Str.{IsUtf8-from_ascii}
use Rattle.std.proofs.lemmas.Str.Ascii.{IsAscii-from_all}
use Rattle.duk_pin.specs.Pin.{IsPin}
use Rattle.duk_pin.specs.Pan.{IsPan}
use Rattle.duk_pin.specs.Digits.{values, ascii_of}
use Rattle.duk_pin.proofs.CopyIntoFront.{copied_next}

-- digits are UTF-8
pub IsUtf8_from_digits : (text : List ℕ) → All IsAsciiDigit text → IsUtf8 text
IsUtf8_from_digits text digits =
    IsUtf8-from_ascii text (IsAscii-from_all text (λ k d within. let at : IsAsciiDigit (get_or text k d) = digits k d within in omega arith))

pub IsUtf8_from_pin : (text : List ℕ) → IsPin text → IsUtf8 text
IsUtf8_from_pin text is_pin = IsUtf8_from_digits text is_pin.digits

pub IsUtf8_from_pan : (text : List ℕ) → IsPan text → IsUtf8 text
IsUtf8_from_pan text is_pan = IsUtf8_from_digits text is_pan.digits

pub values_of_ascii : (digits : List ℕ) → values (ascii_of digits) ≡ digits
values_of_ascii [] = refl
values_of_ascii (digit ∷ digits) =
    let head : 48 + digit - 48 ≡ digit = omega arith in
    ap (λ first. first ∷ values (ascii_of digits)) head ∙ ap (λ rest. digit ∷ rest) (values_of_ascii digits)

pub ascii_are_digits : (digits : List ℕ) → All (λ digit. digit < 10) digits → All IsAsciiDigit (ascii_of digits)
ascii_are_digits digits small =
    All-map IsAsciiDigit (λ digit. 48 + digit) digits (All-weaker (λ digit. digit < 10) (λ digit. IsAsciiDigit (48 + digit)) (λ digit below. (omega arith, omega arith)) digits small)

-- a loop that writes ASCII digits over zeros: what it has written, then zeros
pub ascii_next : (digits : List ℕ) (size i : ℕ) → i < length digits → length digits ≤ size → set (ascii_of (take i digits) ++ replicate (size - i) 0) i (48 + get_or digits i 0) ≡ ascii_of (take (i + 1) digits) ++ replicate (size - (i + 1)) 0
ascii_next digits size i within fits =
    ap (λ front. set (front ++ replicate (size - i) 0) i (48 + get_or digits i 0)) (sym (take-map (λ digit. 48 + digit) i digits))
    ∙ ap (λ y. set (take i (ascii_of digits) ++ replicate (size - i) 0) i y) (sym (get_or-map (λ digit. 48 + digit) digits i 0 0 within))
    ∙ copied_next (ascii_of digits) size i (omega (arith, length-map digits (λ digit. 48 + digit))) (omega (arith, length-map digits (λ digit. 48 + digit)))
    ∙ ap (λ front. front ++ replicate (size - (i + 1)) 0) (take-map (λ digit. 48 + digit) (i + 1) digits)
