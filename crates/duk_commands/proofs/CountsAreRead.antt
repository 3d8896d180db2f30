-- Numbers written in decimal, from their front.
use Rattle.std.proofs.Common.{◌≡◌, ℕ, ◌+◌, ◌*◌, ◌-◌, ◌<◌, ◌≤◌, List, [], ◌∷◌, length, take, drop, get_or, sym, ap, ◌∙◌, fold, arith}
use Rattle.std.specs.Char.{IsAsciiDigit}
use Rattle.std.specs.List.{All}
use Rattle.std.proofs.lemmas.List.{take-append-drop, take_more}
use Rattle.std.proofs.lemmas.List.Elements.{All-push}
use Rattle.std.proofs.lemmas.List.Sums.{fold-append}
use Rattle.duk_commands.specs.Decimal.{IsDecimal, number_of_digits}

grows : (digits : List ℕ) (start : ℕ) → start ≤ fold (λ number digit. 10 * number + (digit - 48)) start digits
grows [] start = omega arith
grows (digit ∷ digits) start = omega (arith, grows digits (10 * start + (digit - 48)))

number_of_digits-front : (text : List ℕ) (i : ℕ) → number_of_digits (take i text) ≤ number_of_digits text
number_of_digits-front text i =
    let more = grows (drop i text) (number_of_digits (take i text)) in
    let whole : fold (λ number digit. 10 * number + (digit - 48)) (number_of_digits (take i text)) (drop i text) ≡ number_of_digits text =
    sym (fold-append (λ number digit. 10 * number + (digit - 48)) 0 (take i text) (drop i text)) ∙ ap number_of_digits (take-append-drop i text) in
    omega arith

-- a front that is too great already
pub too_great : (most : ℕ) (text : List ℕ) (i : ℕ) → most < number_of_digits (take i text) → (number : ℕ) → ¬ IsDecimal most text number
too_great most text i great number is = absurd (omega (arith, number_of_digits-front text i, is.value, is.fits))

-- one more digit
pub digits_more : (text : List ℕ) (i : ℕ) → i < length text → All IsAsciiDigit (take i text) → IsAsciiDigit (get_or text i 0) → All IsAsciiDigit (take (i + 1) text)
digits_more text i inside digits digit =
    rw (take_more text i 0 inside) (All-push IsAsciiDigit (take i text) (get_or text i 0) digits digit)
