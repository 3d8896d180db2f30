-- The tokens of a line: what is read of them, and that none has a space.
use Rattle.std.proofs.Common.{◌≡◌, ◌≢◌, ◌<◌, ◌^◌, ℕ, zero, suc, List, ◌∷◌, ◌++◌, length, get_or, Bor, Option, Some, None, Result, Ok, Err, IfSome, MatchOption, decimal, sym, ap, arith}
use Rattle.std.proofs.lemmas.Fmt.{decimal_is_IsNumeral, decimal_digit, first_decimal, parse-decimal, decimal-digits_value}
use Rattle.std.proofs.lemmas.Str.Parse.{IsNumeralModel, numerals_by_value, tells_digits, digit_at, without_leading_plus_none}
use Rattle.std.specs.Result.{result_ok}
use Rattle.std.specs.Str.Parse.{AllDigits, ParsesUnsigned, digits_value}
use Rattle.duk_net.specs.declared.event.End.{End}
use Rattle.duk_net.specs.declared.event.End.TheVariants.{Host, Term}
use Rattle.duk_script.specs.Script.{HasNoSpace, IsEnd, IsSplit, IsTerminal, end_name, terminal_name}
use Rattle.duk_script.specs.inner.Reading.{IsPlainNumber}

-- no digit is a space
no_space_digits : (token : List ℕ) → AllDigits 10 token → HasNoSpace token
no_space_digits token digits i inside = let digit = digit_at token i digits inside in λ space. absurd (omega (arith, digit.0, digit.1))

pub no_space_decimal : (n : ℕ) → n < 2 ^ 64 → HasNoSpace (decimal n)
no_space_decimal n fits = no_space_digits (decimal n) (decimal_is_IsNumeral n fits).0.1

pub no_space_terminal : (t : ℕ) → IsTerminal t → HasNoSpace (terminal_name t)
no_space_terminal t is zero inside = λ space. absurd (omega arith)
no_space_terminal t is (suc i) inside = no_space_decimal t (omega (arith, is.most)) i (omega arith)

pub no_space_end : (end : End) → IsEnd end → HasNoSpace (end_name end)
no_space_end Host is zero inside = λ space. absurd (omega arith)
no_space_end Host is (suc zero) inside = λ space. absurd (omega arith)
no_space_end Host is (suc (suc zero)) inside = λ space. absurd (omega arith)
no_space_end Host is (suc (suc (suc zero))) inside = λ space. absurd (omega arith)
no_space_end Host is (suc (suc (suc (suc i)))) inside = absurd (omega arith)
no_space_end (Term t) is i inside = no_space_terminal t is i inside

own : IsNumeralModel (AllDigits 10) (digits_value 10)
own = numerals_by_value (AllDigits 10) tells_digits

-- decimal text has neither a sign nor a leading zero
pub plain_decimal : (n : ℕ) → n < 2 ^ 64 → IsPlainNumber (decimal n)
plain_decimal n fits =
    let numeral = decimal_is_IsNumeral n fits in
    let digit = digit_at (decimal n) 0 numeral.0.1 numeral.0.0 in
    record { unsigned = λ plus. absurd (omega (arith, digit.0)); no_leading_zero = alone n fits }
  where
    alone : (n : ℕ) → n < 2 ^ 64 → get_or (decimal n) 0 0 ≡ 48 → length (decimal n) ≡ 1
    alone zero fits e = ap length (decimal_digit 0 (omega arith))
    alone (suc n) fits e = absurd (omega (arith, first_decimal (suc n) (omega arith) fits))

-- what is read of a token without a sign or a leading zero
pub number_found : {E : Type 0} (token : List ℕ) (read : Result ℕ E) → IsPlainNumber token → ParsesUnsigned 32 10 token read
    → IfSome (result_ok read) (λ number. token ≡ decimal number)
number_found token (Ok n) plain parsed =
    let same = without_leading_plus_none token plain.unsigned in
    let numeral = rw same at parsed in
    rw numeral.1 (sym (decimal-digits_value own token numeral.0.0.1 numeral.0.0.0 plain.no_leading_zero (omega (arith, numeral.0.1))))
number_found token (Err e) plain parsed = tt

pub number_every : {E : Type 0} (token : List ℕ) (read : Result ℕ E) → ParsesUnsigned 32 10 token read
    → (number : ℕ) → number < 2 ^ 32 → token ≡ decimal number → result_ok read ≡ Some number
number_every token read parsed number fits e = ap result_ok (parse-decimal 32 number token read fits (omega arith) e parsed)

-- what a text is split into
pub split_found : (text : List ℕ) (split : Option (Bor (List ℕ) × Bor (List ℕ)))
    → MatchOption split ((i : ℕ) → i < length text → get_or text i 0 ≢ 32) (λ x. (text ≡ x.0.now ++ (32 ∷ x.1.now)) × ((i : ℕ) → i < length x.0.now → get_or x.0.now i 0 ≢ 32))
    → IfSome split (λ parts. IsSplit text parts.0.now parts.1.now)
split_found text None cases = tt
split_found text (Some parts) cases = record { one_token = cases.1; text_is = cases.0 }
