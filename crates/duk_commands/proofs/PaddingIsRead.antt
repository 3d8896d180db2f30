-- The padding of `wrap`, read in hexadecimal.
use Rattle.std.proofs.Common.{◌≡◌, ℕ, ◌%◌, ◌<◌, Bool, true, false, List, ◌++◌, length, take, drop, refl, sym, ◌∙◌, Some, Result, Ok, Err, MatchResult, arith}
use Rattle.std.specs.List.{list_all}
use Rattle.std.specs.Prelude.{MatchBool}
use Rattle.std.specs.Result.{result_ok}
use Rattle.std.proofs.Math.Seq.{take-append_seam}
use Rattle.std.proofs.lemmas.List.Sums.{AllPass-from_list_all, list_all-from_AllPass}
use Rattle.duk_block.specs.Hexadecimal.{IsHexadecimal}
use Rattle.duk_block.specs.KeyBlock.{FitsKeyBlock}
use Rattle.hex.specs.Hex.{decode_sized, is_hex_digit}
use Rattle.hex.specs.declared.error.FromHexError.{FromHexError}
use Rattle.hex.proofs.HexLemmas.{decode_of-digits, decode_of-ok, decode_sized-ok, decode_sized-twice}

-- an even number of characters is pairs of digits exactly where each is a digit
pub by_digits : (text : List ℕ) (each : Bool) → length text % 2 ≡ 0 → each ≡ list_all is_hex_digit text
    → MatchBool each ((padding : List ℕ) × IsHexadecimal text padding) ((padding : List ℕ) → ¬ IsHexadecimal text padding)
by_digits text true even is = decode_of-digits text even (AllPass-from_list_all is_hex_digit text (sym is))
by_digits text false even is = λ padding read. cc (is, list_all-from_AllPass is_hex_digit text (decode_of-ok text padding read).1)

-- padding of more than 240 bytes fits no key block
pub long_fits_none : (text padding : List ℕ) (key : ℕ) → 481 < length text → IsHexadecimal text padding → FitsKeyBlock key (length padding) → ⊥
long_fits_none text padding key long read fits = omega (arith, (decode_of-ok text padding read).2, fits.most)

-- what the decoder found in the text, where it found something
found : (text out : List ℕ) (n : ℕ) (read : Result (List ℕ) FromHexError) (reported : Result Unit FromHexError) → decode_sized text n ≡ read
    → MatchResult read (λ bytes. (reported ≡ Ok tt) × (out ≡ bytes)) (λ e. reported ≡ Err e) → result_ok reported ≡ Some tt → IsHexadecimal text out
found text out n (Ok bytes) reported is h ok = rw h.1 (sym (decode_sized-twice text n (decode_sized-ok text n bytes is)) ∙ is)
found text out n (Err e) reported is h ok = cc (rw h at ok)

-- a vector, over which the decoder wrote as many bytes as it had
pub read_over : (text out held : List ℕ) (n : ℕ) (reported : Result Unit FromHexError) → length out ≡ length held
    → MatchResult (decode_sized text n) (λ bytes. (reported ≡ Ok tt) × (out ≡ bytes)) (λ e. reported ≡ Err e) → result_ok reported ≡ Some tt
    → IsHexadecimal text (take (length held) (out ++ drop (length out) held))
read_over text out held n reported same h ok =
    rw (← same, take-append_seam) (found text out n (decode_sized text n) reported refl h ok)
