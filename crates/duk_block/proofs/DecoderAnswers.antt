-- What a call of the decoder reports.
use Rattle.std.proofs.Common.{◌≡◌, ℕ, ◌*◌, List, length, refl, Result, Ok, Err, sym, ap, ◌∙◌, MatchResult}
use Rattle.std.specs.Prelude.{MatchBool}
use Rattle.std.specs.List.{AllPass}
use Rattle.std.specs.Result.{is_ok}
use Rattle.std.proofs.lemmas.Bool.{false≢true}
use Rattle.hex.specs.Hex.{decode_sized, is_hex_digit}
use Rattle.hex.specs.declared.error.FromHexError.{FromHexError}
use Rattle.hex.proofs.HexLemmas.{IsOk-decode_sized, decode_sized-twice}
use Rattle.duk_block.specs.Hexadecimal.{IsHexadecimal}

-- by what the decoder finds
by_decoding : (digits out : List ℕ) (n : ℕ) (found : Result (List ℕ) FromHexError) (reported : Result Unit FromHexError) → length digits ≡ 2 * n → decode_sized digits n ≡ found
    → MatchResult found (λ bytes. (reported ≡ Ok tt) × (out ≡ bytes)) (λ e. reported ≡ Err e)
    → MatchBool (is_ok reported) (IsHexadecimal digits out) (AllPass is_hex_digit digits → ⊥)
by_decoding digits out n (Ok bytes) reported width is h = rw h.0 (sym (decode_sized-twice digits n width) ∙ is ∙ ap Ok (sym h.1))
by_decoding digits out n (Err e) reported width is h =
    rw h (λ all. false≢true (sym (ap is_ok is) ∙ (IsOk-decode_sized digits n).1 (width, all)))

pub read_from_decoding : (digits out : List ℕ) (n : ℕ) (reported : Result Unit FromHexError) → length digits ≡ 2 * n
    → MatchResult (decode_sized digits n) (λ bytes. (reported ≡ Ok tt) × (out ≡ bytes)) (λ e. reported ≡ Err e)
    → MatchBool (is_ok reported) (IsHexadecimal digits out) (AllPass is_hex_digit digits → ⊥)
read_from_decoding digits out n reported width h = by_decoding digits out n (decode_sized digits n) reported width refl h
