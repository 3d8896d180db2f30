-- The frame of a refusal in hexadecimal.
use Rattle.std.proofs.Common.{◌*◌, ◌≡◌, ◌∙◌, Err, List, MatchResult, None, Ok, Option, Result, Some, [], ◌∷◌, ap, arith, length, length-append, subst, sym, true, ℕ}
use Rattle.std.specs.Result.{is_err}
use Rattle.std.proofs.lemmas.Result.{MatchResult-at_ok}
use Rattle.hex.specs.Hex.{decode_sized}
use Rattle.hex.specs.declared.error.FromHexError.{FromHexError}
use Rattle.hex.proofs.HexLemmas.{decode_of-ok, decode_sized-twice}
use Rattle.duk_frame.specs.Answer.{IsAnswer, IsRefusal}
use Rattle.duk_frame.specs.declared.answer.AnswerFrame.{AnswerFrame}
use Rattle.duk_frame.specs.declared.answer.AnswerFrame.TheVariants.{Refusal}
use Rattle.duk_program.specs.Refusal.{IsRefusalText}
use Rattle.duk_tree.specs.Serial.{Serial, serial_bytes}

-- it has 15 bytes
size : (bytes : List ℕ) (ksn : Serial) (reason : ℕ) → length (serial_bytes ksn) ≡ 10 → IsRefusal bytes ksn reason → length bytes ≡ 15
size bytes ksn reason ten is = ap length is.laid_out ∙ omega (arith, length-append (serial_bytes ksn) (reason ∷ []), ten)

-- what a decoder into 15 bytes answers of its text
sized : ((serial : Serial) → length (serial_bytes serial) ≡ 10) → (text : List ℕ) (it : IsRefusalText text) → decode_sized text 15 ≡ Ok it.bytes
sized ten text it =
    let fifteen : length it.bytes ≡ 15 = size it.bytes it.ksn it.reason (ten it.ksn) it.refusal in
    let long : length text ≡ 2 * 15 = omega (arith, (decode_of-ok text it.bytes it.read).2, fifteen) in
    decode_sized-twice text 15 long ∙ it.read

module _ (ten : (serial : Serial) → length (serial_bytes serial) ≡ 10) (text out : List ℕ) (told : Result Unit FromHexError)
    (h : MatchResult (decode_sized text 15) (λ bytes. (told ≡ Ok tt) × (out ≡ bytes)) (λ e. told ≡ Err e)) where
  -- where it refuses the text, that is no refusal's
  pub not_read : is_err told ≡ true → IsRefusalText text → ⊥
  not_read failed it =
      let was = MatchResult-at_ok (λ bytes. (told ≡ Ok tt) × (out ≡ bytes)) (λ e. told ≡ Err e) it.bytes (sized ten text it) h in
      cc (rw was.0 at failed)

  -- and where no frame is found in what it wrote
  pub not_found : (answer : Option AnswerFrame) → ((other : AnswerFrame) → IsAnswer out other → answer ≡ Some other) → answer ≡ None → IsRefusalText text → ⊥
  not_found answer every none it =
      let was = MatchResult-at_ok (λ bytes. (told ≡ Ok tt) × (out ≡ bytes)) (λ e. told ≡ Err e) it.bytes (sized ten text it) h in
      cc (none, every (Refusal it.ksn it.reason) (subst (λ bytes. IsAnswer bytes (Refusal it.ksn it.reason)) (sym was.1) it.refusal))
