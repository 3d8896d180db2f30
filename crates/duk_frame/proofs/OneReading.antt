-- A frame has one reading.
use Rattle.std.proofs.Common.{◌≡◌, ◌==◌, ℕ, List, length, take, drop, get_or, refl, sym, ap, ◌∙◌, arith}
use Rattle.std.specs.Prelude.{if◌then◌else◌}
use Rattle.byteorder.specs.Endian.{big_number}
use Rattle.duk_tree.specs.Serial.{Serial, IsSerial, serial_bytes, serial_of_bytes}
use Rattle.duk_frame.specs.Answer.{IsAnswer}
use Rattle.duk_frame.specs.Code.{code_text}
use Rattle.duk_frame.specs.Request.{IsRequest}
use Rattle.duk_frame.specs.declared.answer.AnswerFrame.{AnswerFrame}
use Rattle.duk_frame.specs.declared.answer.AnswerFrame.TheVariants.{Reply, Refusal}
use Rattle.duk_frame.specs.declared.code.Code.{Code}
use Rattle.duk_frame.specs.declared.code.Code.TheVariants.{Approved, NoCard, WrongPin, OverLimit, Unreadable}
use Rattle.duk_frame.specs.declared.request.Request.{Request}
use Rattle.duk_frame.proofs.PlacesOfAnswers.{reply_places, refusal_places}
use Rattle.duk_frame.proofs.PlacesOfRequests.{request_places, amount_at, block_at, mac_at, same_request}

-- what is known of key serial numbers
pub record SerialLaws : Type 0 where
  pub ten : (serial : Serial) → length (serial_bytes serial) ≡ 10
  pub found : (serial : Serial) → IsSerial serial → serial_of_bytes (serial_bytes serial) ≡ serial

-- key serial numbers of the same bytes are one
same_serial : SerialLaws → (bytes : List ℕ) (a b : Serial) → IsSerial a → IsSerial b → bytes ≡ serial_bytes a → bytes ≡ serial_bytes b → a ≡ b
same_serial laws bytes a b is other at other_at =
    sym (laws.found a is) ∙ ap serial_of_bytes (sym at ∙ other_at) ∙ laws.found b other

-- bytes are the frame of one request
pub one_request : SerialLaws → (bytes : List ℕ) (a b : Request) → IsRequest bytes a → IsRequest bytes b → a ≡ b
one_request laws bytes a b is other =
    let at = request_places bytes a laws.ten is in
    let other_at = request_places bytes b laws.ten other in
    let digits : length a.pan ≡ length b.pan = sym at.digits ∙ other_at.digits in
    same_request a b
    (same_serial laws (take 10 (drop 4 bytes)) a.ksn b.ksn is.fields.ksn_is other.fields.ksn_is at.serial other_at.serial)
    (sym at.pan ∙ ap (λ n. take n (drop 15 bytes)) digits ∙ other_at.pan)
    (sym (amount_at bytes a is at) ∙ ap (λ n. big_number 4 (drop n (drop 15 bytes))) digits ∙ amount_at bytes b other other_at)
    (sym (block_at bytes a is at) ∙ ap (λ n. take 8 (drop 4 (drop n (drop 15 bytes)))) digits ∙ block_at bytes b other other_at)
    (sym (mac_at bytes a is at) ∙ ap (λ n. drop 12 (drop n (drop 15 bytes))) digits ∙ mac_at bytes b other other_at)

-- the code of two digits
code_at : List ℕ → Code
code_at digits =
    if get_or digits 0 0 == 48 then Approved
    else (if get_or digits 0 0 == 49 then NoCard
    else (if get_or digits 0 0 == 51 then Unreadable
    else (if get_or digits 1 0 == 53 then WrongPin else OverLimit)))

code_at-text : (code : Code) → code_at (code_text code) ≡ code
unfolding code_at
code_at-text Approved = refl
code_at-text NoCard = refl
code_at-text WrongPin = refl
code_at-text OverLimit = refl
code_at-text Unreadable = refl

-- bytes are the frame of one answer
pub one_answer : SerialLaws → (bytes : List ℕ) (a b : AnswerFrame) → IsAnswer bytes a → IsAnswer bytes b → a ≡ b
one_answer laws bytes (Reply ksn code mac) (Reply other_ksn other_code other_mac) is other =
    let at = reply_places bytes ksn code mac laws.ten is in
    let other_at = reply_places bytes other_ksn other_code other_mac laws.ten other in
    let serials : ksn ≡ other_ksn = same_serial laws (take 10 (drop 4 bytes)) ksn other_ksn is.fields.0 other.fields.0 at.serial other_at.serial in
    let codes : code ≡ other_code = sym (code_at-text code) ∙ ap code_at (sym at.digits ∙ other_at.digits) ∙ code_at-text other_code in
    let macs : mac ≡ other_mac = sym at.mac_is ∙ other_at.mac_is in
    cc
one_answer laws bytes (Reply ksn code mac) (Refusal other_ksn reason) is other =
    let at = reply_places bytes ksn code mac laws.ten is in
    let other_at = refusal_places bytes other_ksn reason laws.ten other in
    absurd (omega (arith, at.kind, other_at.kind))
one_answer laws bytes (Refusal ksn reason) (Reply other_ksn code mac) is other =
    let at = refusal_places bytes ksn reason laws.ten is in
    let other_at = reply_places bytes other_ksn code mac laws.ten other in
    absurd (omega (arith, at.kind, other_at.kind))
one_answer laws bytes (Refusal ksn reason) (Refusal other_ksn other_reason) is other =
    let at = refusal_places bytes ksn reason laws.ten is in
    let other_at = refusal_places bytes other_ksn other_reason laws.ten other in
    let serials : ksn ≡ other_ksn = same_serial laws (take 10 (drop 4 bytes)) ksn other_ksn is.fields.0 other.fields.0 at.serial other_at.serial in
    let reasons : reason ≡ other_reason = sym at.reason_is ∙ other_at.reason_is in
    cc

-- no frame is of a request and of an answer
pub apart : SerialLaws → (bytes : List ℕ) (request : Request) (answer : AnswerFrame) → IsRequest bytes request → ¬ IsAnswer bytes answer
apart laws bytes request (Reply ksn code mac) is other =
    let at = request_places bytes request laws.ten is in
    let other_at = reply_places bytes ksn code mac laws.ten other in
    omega (arith, at.kind, other_at.kind)
apart laws bytes request (Refusal ksn reason) is other =
    let at = request_places bytes request laws.ten is in
    let other_at = refusal_places bytes ksn reason laws.ten other in
    omega (arith, at.kind, other_at.kind)
