-- Where the fields of an answer stand.
use Rattle.std.proofs.Common.{◌≡◌, ℕ, ◌+◌, ◌<◌, List, [], ◌∷◌, ◌++◌, length, take, drop, get_or, refl, sym, ap, subst, ◌∙◌, arith, length-append, append_assoc, drop-cons, drop-drop}
use Rattle.std.proofs.lemmas.List.{take-append-drop, drop_all}
use Rattle.byteorder.specs.Endian.{big_bytes}
use Rattle.duk_tree.specs.Serial.{Serial, serial_bytes}
use Rattle.duk_frame.specs.Answer.{IsReply, IsRefusal, refusal_text, reply_text}
use Rattle.duk_frame.specs.Code.{code_text}
use Rattle.duk_frame.specs.declared.code.Code.{Code}
use Rattle.duk_frame.specs.declared.code.Code.TheVariants.{Approved, NoCard, WrongPin, OverLimit, Unreadable}
use Rattle.duk_frame.specs.inner.Frame.{HasKind}
use Rattle.duk_frame.proofs.PlacesOfFrames.{kind_of_frame, take-front, drop-front, Parts, parts_of, get_or-next}

length-code_text : (code : Code) → length (code_text code) ≡ 2
length-code_text Approved = refl
length-code_text NoCard = refl
length-code_text WrongPin = refl
length-code_text OverLimit = refl
length-code_text Unreadable = refl

-- what stands where a reply has its fields
pub record ReplyPlaces (bytes : List ℕ) (ksn : Serial) (code : Code) (mac : List ℕ) : Type 0 where
  pub size : length bytes ≡ 24
  pub kind : get_or bytes 3 0 ≡ 2
  pub serial : take 10 (drop 4 bytes) ≡ serial_bytes ksn
  pub digits : take 2 (drop 14 bytes) ≡ code_text code
  pub mac_is : drop 16 bytes ≡ mac

-- the places of a reply
pub reply_places : (bytes : List ℕ) (ksn : Serial) (code : Code) (mac : List ℕ) → ((serial : Serial) → length (serial_bytes serial) ≡ 10)
    → IsReply bytes ksn code mac → ReplyPlaces bytes ksn code mac
reply_places bytes ksn code mac ten is =
    let serial : List ℕ = serial_bytes ksn in
    let digits : List ℕ = code_text code in
    let size : ℕ = length (reply_text ksn code ++ mac) in
    let two : length digits ≡ 2 = length-code_text code in
    let eight : length mac ≡ 8 = is.fields.1.eight in
    let last : length (digits ++ mac) ≡ length digits + length mac = length-append digits mac in
    let laid : bytes ≡ big_bytes 2 size ++ (1 ∷ 2 ∷ (serial ++ (digits ++ mac))) =
    is.laid_out ∙ ap (λ fields. big_bytes 2 size ++ (1 ∷ 2 ∷ fields)) (append_assoc serial digits mac) in
    let parts : Parts bytes 2 serial (digits ++ mac) =
    subst (λ (b : List ℕ). Parts b 2 serial (digits ++ mac)) (sym laid) (parts_of _ _ 1 2 serial (digits ++ mac) (ten ksn)) in
    record {
      size = omega (arith, parts.size, last, two, eight);
      kind = parts.kind_is;
      serial = parts.serial_is;
      digits = ap (take 2) parts.rest_is ∙ take-front 2 digits mac two;
      mac_is = sym (drop-drop 2 14 bytes) ∙ ap (drop 2) parts.rest_is ∙ drop-front 2 digits mac two;
    }

-- what stands where a refusal has its fields
pub record RefusalPlaces (bytes : List ℕ) (ksn : Serial) (reason : ℕ) : Type 0 where
  pub size : length bytes ≡ 15
  pub kind : get_or bytes 3 0 ≡ 3
  pub serial : take 10 (drop 4 bytes) ≡ serial_bytes ksn
  pub reason_is : get_or bytes 14 0 ≡ reason

-- the places of a refusal
pub refusal_places : (bytes : List ℕ) (ksn : Serial) (reason : ℕ) → ((serial : Serial) → length (serial_bytes serial) ≡ 10)
    → IsRefusal bytes ksn reason → RefusalPlaces bytes ksn reason
refusal_places bytes ksn reason ten is =
    let serial : List ℕ = serial_bytes ksn in
    let parts : Parts bytes 3 serial (reason ∷ []) =
    subst (λ (b : List ℕ). Parts b 3 serial (reason ∷ [])) (sym is.laid_out) (parts_of _ _ 1 3 serial (reason ∷ []) (ten ksn)) in
    record { size = parts.size; kind = parts.kind_is; serial = parts.serial_is; reason_is = get_or-next bytes reason [] parts.rest_is }

-- ---- written again

-- the bytes that have a reply's fields at their places are its text and its MAC
pub reply_text_at : (bytes : List ℕ) (ksn : Serial) (code : Code) (mac : List ℕ)
    → serial_bytes ksn ≡ take 10 (drop 4 bytes) → code_text code ≡ take 2 (drop 14 bytes) → mac ≡ drop 16 bytes
    → 1 ∷ 2 ∷ drop 4 bytes ≡ reply_text ksn code ++ mac
reply_text_at bytes ksn code mac serial digits mac_is =
    let serial_is : List ℕ = serial_bytes ksn in
    let digits_are : List ℕ = code_text code in
    let last : digits_are ++ mac ≡ drop 14 bytes =
    ap (λ front. front ++ mac) digits
    ∙ ap (λ back. take 2 (drop 14 bytes) ++ back) (mac_is ∙ sym (drop-drop 2 14 bytes))
    ∙ take-append-drop 2 (drop 14 bytes) in
    ap (λ fields. 1 ∷ 2 ∷ fields) (sym (
    append_assoc serial_is digits_are mac
    ∙ ap (λ back. serial_is ++ back) last
    ∙ ap (λ front. front ++ drop 14 bytes) serial
    ∙ ap (λ back. take 10 (drop 4 bytes) ++ back) (sym (drop-drop 10 4 bytes))
    ∙ take-append-drop 10 (drop 4 bytes)
    ))

-- the bytes that have a refusal's fields at their places are its text
pub refusal_text_at : (bytes : List ℕ) (ksn : Serial) (reason : ℕ) → length bytes ≡ 15
    → serial_bytes ksn ≡ take 10 (drop 4 bytes) → reason ≡ get_or bytes 14 0
    → 1 ∷ 3 ∷ drop 4 bytes ≡ refusal_text (serial_bytes ksn) reason
refusal_text_at bytes ksn reason size serial reason_is =
    let within : 14 < length bytes = omega arith in
    let none : drop 15 bytes ≡ [] = drop_all 15 bytes (omega arith) in
    let last : reason ∷ [] ≡ drop 14 bytes =
    ap (λ n. n ∷ []) reason_is
    ∙ ap (λ back. get_or bytes 14 0 ∷ back) (sym none)
    ∙ sym (drop-cons bytes 14 0 within) in
    ap (λ fields. 1 ∷ 3 ∷ fields) (sym (
    ap (λ back. serial_bytes ksn ++ back) last
    ∙ ap (λ front. front ++ drop 14 bytes) serial
    ∙ ap (λ back. take 10 (drop 4 bytes) ++ back) (sym (drop-drop 10 4 bytes))
    ∙ take-append-drop 10 (drop 4 bytes)
    ))

-- the frame of a reply is short, and of kind 2
pub kind_of_reply : (bytes : List ℕ) (ksn : Serial) (code : Code) (mac : List ℕ)
    → ((serial : Serial) → length (serial_bytes serial) ≡ 10) → IsReply bytes ksn code mac → HasKind bytes 2
kind_of_reply bytes ksn code mac ten is =
    let places = reply_places bytes ksn code mac ten is in
    kind_of_frame bytes _ 2 is.laid_out (omega (arith, places.size))

-- the frame of a refusal is short, and of kind 3
pub kind_of_refusal : (bytes : List ℕ) (ksn : Serial) (reason : ℕ)
    → ((serial : Serial) → length (serial_bytes serial) ≡ 10) → IsRefusal bytes ksn reason → HasKind bytes 3
kind_of_refusal bytes ksn reason ten is =
    let places = refusal_places bytes ksn reason ten is in
    kind_of_frame bytes _ 3 is.laid_out (omega (arith, places.size))
