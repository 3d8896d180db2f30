-- Where the fields of a request stand.
use Rattle.std.proofs.Common.{◌≡◌, ◌+◌, ◌*◌, ◌/◌, ◌%◌, ◌^◌, ◌<◌, ◌≤◌, ℕ, List, [], ◌∷◌, ◌++◌, length, take, drop, get_or, refl, sym, ap, subst, ◌∙◌, arith, length-append, append_assoc, drop-cons, drop-drop}
use Rattle.std.proofs.lemmas.List.{take-append-drop, length-drop, length-take-le}
use Rattle.byteorder.specs.Endian.{big_bytes, big_number}
use Rattle.byteorder.specs.Numbers.{big_number-reads_back}
use Rattle.duk_tree.specs.Serial.{Serial, serial_bytes}
use Rattle.duk_frame.specs.Request.{IsRequest, request_text}
use Rattle.duk_frame.specs.declared.request.Request.{Request}
use Rattle.duk_frame.specs.inner.Frame.{HasKind}
use Rattle.duk_frame.proofs.PlacesOfFrames.{kind_of_frame, take-front, drop-front, Parts, parts_of, get_or-next, drop-next}

-- what stands where a request has its fields
pub record RequestPlaces (bytes : List ℕ) (request : Request) : Type 0 where
  pub size : length bytes ≡ 35 + length request.pan
  pub kind : get_or bytes 3 0 ≡ 1
  pub serial : take 10 (drop 4 bytes) ≡ serial_bytes request.ksn
  pub digits : get_or bytes 14 0 ≡ length request.pan
  pub pan : take (length request.pan) (drop 15 bytes) ≡ request.pan
  pub rest : drop (length request.pan) (drop 15 bytes) ≡ big_bytes 4 request.amount ++ (request.block ++ request.mac)

-- a request's fields after its key serial number
after_serial : Request → List ℕ
after_serial request = request.pan ++ (big_bytes 4 request.amount ++ (request.block ++ request.mac))

-- the fields one after the other
in_turn : (request : Request) (serial : List ℕ)
    → (serial ++ (length request.pan ∷ (request.pan ++ (big_bytes 4 request.amount ++ request.block)))) ++ request.mac
    ≡ serial ++ (length request.pan ∷ after_serial request)
unfolding after_serial
in_turn request serial =
    let amount : List ℕ = big_bytes 4 request.amount in
    append_assoc serial (length request.pan ∷ (request.pan ++ (amount ++ request.block))) request.mac
    ∙ ap (λ rest. serial ++ (length request.pan ∷ rest))
    (append_assoc request.pan (amount ++ request.block) request.mac ∙ ap (λ rest. request.pan ++ rest) (append_assoc amount request.block request.mac))

-- a request's places follow from its parts
places_in : (bytes : List ℕ) (request : Request) → length request.block ≡ 8 → length request.mac ≡ 8
    → Parts bytes 1 (serial_bytes request.ksn) (length request.pan ∷ after_serial request) → RequestPlaces bytes request
unfolding after_serial
places_in bytes request block_size mac_size parts =
    let rest : List ℕ = big_bytes 4 request.amount ++ (request.block ++ request.mac) in
    let n = length request.pan in
    let whole : length (request.pan ++ rest) ≡ length request.pan + length rest = length-append request.pan rest in
    let last : length (request.block ++ request.mac) ≡ length request.block + length request.mac = length-append request.block request.mac in
    let following : drop 15 bytes ≡ request.pan ++ rest = drop-next bytes n (request.pan ++ rest) parts.rest_is in
    record {
      size = omega (arith, parts.size, whole, last, block_size, mac_size);
      kind = parts.kind_is;
      serial = parts.serial_is;
      digits = get_or-next bytes n (request.pan ++ rest) parts.rest_is;
      pan = ap (take n) following ∙ take-front n request.pan rest refl;
      rest = ap (drop n) following ∙ drop-front n request.pan rest refl;
    }

-- the places of a request
pub request_places : (bytes : List ℕ) (request : Request) → ((serial : Serial) → length (serial_bytes serial) ≡ 10) → IsRequest bytes request
    → RequestPlaces bytes request
request_places bytes request ten is =
    let serial : List ℕ = serial_bytes request.ksn in
    let following : List ℕ = length request.pan ∷ after_serial request in
    let size : ℕ = length (request_text request.ksn request.pan request.amount request.block ++ request.mac) in
    let laid : bytes ≡ big_bytes 2 size ++ (1 ∷ 1 ∷ (serial ++ following)) =
    is.laid_out ∙ ap (λ fields. big_bytes 2 size ++ (1 ∷ 1 ∷ fields)) (in_turn request serial) in
    places_in bytes request is.fields.block_is.eight is.fields.mac_is.eight
    (subst (λ (b : List ℕ). Parts b 1 serial following) (sym laid) (parts_of _ _ 1 1 serial following (ten request.ksn)))

-- the number in the four bytes at the amount's place
pub amount_at : (bytes : List ℕ) (request : Request) → IsRequest bytes request → RequestPlaces bytes request
    → big_number 4 (drop (length request.pan) (drop 15 bytes)) ≡ request.amount
amount_at bytes request is places =
    ap (big_number 4) places.rest ∙ big_number-reads_back 4 request.amount (request.block ++ request.mac) is.fields.amount_fits

-- the block after the amount
pub block_at : (bytes : List ℕ) (request : Request) → IsRequest bytes request → RequestPlaces bytes request
    → take 8 (drop 4 (drop (length request.pan) (drop 15 bytes))) ≡ request.block
block_at bytes request is places =
    ap (λ rest. take 8 (drop 4 rest)) places.rest ∙ take-front 8 request.block request.mac is.fields.block_is.eight

-- the MAC after the block
pub mac_at : (bytes : List ℕ) (request : Request) → IsRequest bytes request → RequestPlaces bytes request
    → drop 12 (drop (length request.pan) (drop 15 bytes)) ≡ request.mac
mac_at bytes request is places =
    ap (drop 12) places.rest ∙ drop-front 8 request.block request.mac is.fields.block_is.eight

-- requests with the same fields are one
pub same_request : (a b : Request) → a.ksn ≡ b.ksn → a.pan ≡ b.pan → a.amount ≡ b.amount → a.block ≡ b.block → a.mac ≡ b.mac → a ≡ b
same_request a b ksn pan amount block mac =
    ap (λ ksn. record a { ksn = ksn }) ksn
    ∙ ap (λ pan. record a { ksn = b.ksn; pan = pan }) pan
    ∙ ap (λ amount. record b { amount = amount; block = a.block; mac = a.mac }) amount
    ∙ ap (λ block. record b { block = block; mac = a.mac }) block
    ∙ ap (λ mac. record b { mac = mac }) mac

-- ---- written again

-- the four bytes of a number are those that it was read in
pub four_bytes : (bytes : List ℕ) → 4 ≤ length bytes → ((i : ℕ) → get_or bytes i 0 < 2 ^ 8)
    → big_bytes 4 (big_number 4 bytes) ≡ take 4 bytes
four_bytes [] least fit = absurd (omega arith)
four_bytes (a ∷ []) least fit = absurd (omega arith)
four_bytes (a ∷ (b ∷ [])) least fit = absurd (omega arith)
four_bytes (a ∷ (b ∷ (d ∷ []))) least fit = absurd (omega arith)
four_bytes (a ∷ (b ∷ (d ∷ (e ∷ rest)))) least fit =
    let first : a < 2 ^ 8 = fit 0 in
    let second : b < 2 ^ 8 = fit 1 in
    let third : d < 2 ^ 8 = fit 2 in
    let fourth : e < 2 ^ 8 = fit 3 in
    let sum : ℕ = a * 16777216 + (b * 65536 + (d * 256 + (e * 1 + 0))) in
    let highest : sum / 16777216 % 256 ≡ a = omega arith in
    let high : sum / 65536 % 256 ≡ b = omega arith in
    let low : sum / 256 % 256 ≡ d = omega arith in
    let lowest : sum % 256 ≡ e = omega arith in
    rw (highest, high, low, lowest) refl

-- the bytes that have a request's fields at their places are its text and its MAC
pub text_at : (bytes rest : List ℕ) (request : Request) (digits : ℕ) → length bytes ≡ 35 + digits
    → get_or bytes 14 0 ≡ digits
    → serial_bytes request.ksn ≡ take 10 (drop 4 bytes)
    → request.pan ≡ take digits (drop 15 bytes)
    → rest ≡ drop digits (drop 15 bytes)
    → big_bytes 4 request.amount ≡ take 4 rest
    → request.block ≡ take 8 (drop 4 rest)
    → request.mac ≡ drop 12 rest
    → 1 ∷ 1 ∷ drop 4 bytes ≡ request_text request.ksn request.pan request.amount request.block ++ request.mac
unfolding after_serial
text_at bytes rest request digits size digits_are serial pan following amount block mac =
    let serial_is : List ℕ = serial_bytes request.ksn in
    let amount_is : List ℕ = big_bytes 4 request.amount in
    let room : digits ≤ length (drop 15 bytes) = omega (arith, length-drop 15 bytes) in
    let count : length request.pan ≡ digits = ap length pan ∙ length-take-le digits (drop 15 bytes) room in
    let last : request.block ++ request.mac ≡ drop 4 rest =
    ap (λ front. front ++ request.mac) block
    ∙ ap (λ back. take 8 (drop 4 rest) ++ back) (mac ∙ sym (drop-drop 8 4 rest))
    ∙ take-append-drop 8 (drop 4 rest) in
    let numbers : amount_is ++ (request.block ++ request.mac) ≡ rest =
    ap (λ back. amount_is ++ back) last ∙ ap (λ front. front ++ drop 4 rest) amount ∙ take-append-drop 4 rest in
    let card : request.pan ++ (amount_is ++ (request.block ++ request.mac)) ≡ drop 15 bytes =
    ap (λ back. request.pan ++ back) (numbers ∙ following)
    ∙ ap (λ front. front ++ drop digits (drop 15 bytes)) pan
    ∙ take-append-drop digits (drop 15 bytes) in
    let within : 14 < length bytes = omega arith in
    let counted : length request.pan ∷ drop 15 bytes ≡ drop 14 bytes =
    ap (λ n. n ∷ drop 15 bytes) (count ∙ sym digits_are) ∙ sym (drop-cons bytes 14 0 within) in
    ap (λ fields. 1 ∷ 1 ∷ fields) (sym (
    in_turn request serial_is
    ∙ ap (λ back. serial_is ++ (length request.pan ∷ back)) card
    ∙ ap (λ back. serial_is ++ back) counted
    ∙ ap (λ front. front ++ drop 14 bytes) serial
    ∙ ap (λ back. take 10 (drop 4 bytes) ++ back) (sym (drop-drop 10 4 bytes))
    ∙ take-append-drop 10 (drop 4 bytes)
    ))

-- the frame of a request is short, and of kind 1
pub kind_of_request : (bytes : List ℕ) (request : Request) → ((serial : Serial) → length (serial_bytes serial) ≡ 10)
    → IsRequest bytes request → HasKind bytes 1
kind_of_request bytes request ten is =
    let places = request_places bytes request ten is in
    let most : length request.pan ≤ 19 = is.fields.pan_is.length.at_most in
    kind_of_frame bytes _ 1 is.laid_out (omega (arith, places.size, most))
