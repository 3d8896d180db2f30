-- What the calls over request frames answer: formats of this project's own over ISO 9564-1, ANSI
-- X9.19 and the variants of ANSI X9.24-1:2009 annex A.
use Rattle.std.specs.Prelude.{◌≡◌, ◌≢◌, ◌⊎◌, ◌<◌, ◌≤◌, ◌+◌, ◌/◌, ◌%◌, ℕ, List, [], ◌∷◌, ⊤, Ok, Err, drop, length, slice_index_or, take}
use Rattle.duk_frame.specs.Frame.{mac_text_of}
use Rattle.duk_frame.specs.Payment.{payment_request}
use Rattle.duk_frame.specs.Request.{IsRequest}
use Rattle.duk_frame.specs.Stream.{said_length}
use Rattle.duk_frame.specs.declared.request.Request.{Request}
use Rattle.duk_mac.specs.Retail.{retail_of}
use Rattle.duk_pin.specs.Pan.{IsPan}
use Rattle.duk_pin.specs.Pin.{IsPin}
use Rattle.duk_pin.specs.PinBlock.{IsPinBlock}
use Rattle.duk_tdes.specs.Tdes.{tdes_decrypted}
use Rattle.duk_tree.specs.Derivation.{derived_key_of, pin_key_of, request_key_of}
use Rattle.duk_tree.specs.Path.{IsUsable}
use Rattle.duk_tree.specs.Serial.{serial_bytes, serial_of_bytes}
use Rattle.duk_calls.specs.Answer.{Answer, Buffer, Ends, EndsIfFit, HaveLengths, HaveRoom, Reports, filled, part_at, with_front}
use Rattle.duk_calls.specs.Pins.{IsNoPan, IsNoPin}
use Rattle.duk_calls.specs.declared.fault.Fault.{Fault}
use Rattle.duk_calls.specs.declared.fault.Fault.TheVariants.{Length, Pin, NotAPinBlock, NotARequest, NotUsable, BadMac}

-- a payment: transaction key, key serial number, PAN, PIN and amount
pub record Payment : Type 0 where
  pub key : List ℕ
  pub ksn : List ℕ
  pub pan : List ℕ
  pub pin : List ℕ
  pub amount : ℕ

abbrev pub payment : List ℕ → List ℕ → List ℕ → List ℕ → ℕ → Payment
payment key ksn pan pin amount =
    record { key = key; ksn = ksn; pan = pan; pin = pin; amount = amount }

-- the request of a payment
abbrev pub request_of_payment : Payment → List ℕ
request_of_payment asked =
    payment_request asked.key (serial_of_bytes asked.ksn) asked.pan asked.pin asked.amount

abbrev pub IsPaymentRefused : Type 0 → Payment → Fault → Type 0
IsPaymentRefused Fit asked Length = ¬ Fit
IsPaymentRefused Fit asked (Pin why) =
    Fit × (IsNoPan asked.pan why ⊎ (IsPan asked.pan × IsNoPin asked.pin why))
IsPaymentRefused Fit asked _ = ⊥

-- a transaction key, a key serial number, and room for a frame
abbrev pub FitPayment : Payment → List ℕ → Type 0
FitPayment asked frame =
    HaveLengths (asked.key ∷ asked.ksn ∷ []) (16 ∷ 10 ∷ []) × HaveRoom (frame ∷ []) (64 ∷ [])

abbrev pub PaymentRequestAnswers : Payment → Buffer → Buffer → Answer → Type 0
PaymentRequestAnswers asked old new =
    let Fit = FitPayment asked old.bytes in
    Ends (Fit × IsPan asked.pan × IsPin asked.pin × (new ≡ filled (request_of_payment asked) old))
    (IsPaymentRefused Fit asked) (new ≡ old)

-- the bytes are no request's frame
abbrev pub IsNoRequest : List ℕ → Type 0
IsNoRequest frame = (request : Request) → ¬ IsRequest frame request

-- what a reading of a request writes
pub record RequestParts : Type 0 where
  pub ksn : List ℕ
  pub pan : Buffer
  pub amount : ℕ
  pub block : List ℕ
  pub mac : List ℕ

abbrev pub request_parts : List ℕ → Buffer → ℕ → List ℕ → List ℕ → RequestParts
request_parts ksn pan amount block mac =
    record { ksn = ksn; pan = pan; amount = amount; block = block; mac = mac }

-- these are the fields of the request in a frame
pub record HoldsRequest (frame : List ℕ) (old new : RequestParts) : Type 0 where
  pub request : Request
  pub is_request : IsRequest frame request
  pub ksn_is : new.ksn ≡ with_front (serial_bytes request.ksn) old.ksn
  pub pan_is : new.pan ≡ filled request.pan old.pan
  pub amount_is : new.amount ≡ request.amount
  pub block_is : new.block ≡ with_front request.block old.block
  pub mac_is : new.mac ≡ with_front request.mac old.mac

-- room for the fields of a request
abbrev pub FitRequest : RequestParts → Type 0
FitRequest parts =
    HaveRoom (parts.ksn ∷ parts.pan.bytes ∷ parts.block ∷ parts.mac ∷ [])
    (10 ∷ 19 ∷ 8 ∷ 8 ∷ [])

abbrev pub IsReadRefused : Type 0 → List ℕ → Fault → Type 0
IsReadRefused Fit frame Length = ¬ Fit
IsReadRefused Fit frame NotARequest = Fit × IsNoRequest frame
IsReadRefused Fit frame _ = ⊥

abbrev pub ReadRequestAnswers : List ℕ → RequestParts → RequestParts → Answer → Type 0
ReadRequestAnswers frame old new =
    let Fit = FitRequest old in
    Ends (Fit × HoldsRequest frame old new) (IsReadRefused Fit frame) (new ≡ old)

-- the MAC of a request under a transaction key
abbrev pub request_mac : List ℕ → List ℕ → List ℕ
request_mac key frame = retail_of (request_key_of key) (mac_text_of frame)

-- the frame is a request's, with its MAC under the transaction key
pub record IsAuthenticRequest (key frame : List ℕ) : Type 0 where
  pub request : Request
  pub is_request : IsRequest frame request
  pub mac_is : request.mac ≡ request_mac key frame

-- the frame is a request's, with another MAC
pub record IsForgedRequest (key frame : List ℕ) : Type 0 where
  pub request : Request
  pub is_request : IsRequest frame request
  pub mac_is_other : request.mac ≢ request_mac key frame

abbrev pub IsCheckRefused : Type 0 → List ℕ → List ℕ → Fault → Type 0
IsCheckRefused Fit key frame Length = ¬ Fit
IsCheckRefused Fit key frame NotARequest = Fit × IsNoRequest frame
IsCheckRefused Fit key frame BadMac = Fit × IsForgedRequest key frame
IsCheckRefused Fit key frame _ = ⊥

abbrev pub CheckRequestAnswers : List ℕ → List ℕ → Answer → Type 0
CheckRequestAnswers key frame =
    let Fit = HaveLengths (key ∷ []) (16 ∷ []) in
    Ends (Fit × IsAuthenticRequest key frame) (IsCheckRefused Fit key frame) ⊤

-- the frame with which bytes begin: the two bytes of its length, and as many as these say
abbrev pub front_frame : List ℕ → List ℕ
front_frame bytes = take (2 + said_length bytes) bytes

-- the frame is this request's, and its key serial number numbers a transaction
pub record IsNumbered (frame : List ℕ) (request : Request) : Type 0 where
  pub is_request : IsRequest frame request
  pub usable : IsUsable request.ksn.counter

-- what is told of a frame: that it is a request's, with its MAC under the transaction key of its own
-- key serial number, or the first of its faults
abbrev pub IsVerdict : List ℕ → List ℕ → Answer → Type 0
IsVerdict bdk frame (Ok _) =
    (request : Request) × IsNumbered frame request
    × IsAuthenticRequest (derived_key_of bdk request.ksn) frame
IsVerdict bdk frame (Err NotARequest) = IsNoRequest frame
IsVerdict bdk frame (Err NotUsable) =
    (request : Request) × IsRequest frame request × ¬ IsUsable request.ksn.counter
IsVerdict bdk frame (Err BadMac) =
    (request : Request) × IsNumbered frame request
    × IsForgedRequest (derived_key_of bdk request.ksn) frame
IsVerdict bdk frame (Err _) = ⊥

-- a base derivation key, places of 64 bytes for frames, and room for a result of each
pub record FitChecks (bdk frames results : List ℕ) : Type 0 where
  pub bdk_is : length bdk ≡ 16
  pub whole : length frames % 64 ≡ 0
  pub room : length frames / 64 ≤ length results

-- at the place of each frame stands what is told of it; the bytes behind stay as they were
pub record HoldsVerdicts (bdk frames old new : List ℕ) : Type 0 where
  pub each : (i : ℕ) → i < length frames / 64
      → Reports (slice_index_or new i 0) (IsVerdict bdk (front_frame (part_at 64 frames i)))
  pub behind : drop (length frames / 64) new ≡ drop (length frames / 64) old

abbrev pub CheckRequestsAnswers : List ℕ → List ℕ → List ℕ → List ℕ → Answer → Type 0
CheckRequestsAnswers bdk frames old new =
    EndsIfFit (FitChecks bdk frames old) (HoldsVerdicts bdk frames old new) (new ≡ old)

-- the frame is a request's whose PIN block, deciphered under the transaction key's variant for
-- PINs, is that of this PIN
pub record IsPinOfRequest (key frame pin : List ℕ) : Type 0 where
  pub request : Request
  pub is_request : IsRequest frame request
  pub is_block : IsPinBlock pin request.pan (tdes_decrypted (pin_key_of key) request.block)

-- the buffer holds the PIN of a request
pub record HoldsPinOfRequest (key frame : List ℕ) (old new : Buffer) : Type 0 where
  pub pin : List ℕ
  pub pin_is : IsPinOfRequest key frame pin
  pub written : new ≡ filled pin old

-- the frame is a request's whose PIN block is that of no PIN
pub record HasNoPin (key frame : List ℕ) : Type 0 where
  pub request : Request
  pub is_request : IsRequest frame request
  pub no_pin : (pin : List ℕ)
      → ¬ IsPinBlock pin request.pan (tdes_decrypted (pin_key_of key) request.block)

abbrev pub IsRequestPinRefused : Type 0 → List ℕ → List ℕ → Fault → Type 0
IsRequestPinRefused Fit key frame Length = ¬ Fit
IsRequestPinRefused Fit key frame NotARequest = Fit × IsNoRequest frame
IsRequestPinRefused Fit key frame NotAPinBlock = Fit × HasNoPin key frame
IsRequestPinRefused Fit key frame _ = ⊥

abbrev pub RequestPinAnswers : List ℕ → List ℕ → Buffer → Buffer → Answer → Type 0
RequestPinAnswers key frame old new =
    let Fit = HaveLengths (key ∷ []) (16 ∷ []) × HaveRoom (old.bytes ∷ []) (12 ∷ []) in
    Ends (Fit × HoldsPinOfRequest key frame old new) (IsRequestPinRefused Fit key frame)
    (new ≡ old)
