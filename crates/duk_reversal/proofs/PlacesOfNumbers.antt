-- Where the numbers of a reversal stand in a frame.
use Rattle.std.proofs.Common.{◌≡◌, ◌≤◌, ℕ, ◌+◌, ◌-◌, List, [], ◌∷◌, ◌++◌, length, take, drop, get_or, refl, sym, ap, ◌∙◌, arith, length-append, append_assoc, drop-drop, Option, Some, None, IsSome, IfSome}
use Rattle.std.proofs.lemmas.Bool.{false≢true}
use Rattle.std.proofs.lemmas.List.{append_cancel_left, drop_at, get_or-drop, take_at}
use Rattle.std.proofs.Math.Seq.{take-add}
use Rattle.byteorder.specs.Endian.{big_bytes}
use Rattle.duk_frame.specs.Frame.{framed, mac_text_of}
use Rattle.duk_tree.specs.Serial.{Serial, IsSerial, serial_bytes, serial_of_bytes}
use Rattle.duk_reversal.specs.Numbers.{AreNumbers, Numbers, number_bytes}
use Rattle.duk_reversal.specs.Reply.{IsReversalReply, reversal_reply_bytes, reversal_reply_text}
use Rattle.duk_reversal.specs.Reversal.{IsReversal, reversal_bytes, reversal_text}
use Rattle.duk_reversal.specs.State.{state_byte}
use Rattle.duk_reversal.specs.declared.reply.ReversalReply.{ReversalReply}
use Rattle.duk_reversal.specs.declared.reversal.Reversal.{Reversal}

-- ---- key serial numbers

-- what is known of them
pub record SerialLaws : Type 0 where
  pub ten : (serial : Serial) → length (serial_bytes serial) ≡ 10
  pub found : (serial : Serial) → IsSerial serial → serial_of_bytes (serial_bytes serial) ≡ serial

pub number_bytes_are_20 : SerialLaws → (numbers : Numbers) → length (number_bytes numbers) ≡ 20
number_bytes_are_20 laws numbers =
    omega (arith, length-append (serial_bytes numbers.ksn) (serial_bytes numbers.reversed), laws.ten numbers.ksn, laws.ten numbers.reversed)

-- numbers of the same bytes are the same
pub same_numbers : SerialLaws → (one other : Numbers) → IsSerial one.ksn → IsSerial one.reversed → AreNumbers other → number_bytes one ≡ number_bytes other → one ≡ other
same_numbers laws one other ksn_is reversed_is others same =
    let ksn : serial_bytes one.ksn ≡ serial_bytes other.ksn =
    sym (take_at (serial_bytes one.ksn) (serial_bytes one.reversed) 10 (laws.ten one.ksn))
    ∙ ap (take 10) same
    ∙ take_at (serial_bytes other.ksn) (serial_bytes other.reversed) 10 (laws.ten other.ksn) in
    let reversed : serial_bytes one.reversed ≡ serial_bytes other.reversed =
    sym (drop_at (serial_bytes one.ksn) (serial_bytes one.reversed) 10 (laws.ten one.ksn))
    ∙ ap (drop 10) same
    ∙ drop_at (serial_bytes other.ksn) (serial_bytes other.reversed) 10 (laws.ten other.ksn) in
    let serial : (a b : Serial) → IsSerial a → IsSerial b → serial_bytes a ≡ serial_bytes b → a ≡ b =
    λ a b is_a is_b equal. sym (laws.found a is_a) ∙ ap serial_of_bytes equal ∙ laws.found b is_b in
    ap (λ ksn. record { ksn = ksn; reversed = one.reversed }) (serial one.ksn other.ksn ksn_is others.ksn_is ksn)
    ∙ ap (λ reversed. record { ksn = other.ksn; reversed = reversed }) (serial one.reversed other.reversed reversed_is others.reversed_is reversed)

-- the two places of ten bytes are one of twenty
pub two_tens : (bytes : List ℕ) → take 10 (drop 4 bytes) ++ take 10 (drop 14 bytes) ≡ take 20 (drop 4 bytes)
two_tens bytes =
    ap (λ back. take 10 (drop 4 bytes) ++ take 10 back) (sym (drop-drop 10 4 bytes)) ∙ sym (take-add 10 10 (drop 4 bytes))

-- numbers that are there, and are these, are found
pub some_of : (found : Option Numbers) (numbers : Numbers) → IsSome found → IfSome found (λ read. read ≡ numbers) → found ≡ Some numbers
some_of None numbers is_some are = absurd (false≢true is_some)
some_of (Some read) numbers is_some are = ap Some are

-- ---- frames

-- a frame whose contents have this length
frame_of_size : (contents : List ℕ) (n : ℕ) → length contents ≡ n → framed contents ≡ big_bytes 2 n ++ contents
frame_of_size contents n size = ap (λ k. big_bytes 2 k ++ contents) size

-- what stands in a frame with numbers: these, and the rest
pub record Places (bytes numbers rest : List ℕ) : Type 0 where
  pub size : length bytes ≡ 24 + length rest
  pub numbers_are : take 20 (drop 4 bytes) ≡ numbers
  pub rest_is : drop 24 bytes ≡ rest

places_in : (bytes numbers rest : List ℕ) (size kind : ℕ) → length numbers ≡ 20
    → bytes ≡ 0 ∷ size ∷ 1 ∷ kind ∷ (numbers ++ rest) → Places bytes numbers rest
places_in bytes numbers rest size kind twenty laid = record {
  size = omega (arith, ap length laid, length-append numbers rest, twenty);
  numbers_are = ap (λ b. take 20 (drop 4 b)) laid ∙ take_at numbers rest 20 twenty;
  rest_is = ap (drop 24) laid ∙ drop_at numbers rest 20 twenty;
}

-- what stands between the length and the MAC
pub text_of_frame : (bytes text mac : List ℕ) → length mac ≡ 8 → bytes ≡ framed (text ++ mac) → (10 ≤ length bytes) × (mac_text_of bytes ≡ text)
text_of_frame bytes text mac eight laid =
    let whole : length (text ++ mac) ≡ length text + length mac = length-append text mac in
    let size : length (framed (text ++ mac)) - 10 ≡ length text = omega (arith, whole, eight) in (
      omega (arith, ap length laid, whole, eight),
      ap mac_text_of laid ∙ ap (λ n. take n (text ++ mac)) size ∙ take_at text mac (length text) refl,
    )

-- frames of one text with one MAC each are the same where the MACs are
pub same_mac : (text mac other : List ℕ) → framed (text ++ mac) ≡ framed (text ++ other) → mac ≡ other
same_mac text mac other same = append_cancel_left text mac other (ap (drop 2) same)

-- ---- reversals

-- the frame of a reversal, part by part
laid_reversal : SerialLaws → (reversal : Reversal) → length reversal.mac ≡ 8
    → reversal_bytes reversal ≡ 0 ∷ 30 ∷ 1 ∷ 4 ∷ (number_bytes reversal.numbers ++ reversal.mac)
laid_reversal laws reversal eight =
    let numbers : List ℕ = number_bytes reversal.numbers in
    let twenty : length numbers ≡ 20 = number_bytes_are_20 laws reversal.numbers in
    frame_of_size (reversal_text reversal.numbers ++ reversal.mac) 30
    (omega (arith, length-append numbers reversal.mac, twenty, eight))

pub reversal_places : SerialLaws → (bytes : List ℕ) (reversal : Reversal) → IsReversal bytes reversal
    → Places bytes (number_bytes reversal.numbers) reversal.mac
reversal_places laws bytes reversal is =
    places_in bytes (number_bytes reversal.numbers) reversal.mac 30 4 (number_bytes_are_20 laws reversal.numbers)
    (is.laid_out ∙ laid_reversal laws reversal is.fields.mac_is.eight)

-- ---- replies

-- the frame of a reply, part by part
laid_reply : SerialLaws → (reply : ReversalReply) → length reply.mac ≡ 8
    → reversal_reply_bytes reply ≡ 0 ∷ 31 ∷ 1 ∷ 5 ∷ (number_bytes reply.numbers ++ state_byte reply.state ∷ reply.mac)
laid_reply laws reply eight =
    let numbers : List ℕ = number_bytes reply.numbers in
    let state : List ℕ = state_byte reply.state ∷ [] in
    let twenty : length numbers ≡ 20 = number_bytes_are_20 laws reply.numbers in
    let whole : (numbers ++ state) ++ reply.mac ≡ numbers ++ state_byte reply.state ∷ reply.mac = append_assoc numbers state reply.mac in
    frame_of_size (reversal_reply_text reply.numbers reply.state ++ reply.mac) 31
    (omega (arith, ap length whole, length-append numbers (state_byte reply.state ∷ reply.mac), twenty, eight))
    ∙ ap (λ back. 0 ∷ 31 ∷ 1 ∷ 5 ∷ back) whole

pub reply_places : SerialLaws → (bytes : List ℕ) (reply : ReversalReply) → IsReversalReply bytes reply
    → Places bytes (number_bytes reply.numbers) (state_byte reply.state ∷ reply.mac)
reply_places laws bytes reply is =
    places_in bytes (number_bytes reply.numbers) (state_byte reply.state ∷ reply.mac) 31 5 (number_bytes_are_20 laws reply.numbers)
    (is.laid_out ∙ laid_reply laws reply is.fields.mac_is.eight)

-- the state and the MAC in it
pub state_place : SerialLaws → (bytes : List ℕ) (reply : ReversalReply) → IsReversalReply bytes reply → get_or bytes 24 0 ≡ state_byte reply.state
state_place laws bytes reply is =
    let places = reply_places laws bytes reply is in
    sym (get_or-drop 24 bytes 0 0) ∙ ap (λ rest. get_or rest 0 0) places.rest_is

pub mac_place : SerialLaws → (bytes : List ℕ) (reply : ReversalReply) → IsReversalReply bytes reply → drop 25 bytes ≡ reply.mac
mac_place laws bytes reply is =
    let places = reply_places laws bytes reply is in
    sym (drop-drop 1 24 bytes) ∙ ap (drop 1) places.rest_is
