use Rattle.std.proofs.Common.{◌≡◌, ℕ, ◌+◌, ◌<◌, ◌≤◌, ◌^◌, Some, length, take, drop, get_or, ap, sym, ◌∙◌, subst, arith}
use Rattle.std.proofs.lemmas.List.{take_rest, get_or-drop, length-drop}
use Rattle.byteorder.specs.Endian.{big_bytes, big_number}
use Rattle.duk_pin.specs.Pan.{IsPan}
use Rattle.duk_tree.specs.Serial.{serial_of_bytes}
use Rattle.duk_frame.proofs.PlacesOfRequests.{request_places, amount_at, block_at, mac_at, same_request, four_bytes, text_at}
use Rattle.duk_frame.proofs.request.fields_at_their_places.Goals as goal

pub returns-in_err-read_pan-clause-every : goal.returns-in_err-read_pan-clause-every
returns-in_err-read_pan-clause-every c = λ request is.
    let bytes = c.args.bytes.now in
    let places = request_places bytes request c.serials.ensures.ten is in
    let n : c.from-digits.result ≡ length request.pan = c.from-digits.ensures ∙ places.digits in
    let pan : c.split_at.result.0.now ≡ request.pan =
    c.split_at.ensures.front ∙ ap (take c.from-digits.result) (take_rest bytes 15) ∙ ap (λ k. take k (drop 15 bytes)) n ∙ places.pan in
    let wrong = c.in_err-read_pan.ensures.every (subst IsPan (sym pan) is.fields.pan_is) in
    cc

pub returns-clause-every : goal.returns-clause-every
returns-clause-every c = λ request is.
    let bytes = c.args.bytes.now in
    let places = request_places bytes request c.serials.ensures.ten is in
    let n : c.from-digits.result ≡ length request.pan = c.from-digits.ensures ∙ places.digits in
    let pan : c.split_at.result.0.now ≡ request.pan =
    c.split_at.ensures.front ∙ ap (take c.from-digits.result) (take_rest bytes 15) ∙ ap (λ k. take k (drop 15 bytes)) n ∙ places.pan in
    let rest : c.split_at.result.1.now ≡ drop (length request.pan) (drop 15 bytes) =
    c.split_at.ensures.back ∙ ap (drop c.from-digits.result) (take_rest bytes 15) ∙ ap (λ k. drop k (drop 15 bytes)) n in
    let serial : c.from_bytes.result ≡ request.ksn =
    c.from_bytes.ensures.value
    ∙ ap serial_of_bytes (c.array_of.ensures.bytes ∙ places.serial)
    ∙ c.serials.ensures.found request.ksn is.fields.ksn_is in
    let amount : c.read_u32.result ≡ request.amount = c.read_u32.ensures ∙ ap (big_number 4) rest ∙ amount_at bytes request is places in
    let block : c.array_of-2.result ≡ request.block = c.array_of-2.ensures.bytes ∙ ap (λ xs. take 8 (drop 4 xs)) rest ∙ block_at bytes request is places in
    let mac : c.array_of-3.result ≡ request.mac = c.array_of-3.ensures.bytes ∙ take_rest c.split_at.result.1.now 12 ∙ ap (drop 12) rest ∙ mac_at bytes request is places in
    ap Some (same_request _ request serial (c.in_ok-read_pan.ensures.found ∙ pan) amount block mac)

pub returns-clause-text : goal.returns-clause-text
returns-clause-text c =
    let bytes = c.args.bytes.now in
    let digits = c.from-digits.result in
    let rest = c.split_at.result.1.now in
    let size : length bytes ≡ 35 + digits = omega arith in
    let following : rest ≡ drop digits (drop 15 bytes) = c.split_at.ensures.back ∙ ap (drop digits) (take_rest bytes 15) in
    let fit : (i : ℕ) → get_or rest i 0 < 2 ^ 8 = λ i.
    let at : get_or rest i 0 ≡ get_or bytes (15 + (digits + i)) 0 =
    ap (λ xs. get_or xs i 0) following ∙ get_or-drop digits (drop 15 bytes) i 0 ∙ get_or-drop 15 bytes (digits + i) 0 in
    let byte = c.type_inv.bytes (15 + (digits + i)) in
    omega arith in
    let least : 4 ≤ length rest = omega (arith, ap length following, length-drop digits (drop 15 bytes), length-drop 15 bytes) in
    text_at bytes rest
    (record {
      ksn = c.from_bytes.result;
      pan = c.in_ok-read_pan.field-0;
      amount = c.read_u32.result;
      block = c.array_of-2.result;
      mac = c.array_of-3.result;
    })
    digits size (sym c.from-digits.ensures)
    (c.from_bytes.ensures.bytes ∙ c.array_of.ensures.bytes)
    (c.in_ok-read_pan.ensures.found ∙ c.split_at.ensures.front ∙ ap (take digits) (take_rest bytes 15))
    following
    (ap (big_bytes 4) c.read_u32.ensures ∙ four_bytes rest least fit)
    c.array_of-2.ensures.bytes
    (c.array_of-3.ensures.bytes ∙ take_rest rest 12)
