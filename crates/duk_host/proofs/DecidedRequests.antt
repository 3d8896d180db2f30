-- Whether bytes are a request, a counter is usable, and a block is that of a PIN.
use Rattle.std.proofs.Common.{◌≡◌, ◌≤◌, ◌<◌, ◌%◌, ◌^◌, ℕ, List, length, All, inl, inr, refl, arith}
use Rattle.std.specs.Char.{IsAsciiDigit}
use Rattle.std.proofs.lemmas.List.Elements.{All-weaker}
use Rattle.duk_frame.specs.Request.{AreRequestFields, IsRequest, request_bytes}
use Rattle.duk_frame.specs.declared.request.Request.{Request}
use Rattle.duk_pin.specs.Nibbles.{nibbles, xor_nibbles}
use Rattle.duk_pin.specs.Pan.{IsPan}
use Rattle.duk_pin.specs.Pin.{IsPin}
use Rattle.duk_pin.specs.PinBlock.{IsPinBlock, account_field, pin_field}
use Rattle.duk_tree.specs.Path.{IsPath, IsUsable, path_of, value_of}
use Rattle.duk_tree.specs.Serial.{IsSerial, Serial}
use Rattle.duk_host.proofs.Decided.{Below, Decided, ListOf, at_most, below, both, each_of, equal, less, like, lists, same_list, short_lists}

-- ---- the parts of a request

is_digit : (digit : ℕ) → Decided (IsAsciiDigit digit)
is_digit digit = both (at_most 48 digit) (at_most digit 57)

is_serial : (serial : Serial) → Decided (IsSerial serial)
is_serial serial =
    like (λ all. record { iksn_is = record { counter_is_zero = all.0.0; fits = all.0.1 }; counter_fits = all.1 }) (λ is. ((is.iksn_is.counter_is_zero, is.iksn_is.fits), is.counter_fits))
    (both (both (equal (serial.iksn % 2 ^ 21) 0) (less serial.iksn (2 ^ 80))) (less serial.counter (2 ^ 21)))

is_pan : (text : List ℕ) → Decided (IsPan text)
is_pan text =
    like (λ all. record { length = record { at_least = all.0.0; at_most = all.0.1 }; digits = all.1 }) (λ is. ((is.length.at_least, is.length.at_most), is.digits))
    (both (both (at_most 12 (length text)) (at_most (length text) 19)) (each_of IsAsciiDigit is_digit text))

is_pin : (text : List ℕ) → Decided (IsPin text)
is_pin text =
    like (λ all. record { length = record { at_least = all.0.0; at_most = all.0.1 }; digits = all.1 }) (λ is. ((is.length.at_least, is.length.at_most), is.digits))
    (both (both (at_most 4 (length text)) (at_most (length text) 12)) (each_of IsAsciiDigit is_digit text))

are_eight_bytes : (bytes : List ℕ) → Decided ((length bytes ≡ 8) × All (λ byte. byte < 2 ^ 8) bytes)
are_eight_bytes bytes = both (equal (length bytes) 8) (each_of (λ byte. byte < 2 ^ 8) (λ byte. less byte (2 ^ 8)) bytes)

are_fields : (request : Request) → Decided (AreRequestFields request)
are_fields request =
    like
    (λ all. record {
      ksn_is = all.0.0;
      pan_is = all.0.1;
      amount_fits = all.1.0;
      block_is = record { eight = all.1.1.0.0; bytes_fit = all.1.1.0.1 };
      mac_is = record { eight = all.1.1.1.0; bytes_fit = all.1.1.1.1 };
    })
    (λ is. ((is.ksn_is, is.pan_is), (is.amount_fits, ((is.block_is.eight, is.block_is.bytes_fit), (is.mac_is.eight, is.mac_is.bytes_fit)))))
    (both (both (is_serial request.ksn) (is_pan request.pan)) (both (less request.amount (2 ^ 32)) (both (are_eight_bytes request.block) (are_eight_bytes request.mac))))

is_request : (bytes : List ℕ) (request : Request) → Decided (IsRequest bytes request)
is_request bytes request = like (λ all. record { fields = all.0; laid_out = all.1 }) (λ is. (is.fields, is.laid_out)) (both (are_fields request) (same_list bytes (request_bytes request)))

-- ---- a request among all that there can be

small_digits : (text : List ℕ) → All IsAsciiDigit text → All (λ digit. digit < 58) text
small_digits text digits = All-weaker IsAsciiDigit (λ digit. digit < 58) (λ digit is. omega (arith, is.1)) text digits

module _ (bytes : List ℕ) where
  abbrev request_with : ℕ → ℕ → List ℕ → ℕ → List ℕ → List ℕ → Request
  request_with iksn counter pan amount block mac = record { ksn = record { iksn = iksn; counter = counter }; pan = pan; amount = amount; block = block; mac = mac }

  abbrev WithMac : ℕ → ℕ → List ℕ → ℕ → List ℕ → Type 0
  WithMac iksn counter pan amount block = ListOf (2 ^ 8) 8 (λ mac. IsRequest bytes (request_with iksn counter pan amount block mac))

  abbrev WithBlock : ℕ → ℕ → List ℕ → ℕ → Type 0
  WithBlock iksn counter pan amount = ListOf (2 ^ 8) 8 (λ block. WithMac iksn counter pan amount block)

  abbrev WithAmount : ℕ → ℕ → List ℕ → Type 0
  WithAmount iksn counter pan = Below (2 ^ 32) (λ amount. WithBlock iksn counter pan amount)

  abbrev WithPan : ℕ → ℕ → Type 0
  WithPan iksn counter = Below 20 (λ count. ListOf 58 count (λ pan. WithAmount iksn counter pan))

  abbrev WithCounter : ℕ → Type 0
  WithCounter iksn = Below (2 ^ 21) (λ counter. WithPan iksn counter)

  abbrev Found : Type 0
  Found = Below (2 ^ 80) (λ iksn. WithCounter iksn)

  with_block : (iksn counter : ℕ) (pan : List ℕ) (amount : ℕ) → Decided (WithBlock iksn counter pan amount)
  with_block iksn counter pan amount =
      lists (2 ^ 8) 8 (λ block. WithMac iksn counter pan amount block)
      (λ block. lists (2 ^ 8) 8 (λ mac. IsRequest bytes (request_with iksn counter pan amount block mac)) (λ mac. is_request bytes (request_with iksn counter pan amount block mac)))

  with_amount : (iksn counter : ℕ) (pan : List ℕ) → Decided (WithAmount iksn counter pan)
  with_amount iksn counter pan = below (λ amount. WithBlock iksn counter pan amount) (λ amount. with_block iksn counter pan amount) (2 ^ 32)

  with_pan : (iksn counter : ℕ) → Decided (WithPan iksn counter)
  with_pan iksn counter = short_lists 58 20 (λ pan. WithAmount iksn counter pan) (λ pan. with_amount iksn counter pan)

  with_counter : (iksn : ℕ) → Decided (WithCounter iksn)
  with_counter iksn = below (λ counter. WithPan iksn counter) (λ counter. with_pan iksn counter) (2 ^ 21)

  found : Decided Found
  found = below (λ iksn. WithCounter iksn) (λ iksn. with_counter iksn) (2 ^ 80)

  the_request : Found → (request : Request) × IsRequest bytes request
  the_request at =
      let pan = at.holds.holds.holds in
      let amount = pan.holds in
      let block = amount.holds in
      let mac = block.holds in
      (request_with at.number at.holds.number pan.list amount.number block.list mac.list, mac.holds)

  finds : (request : Request) → IsRequest bytes request → Found
  finds request is =
      let fields = is.fields in
      let digits : length request.pan < 20 = omega (arith, fields.pan_is.length.at_most) in
      record {
        number = request.ksn.iksn;
        below = fields.ksn_is.iksn_is.fits;
        holds = record {
          number = request.ksn.counter;
          below = fields.ksn_is.counter_fits;
          holds = record {
            number = length request.pan;
            below = digits;
            holds = record {
              list = request.pan;
              counted = refl;
              each = small_digits request.pan fields.pan_is.digits;
              holds = record {
                number = request.amount;
                below = fields.amount_fits;
                holds = record {
                  list = request.block;
                  counted = fields.block_is.eight;
                  each = fields.block_is.bytes_fit;
                  holds = record { list = request.mac; counted = fields.mac_is.eight; each = fields.mac_is.bytes_fit; holds = is };
                };
              };
            };
          };
        };
      }

  -- the bytes are a request, or are none
  pub some_request : Decided ((request : Request) × IsRequest bytes request)
  some_request = like the_request (λ some. finds some.0 some.1) found

-- ---- a usable counter

-- what is known of paths
pub record PathLaws : Type 0 where
  pub path : (counter : ℕ) → counter < 2 ^ 21 → IsPath (path_of counter)
  pub value : (counter : ℕ) → counter < 2 ^ 21 → value_of (path_of counter) ≡ counter
  pub usable : (counter : ℕ) → IsUsable counter → (counter < 2 ^ 21) × (1 ≤ length (path_of counter)) × (length (path_of counter) ≤ 10)

pub is_usable : PathLaws → (counter : ℕ) → Decided (IsUsable counter)
is_usable laws counter = elim (both (less counter (2 ^ 21)) (both (at_most 1 (length (path_of counter))) (at_most (length (path_of counter)) 10))) [
  | inl all ↦ inl (record {
    path = path_of counter;
    path_is = laws.path counter all.0;
    value_is = laws.value counter all.0;
    not_the_root = all.1.0;
    ten_ones_at_most = all.1.1;
  })
  | inr not ↦ inr (λ is. let all = laws.usable counter is in not (all.0, (all.1, all.2)))
]

-- ---- a PIN

is_pin_block : (pin pan block : List ℕ) → Decided (IsPinBlock pin pan block)
is_pin_block pin pan block =
    like (λ all. record { is_pin = all.0.0; is_pan = all.0.1; xor = all.1 }) (λ is. ((is.is_pin, is.is_pan), is.xor))
    (both (both (is_pin pin) (is_pan pan)) (same_list (nibbles block) (xor_nibbles (pin_field pin) (account_field pan))))

-- under a PAN a block is that of some PIN, or of none
pub some_pin : (pan block : List ℕ) → Decided ((pin : List ℕ) × IsPinBlock pin pan block)
some_pin pan block =
    like (λ found. (found.holds.list, found.holds.holds))
    (λ some.
    let is = some.1.is_pin in
    let digits : length some.0 < 13 = omega (arith, is.length.at_most) in
    record { number = length some.0; below = digits; holds = record { list = some.0; counted = refl; each = small_digits some.0 is.digits; holds = some.1 } })
    (short_lists 58 13 (λ pin. IsPinBlock pin pan block) (λ pin. is_pin_block pin pan block))
