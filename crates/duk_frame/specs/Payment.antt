-- The frames of a payment under its transaction key: formats of this project's own over ISO 9564-1,
-- ANSI X9.19 and the variants of ANSI X9.24-1:2009 annex A.
use Rattle.std.specs.Prelude.{ℕ, List, ◌++◌}
use Rattle.duk_mac.specs.Retail.{retail_of}
use Rattle.duk_pin.specs.PinBlock.{pin_block}
use Rattle.duk_tdes.specs.Tdes.{tdes_encrypted}
use Rattle.duk_tree.specs.Derivation.{pin_key_of, request_key_of, response_key_of}
use Rattle.duk_tree.specs.Serial.{Serial}
use Rattle.duk_frame.specs.Answer.{reply_text}
use Rattle.duk_frame.specs.Frame.{framed}
use Rattle.duk_frame.specs.Request.{request_text}
use Rattle.duk_frame.specs.declared.code.Code.{Code}
use Rattle.duk_frame.specs.declared.request.Request.{Request}

-- a frame with the retail MAC of its contents under a key
abbrev pub authenticated : List ℕ → List ℕ → List ℕ
authenticated key text = framed (text ++ retail_of key text)

-- the PIN block of a PIN and a PAN, enciphered under the transaction key's variant for PINs
abbrev pub enciphered_pin : List ℕ → List ℕ → List ℕ → List ℕ
enciphered_pin key pin pan = tdes_encrypted (pin_key_of key) (pin_block pin pan)

-- the request of a payment under its transaction key: PAN, PIN and amount, with a MAC under the
-- key's variant for requests
abbrev pub payment_request : List ℕ → Serial → List ℕ → List ℕ → ℕ → List ℕ
payment_request key ksn pan pin amount =
    authenticated (request_key_of key) (request_text ksn pan amount (enciphered_pin key pin pan))

-- the fields of that request
abbrev pub request_of : List ℕ → Serial → List ℕ → List ℕ → ℕ → Request
request_of key ksn pan pin amount =
    let block = enciphered_pin key pin pan in
    record {
      ksn = ksn;
      pan = pan;
      amount = amount;
      block = block;
      mac = retail_of (request_key_of key) (request_text ksn pan amount block);
    }

-- the MAC of an accepted reply under the transaction key's variant for responses
abbrev pub reply_mac : List ℕ → Serial → Code → List ℕ
reply_mac key ksn code = retail_of (response_key_of key) (reply_text ksn code)

-- the accepted reply of a payment under its transaction key, with that MAC
abbrev pub payment_reply : List ℕ → Serial → Code → List ℕ
payment_reply key ksn code = authenticated (response_key_of key) (reply_text ksn code)
