-- Request frames: a format of this project's own.
use Rattle.std.specs.Prelude.{◌≡◌, ◌<◌, ◌^◌, ℕ, List, ◌∷◌, ◌++◌, length}
use Rattle.byteorder.specs.Endian.{big_bytes}
use Rattle.duk_des.specs.Block.{IsBlock}
use Rattle.duk_pin.specs.Pan.{IsPan}
use Rattle.duk_tree.specs.Serial.{Serial, IsSerial, serial_bytes}
use Rattle.duk_frame.specs.Frame.{framed}
use Rattle.duk_frame.specs.declared.request.Request.{Request}

-- the contents of a request before its MAC: version 1 and kind 1, the key serial number, the PAN's
-- length and its digits, the amount in four bytes, and the enciphered PIN block
abbrev pub request_text : Serial → List ℕ → ℕ → List ℕ → List ℕ
request_text ksn pan amount block =
    1 ∷ 1 ∷ (serial_bytes ksn ++ (length pan ∷ (pan ++ (big_bytes 4 amount ++ block))))

-- the fields of a request are what their names say
pub record AreRequestFields (request : Request) : Type 0 where
  pub ksn_is : IsSerial request.ksn
  pub pan_is : IsPan request.pan
  pub amount_fits : request.amount < 2 ^ 32
  pub block_is : IsBlock request.block
  pub mac_is : IsBlock request.mac

-- the frame of a request
abbrev pub request_bytes : Request → List ℕ
request_bytes request =
    framed (request_text request.ksn request.pan request.amount request.block ++ request.mac)

-- the bytes are the frame of this request
pub record IsRequest (bytes : List ℕ) (request : Request) : Type 0 where
  pub fields : AreRequestFields request
  pub laid_out : bytes ≡ request_bytes request
