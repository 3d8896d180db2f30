-- Key serial numbers (ANSI X9.24-1:2009 annex A): 80 bits, 59 of them the initial key serial
-- number, and the low 21 a counter. Their texts are this project's own.
use Rattle.std.specs.Prelude.{◌≡◌, ◌<◌, ◌+◌, ◌*◌, ◌/◌, ◌%◌, ◌^◌, ◌==◌, ℕ, List, Option, Some, None, take, drop, if◌then◌else◌}
use Rattle.std.specs.Option.{option_map, option_and_then}
use Rattle.std.specs.Result.{result_ok}
use Rattle.byteorder.specs.Endian.{big_bytes, big_number}
use Rattle.hex.specs.Hex.{decode_sized}

-- a key serial number: the initial key serial number, as the number that it is with counter zero,
-- and the counter
pub record Serial : Type 0 where
  pub iksn : ℕ
  pub counter : ℕ

-- an initial key serial number has 80 bits, of which the 21 of the counter are zero
pub record IsIksn (iksn : ℕ) : Type 0 where
  pub counter_is_zero : iksn % 2 ^ 21 ≡ 0
  pub fits : iksn < 2 ^ 80

-- a key serial number has a counter of 21 bits
pub record IsSerial (serial : Serial) : Type 0 where
  pub iksn_is : IsIksn serial.iksn
  pub counter_fits : serial.counter < 2 ^ 21

-- the number of 80 bits that a key serial number is
abbrev pub serial_number : Serial → ℕ
serial_number serial = serial.iksn + serial.counter

-- the ten bytes of a key serial number, the highest first
unfoldable pub serial_bytes : Serial → List ℕ
serial_bytes serial = big_bytes 10 (serial.iksn + serial.counter)

-- the key serial number of ten bytes
unfoldable pub serial_of_bytes : List ℕ → Serial
serial_of_bytes bytes =
    let number = big_number 10 bytes in
    record { iksn = number / 2 ^ 21 * 2 ^ 21; counter = number % 2 ^ 21 }

-- an initial key serial number is written as the key serial number with counter zero
abbrev pub iksn_bytes : ℕ → List ℕ
iksn_bytes iksn = serial_bytes (record { iksn = iksn; counter = 0 })

-- the low 64 bits of a key serial number, which the key generation process starts from
abbrev pub low_bytes : Serial → List ℕ
low_bytes serial = take 8 (drop 2 (serial_bytes serial))

-- the prefix of a key serial number, by which a host finds its base derivation key: the first five
-- of its ten bytes
abbrev pub prefix_of : Serial → List ℕ
prefix_of serial = take 5 (serial_bytes serial)

-- the prefix of an initial key serial number: that of the key serial number with counter zero
abbrev pub iksn_prefix_of : ℕ → List ℕ
iksn_prefix_of iksn = take 5 (iksn_bytes iksn)

-- the key serial number that a text of twenty hexadecimal digits, of either case, spells
abbrev pub ksn_of_text : List ℕ → Option Serial
ksn_of_text text = option_map serial_of_bytes (result_ok (decode_sized text 10))

-- the initial key serial number that such a text spells, where the counter in it is zero
abbrev pub iksn_of_text : List ℕ → Option ℕ
iksn_of_text text =
    option_and_then (λ serial. if serial.counter == 0 then Some serial.iksn else None)
    (ksn_of_text text)
