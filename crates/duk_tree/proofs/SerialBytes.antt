-- The ten bytes of a key serial number, there and back.
use Rattle.std.proofs.Common.{◌≡◌, ℕ, zero, suc, ◌+◌, ◌-◌, ◌*◌, ◌/◌, ◌%◌, ◌^◌, ◌<◌, ◌≤◌, List, [], ◌∷◌, length, get_or, refl, sym, ap, ◌∙◌, arith}
use Rattle.std.proofs.Math.Nat.{mul_assoc, one-le-pow, pow-succ', mul-add-div_right, mul-add-mod_self_right, mod-eq_of_lt, mod-lt, div-one}
use Rattle.std.proofs.lemmas.Nat.{pow-add, div-mul-add, div-add-mod'}
use Rattle.std.proofs.lemmas.List.Elements.{All-nil, All-cons, All-tail, All-head}
use Rattle.std.proofs.lemmas.List.{get_or_past}
use Rattle.std.proofs.lemmas.Bool.{cases_lt}
use Rattle.std.proofs.Common.{inl, inr}
use Rattle.std.specs.List.{All}
use Rattle.std.specs.Int.{byte_at, bytes_high_first}
use Rattle.byteorder.specs.Endian.{big_from, big_number}
use Rattle.byteorder.specs.Numbers.{big_from-cons, length-bytes_high_first, big_number-reads_back, big_from-lt}
use Rattle.duk_tree.specs.Serial.{Serial, IsSerial, serial_bytes, serial_of_bytes}

byte_at-pow : (k number : ℕ) → byte_at k number ≡ number / 256 ^ k % 256
byte_at-pow zero number = ap (λ n. n % 256) (sym (div-one number))
byte_at-pow (suc k) number = refl

power_of_bytes : (k : ℕ) → zero < 256 ^ k
power_of_bytes k = let some = one-le-pow k 256 (omega arith) in omega arith

-- what stands above a byte does not change it
byte_at-below : (k m high low : ℕ) → k < m → byte_at k (high * 256 ^ m + low) ≡ byte_at k low
byte_at-below k m high low below =
    let d = m - suc k in
    let split : m ≡ d + suc k = omega arith in
    let power : high * 256 ^ m ≡ high * 256 ^ d * 256 * 256 ^ k =
    ap (λ n. high * 256 ^ n) split ∙ ap (λ n. high * n) (pow-add 256 d (suc k) ∙ ap (λ n. 256 ^ d * n) (pow-succ' 256 k))
    ∙ sym (mul_assoc high (256 ^ d) (256 * 256 ^ k))
    ∙ sym (mul_assoc (high * 256 ^ d) 256 (256 ^ k)) in
    rw (byte_at-pow k (high * 256 ^ m + low), byte_at-pow k low, power, mul-add-div_right (power_of_bytes k) (high * 256 ^ d * 256) (low)) (mul-add-mod_self_right (high * 256 ^ d) 256 (low / 256 ^ k))

bytes_below : (n m high low : ℕ) → n ≤ m → bytes_high_first n (high * 256 ^ m + low) ≡ bytes_high_first n low
bytes_below zero m high low within = refl
bytes_below (suc n) m high low within =
    rw (byte_at-below n m high low (omega arith), bytes_below n m high low (omega arith)) refl

each_fits : (bytes : List ℕ) → All (λ byte. byte < 2 ^ 8) bytes → (k : ℕ) → get_or bytes k 0 < 256
each_fits bytes fit k =
    elim (cases_lt k (length bytes)) [
      | inl within ↦ fit k 0 within
      | inr past ↦ rw (get_or_past bytes k 0 past) (omega arith)
    ]

-- bytes are those of the number that they spell
bytes_of_number : (bytes : List ℕ) → All (λ byte. byte < 2 ^ 8) bytes → bytes_high_first (length bytes) (big_from 0 (length bytes) bytes) ≡ bytes
bytes_of_number [] fit = refl
bytes_of_number (byte ∷ bytes) fit =
    let n = length bytes in
    let rest = big_from 0 n bytes in
    let others = All-tail (λ byte. byte < 2 ^ 8) byte bytes fit in
    let first : byte < 256 = All-head (λ byte. byte < 2 ^ 8) byte bytes fit in
    let low : rest < 256 ^ n = big_from-lt 0 n bytes (each_fits bytes others) in
    let top : byte_at n (byte * 256 ^ n + rest) ≡ byte =
    byte_at-pow n (byte * 256 ^ n + rest) ∙ ap (λ high. high % 256) (div-mul-add byte (256 ^ n) rest low) ∙ mod-eq_of_lt first in
    let below : bytes_high_first n (byte * 256 ^ n + rest) ≡ bytes = bytes_below n n byte rest (omega arith) ∙ bytes_of_number bytes others in
    rw (big_from-cons 0 n byte bytes, top, below) refl

bytes_fit : (n number : ℕ) → All (λ byte. byte < 2 ^ 8) (bytes_high_first n number)
bytes_fit zero number = All-nil (λ byte. byte < 2 ^ 8)
bytes_fit (suc n) number =
    All-cons (λ byte. byte < 2 ^ 8) (byte_at n number) (bytes_high_first n number) (rw (byte_at-pow n number) (mod-lt (number / 256 ^ n) (omega arith))) (bytes_fit n number)

pub length-serial_bytes : (serial : Serial) → length (serial_bytes serial) ≡ 10
unfolding serial_bytes
length-serial_bytes serial = length-bytes_high_first 10 (serial.iksn + serial.counter)

pub serial_bytes_fit : (serial : Serial) → All (λ byte. byte < 2 ^ 8) (serial_bytes serial)
unfolding serial_bytes
serial_bytes_fit serial = bytes_fit 10 (serial.iksn + serial.counter)

pub serial_of_bytes-serial_bytes : (serial : Serial) → IsSerial serial → serial_of_bytes (serial_bytes serial) ≡ serial
unfolding serial_bytes serial_of_bytes
serial_of_bytes-serial_bytes serial is_serial =
    let number = serial.iksn + serial.counter in
    let zeros = is_serial.iksn_is.counter_is_zero in
    let fits = is_serial.iksn_is.fits in
    let small = is_serial.counter_fits in
    let read : big_number 10 (bytes_high_first 10 number) ≡ number = big_number-reads_back 10 number [] (omega arith) in
    let high : number / 2 ^ 21 * 2 ^ 21 ≡ serial.iksn = omega arith in
    let low : number % 2 ^ 21 ≡ serial.counter = omega arith in
    rw (read, high, low) refl

pub serial_bytes-serial_of_bytes : (bytes : List ℕ) → length bytes ≡ 10 → All (λ byte. byte < 2 ^ 8) bytes → serial_bytes (serial_of_bytes bytes) ≡ bytes
unfolding serial_bytes serial_of_bytes
serial_bytes-serial_of_bytes bytes ten fit =
    let number = big_number 10 bytes in
    let whole : number / 2 ^ 21 * 2 ^ 21 + number % 2 ^ 21 ≡ number = div-add-mod' number (2 ^ 21) in
    ap (bytes_high_first 10) whole ∙ (rw ten at (bytes_of_number bytes fit))

pub IsSerial-serial_of_bytes : (bytes : List ℕ) → All (λ byte. byte < 2 ^ 8) bytes → IsSerial (serial_of_bytes bytes)
unfolding serial_of_bytes
IsSerial-serial_of_bytes bytes fit =
    let small : big_number 10 bytes < 256 ^ 10 = big_from-lt 0 10 bytes (each_fits bytes fit) in
    record { iksn_is = record { counter_is_zero = omega arith; fits = omega arith }; counter_fits = omega arith }

pub serial_bytes-read : (bytes : List ℕ) (number : ℕ) → length bytes ≡ 10 → All (λ byte. byte < 2 ^ 8) bytes → number ≡ big_number 10 bytes
    → serial_bytes (record { iksn = number / 2 ^ 21 * 2 ^ 21; counter = number % 2 ^ 21 }) ≡ bytes
unfolding serial_bytes
serial_bytes-read bytes number ten fit read =
    ap (bytes_high_first 10) (div-add-mod' number (2 ^ 21) ∙ read) ∙ (rw ten at (bytes_of_number bytes fit))
