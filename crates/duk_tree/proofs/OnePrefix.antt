-- The first five bytes of a key serial number, which stand above its counter.
use Rattle.std.proofs.Common.{◌≡◌, ◌+◌, ◌/◌, ◌%◌, ◌^◌, ◌<◌, refl, arith}
use Rattle.duk_tree.specs.Serial.{IsSerial, Serial, serial_bytes, iksn_prefix_of, prefix_of}

pub one_prefix : (ksn : Serial) → IsSerial ksn → prefix_of ksn ≡ iksn_prefix_of ksn.iksn
unfolding serial_bytes
one_prefix ksn serial =
    let zeros : ksn.iksn % 2 ^ 21 ≡ 0 = serial.iksn_is.counter_is_zero in
    let fits : ksn.counter < 2 ^ 21 = serial.counter_fits in
    let first : (ksn.iksn + ksn.counter) / 256 ^ 9 ≡ (ksn.iksn + 0) / 256 ^ 9 = omega arith in
    let second : (ksn.iksn + ksn.counter) / 256 ^ 8 ≡ (ksn.iksn + 0) / 256 ^ 8 = omega arith in
    let third : (ksn.iksn + ksn.counter) / 256 ^ 7 ≡ (ksn.iksn + 0) / 256 ^ 7 = omega arith in
    let fourth : (ksn.iksn + ksn.counter) / 256 ^ 6 ≡ (ksn.iksn + 0) / 256 ^ 6 = omega arith in
    let fifth : (ksn.iksn + ksn.counter) / 256 ^ 5 ≡ (ksn.iksn + 0) / 256 ^ 5 = omega arith in
    rw (first, second, third, fourth, fifth) refl
