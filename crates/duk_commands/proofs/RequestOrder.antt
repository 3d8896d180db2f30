-- The first fault of `request`, in the order of its faults.
use Rattle.std.proofs.Common.{◌⊎◌, ◌<◌, ◌≤◌, ℕ, List, Result, Ok, Err, IfErr, All, length, refl, rules, arith}
use Rattle.std.specs.Char.{IsAsciiDigit, IsNotAsciiDigit}
use Rattle.std.specs.Prelude.{◌↔◌, IsOk, IsErrOf, Any}
use Rattle.duk_commands.proofs.TranslateOrder.{start_met}
use Rattle.duk_commands.specs.Decimal.{IsDecimal}
use Rattle.duk_commands.specs.Frames.{IsRequestRefused, MeetsRequest, most_amount, request_arguments, request_rank}
use Rattle.duk_commands.specs.Start.{IsStart, IsStartRefused, MeetsStart}
use Rattle.duk_commands.specs.declared.fault.Fault.{Fault}
use Rattle.duk_commands.specs.declared.fault.Fault.TheVariants.{AmountRefused, BdkRefused, CounterRefused, InitialRefused, KsnRefused, PinRefused}
use Rattle.duk_commands.specs.declared.key_argument.KeyArgument.{KeyArgument}
use Rattle.duk_commands.specs.declared.key_argument.KeyArgument.TheVariants.{Base, Initial}
use Rattle.duk_pin.specs.Pan.{HasPanLength, IsPan}
use Rattle.duk_pin.specs.Pin.{HasPinLength, IsPin}
use Rattle.duk_pin.specs.declared.fault.PinFault.{PinFault}
use Rattle.duk_pin.specs.declared.fault.PinFault.TheVariants.{PinLength, PinDigit, PanLength, PanDigit}
use Rattle.duk_tree.specs.Serial.{Serial}

-- what is demanded before a limit, where what stands before it is read
pub request_met : (ksn pan pin amount : List ℕ) (given : KeyArgument) (limit : ℕ) → limit ≤ 7
    → ((fault : Fault) → request_rank fault < limit → MeetsStart given ksn fault)
    → (3 < limit → HasPanLength pan) → (4 < limit → All IsAsciiDigit pan)
    → (5 < limit → HasPinLength pin) → (6 < limit → All IsAsciiDigit pin)
    → (fault : Fault) → request_rank fault < limit → MeetsRequest (request_arguments given ksn pan pin amount) fault
request_met ksn pan pin amount given limit most own pan_length pan_digits pin_length pin_digits (PinRefused PanLength) below = pan_length below
request_met ksn pan pin amount given limit most own pan_length pan_digits pin_length pin_digits (PinRefused PanDigit) below = pan_digits below
request_met ksn pan pin amount given limit most own pan_length pan_digits pin_length pin_digits (PinRefused PinLength) below = pin_length below
request_met ksn pan pin amount given limit most own pan_length pan_digits pin_length pin_digits (PinRefused PinDigit) below = pin_digits below
request_met ksn pan pin amount given limit most own pan_length pan_digits pin_length pin_digits AmountRefused below = absurd (omega arith)
request_met ksn pan pin amount given limit most own pan_length pan_digits pin_length pin_digits fault below = own fault below

-- the faults of the key and the number come in one order
before_ksn : (given : KeyArgument) (ksn : List ℕ) → IsStartRefused given ksn KsnRefused → (fault : Fault) → request_rank fault < 1 → MeetsStart given ksn fault
before_ksn given ksn first BdkRefused below = first.earlier_met BdkRefused (omega arith)
before_ksn given ksn first InitialRefused below = first.earlier_met InitialRefused (omega arith)
before_ksn given ksn first (PinRefused PanLength) below = absurd (omega arith)
before_ksn given ksn first (PinRefused PanDigit) below = absurd (omega arith)
before_ksn given ksn first (PinRefused PinLength) below = absurd (omega arith)
before_ksn given ksn first (PinRefused PinDigit) below = absurd (omega arith)
before_ksn given ksn first fault below = absurd (omega arith)

before_counter : (given : KeyArgument) (ksn : List ℕ) → IsStartRefused given ksn CounterRefused → (fault : Fault) → request_rank fault < 2
    → MeetsStart given ksn fault
before_counter given ksn first BdkRefused below = first.earlier_met BdkRefused (omega arith)
before_counter given ksn first InitialRefused below = first.earlier_met InitialRefused (omega arith)
before_counter given ksn first KsnRefused below = first.earlier_met KsnRefused (omega arith)
before_counter given ksn first (PinRefused PanLength) below = absurd (omega arith)
before_counter given ksn first (PinRefused PanDigit) below = absurd (omega arith)
before_counter given ksn first (PinRefused PinLength) below = absurd (omega arith)
before_counter given ksn first (PinRefused PinDigit) below = absurd (omega arith)
before_counter given ksn first fault below = absurd (omega arith)

never : {A : Type 0} (limit bound : ℕ) → limit ≤ bound → bound < limit → A
never limit bound least most = absurd (omega (arith, least, most))

-- why the key or the number is refused is the first fault of `request`
pub start_refused : {T : Type 0} (ksn pan pin amount : List ℕ) (given : KeyArgument) (read : Result T Fault)
    → IfErr read (IsStartRefused given ksn) → IfErr read (IsRequestRefused (request_arguments given ksn pan pin amount))
start_refused ksn pan pin amount given (Ok start) first = tt
start_refused ksn pan pin amount given (Err BdkRefused) first = record {
  fails = first.fails;
  earlier_met = λ fault below. absurd (omega arith);
}
start_refused ksn pan pin amount given (Err InitialRefused) first = record {
  fails = first.fails;
  earlier_met = λ fault below. absurd (omega arith);
}
start_refused ksn pan pin amount given (Err KsnRefused) first = record {
  fails = first.fails;
  earlier_met = request_met ksn pan pin amount given 1 (omega arith) (before_ksn given ksn first)
      (λ h. absurd (omega arith)) (λ h. absurd (omega arith)) (λ h. absurd (omega arith)) (λ h. absurd (omega arith));
}
start_refused ksn pan pin amount given (Err CounterRefused) first = record {
  fails = first.fails;
  earlier_met = request_met ksn pan pin amount given 2 (omega arith) (before_counter given ksn first)
      (λ h. absurd (omega arith)) (λ h. absurd (omega arith)) (λ h. absurd (omega arith)) (λ h. absurd (omega arith));
}
start_refused ksn pan pin amount (Base text) (Err fault) first = absurd (first.fails tt)
start_refused ksn pan pin amount (Initial text) (Err fault) first = absurd (first.fails tt)

-- why a PAN is refused
pub pan_refused : {T : Type 0} (ksn pan pin amount : List ℕ) (given : KeyArgument) (initial : List ℕ) (serial : Serial) (read : Result T PinFault)
    → IsStart given ksn initial serial → (IsOk read ↔ IsPan pan)
    → (IsErrOf read PanLength ↔ ((length pan < 12) ⊎ (19 < length pan)))
    → (IsErrOf read PanDigit ↔ (HasPanLength pan × Any IsNotAsciiDigit pan))
    → IfErr read (λ fault. IsRequestRefused (request_arguments given ksn pan pin amount) (PinRefused fault))
pan_refused ksn pan pin amount given initial serial (Ok read) start is_ok wrong_length wrong_digit = tt
pan_refused ksn pan pin amount given initial serial (Err PanLength) start is_ok wrong_length wrong_digit = record {
  fails = λ fits. let wrong : (length pan < 12) ⊎ (19 < length pan) = wrong_length.0 refl in grind (arith, wrong, fits.at_least, fits.at_most);
  earlier_met = request_met ksn pan pin amount given 3 (omega arith) (λ fault below. start_met given ksn initial serial start fault)
      (λ h. absurd (omega arith)) (λ h. absurd (omega arith)) (λ h. absurd (omega arith)) (λ h. absurd (omega arith));
}
pan_refused ksn pan pin amount given initial serial (Err PanDigit) start is_ok wrong_length wrong_digit = record {
  fails = λ digits. let wrong : HasPanLength pan × Any IsNotAsciiDigit pan = wrong_digit.0 refl in search rules;
  earlier_met = request_met ksn pan pin amount given 4 (omega arith) (λ fault below. start_met given ksn initial serial start fault)
      (λ h. (wrong_digit.0 refl).0) (λ h. absurd (omega arith)) (λ h. absurd (omega arith)) (λ h. absurd (omega arith));
}
pan_refused ksn pan pin amount given initial serial (Err fault) start is_ok wrong_length wrong_digit = search rules

-- why a PIN is refused, after a PAN
pub pin_refused : {T : Type 0} (ksn pan pin amount : List ℕ) (given : KeyArgument) (initial : List ℕ) (serial : Serial) (read : Result T PinFault)
    → IsStart given ksn initial serial → IsPan pan → (IsOk read ↔ IsPin pin)
    → (IsErrOf read PinLength ↔ ((length pin < 4) ⊎ (12 < length pin)))
    → (IsErrOf read PinDigit ↔ (HasPinLength pin × Any IsNotAsciiDigit pin))
    → IfErr read (λ fault. IsRequestRefused (request_arguments given ksn pan pin amount) (PinRefused fault))
pin_refused ksn pan pin amount given initial serial (Ok read) start is_pan is_ok wrong_length wrong_digit = tt
pin_refused ksn pan pin amount given initial serial (Err PinLength) start is_pan is_ok wrong_length wrong_digit = record {
  fails = λ fits. let wrong : (length pin < 4) ⊎ (12 < length pin) = wrong_length.0 refl in grind (arith, wrong, fits.at_least, fits.at_most);
  earlier_met = request_met ksn pan pin amount given 5 (omega arith) (λ fault below. start_met given ksn initial serial start fault)
      (λ h. is_pan.length) (λ h. is_pan.digits) (λ h. absurd (omega arith)) (λ h. absurd (omega arith));
}
pin_refused ksn pan pin amount given initial serial (Err PinDigit) start is_pan is_ok wrong_length wrong_digit = record {
  fails = λ digits. let wrong : HasPinLength pin × Any IsNotAsciiDigit pin = wrong_digit.0 refl in search rules;
  earlier_met = request_met ksn pan pin amount given 6 (omega arith) (λ fault below. start_met given ksn initial serial start fault)
      (λ h. is_pan.length) (λ h. is_pan.digits) (λ h. (wrong_digit.0 refl).0) (λ h. absurd (omega arith));
}
pin_refused ksn pan pin amount given initial serial (Err fault) start is_pan is_ok wrong_length wrong_digit = search rules

-- an amount that is not read
pub amount_refused : (ksn pan pin amount : List ℕ) (given : KeyArgument) (initial : List ℕ) (serial : Serial) → IsStart given ksn initial serial
    → IsPan pan → IsPin pin → ((number : ℕ) → ¬ IsDecimal most_amount amount number)
    → IsRequestRefused (request_arguments given ksn pan pin amount) AmountRefused
amount_refused ksn pan pin amount given initial serial start is_pan is_pin none = record {
  fails = λ read. none read.0 read.1;
  earlier_met = request_met ksn pan pin amount given 7 (omega arith) (λ fault below. start_met given ksn initial serial start fault)
      (λ h. is_pan.length) (λ h. is_pan.digits) (λ h. is_pin.length) (λ h. is_pin.digits);
}
