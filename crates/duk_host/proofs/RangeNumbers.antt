-- The numbers at the ends of ranges, and the terminals and counters of these.
use Rattle.std.proofs.Common.{◌≡◌, ℕ, ◌+◌, ◌%◌, ◌^◌, ◌<◌, ◌≤◌, ap₂, arith, inl, inr}
use Rattle.std.proofs.lemmas.Bool.{cases_lt}
use Rattle.duk_tree.specs.Next.{IsNextUsable}
use Rattle.duk_tree.specs.Path.{IsUsable}
use Rattle.duk_tree.specs.Serial.{IsSerial, Serial, serial_number}
use Rattle.duk_host.specs.inner.Index.{BeginsBefore, HasRange, IsInRange, Ranges, counter_of, iksn_of}

-- a range has one end
pub one_end : (ranges : Ranges) (first a b : ℕ) → HasRange ranges first a → HasRange ranges first b → a ≡ b
one_end ranges first a b has_a has_b = cc

-- a key serial number is that of its terminal with its counter
pub record IsSplit (ksn : Serial) : Type 0 where
  pub terminal : iksn_of (serial_number ksn) ≡ ksn.iksn
  pub counter : counter_of (serial_number ksn) ≡ ksn.counter

pub split_at : (iksn counter : ℕ) → iksn % 2 ^ 21 ≡ 0 → counter < 2 ^ 21 → (iksn_of (iksn + counter) ≡ iksn) × (counter_of (iksn + counter) ≡ counter)
split_at iksn counter zeros fits = (omega (arith, zeros, fits), omega (arith, zeros, fits))

pub split : (ksn : Serial) → IsSerial ksn → IsSplit ksn
split ksn serial =
    let parts = split_at ksn.iksn ksn.counter serial.iksn_is.counter_is_zero serial.counter_fits in
    record { terminal = parts.0; counter = parts.1 }

-- two numbers of the terminal of one key serial number
pub same_terminal : (a b iksn : ℕ) → iksn_of a ≡ iksn → iksn_of b ≡ iksn → iksn_of a ≡ iksn_of b
same_terminal a b iksn of_a of_b = omega (arith, of_a, of_b)

pub in_order : (a b : ℕ) → iksn_of a ≡ iksn_of b → counter_of a < counter_of b → a < b
in_order a b same below = omega (arith, same, below)

pub counters_in_order : (a b : ℕ) → iksn_of a ≡ iksn_of b → a < b → counter_of a < counter_of b
counters_in_order a b same below = omega (arith, same, below)

pub same_number : (a b : ℕ) → iksn_of a ≡ iksn_of b → counter_of a ≡ counter_of b → a ≡ b
same_number a b same counters = omega (arith, same, counters)

pub of_same_terminal : (a b iksn : ℕ) → iksn_of a ≡ iksn_of b → iksn_of b ≡ iksn → iksn_of a ≡ iksn
of_same_terminal a b iksn same of_b = omega (arith, same, of_b)

pub same_serial : (a b : Serial) → a.iksn ≡ b.iksn → a.counter ≡ b.counter → a ≡ b
same_serial a b iksn counter = ap₂ (λ iksn counter. record { iksn = iksn; counter = counter }) iksn counter

-- a key serial number in a range is in the one that ends elsewhere, if it is not above that end
pub ending_at : (first last end : ℕ) (other : Serial) → IsInRange first last other → other.counter ≤ end → IsInRange first end other
ending_at first last end other is_in to_end = record {
  same_terminal = is_in.same_terminal;
  from_first = is_in.from_first;
  to_last = to_end;
  is_usable = is_in.is_usable;
}

-- the range that a key serial number is in begins at or below it
pub begins_as : (first last : ℕ) (ksn : Serial) → IsInRange first last ksn → BeginsBefore first ksn
begins_as first last ksn is_in = record { same_terminal = is_in.same_terminal; at_or_below = is_in.from_first }

-- a usable counter below another that comes right after a third is not above the third
pub up_to : (last counter next : ℕ) → IsUsable counter → IsNextUsable last next → counter < next → counter ≤ last
up_to last counter next usable is_next below = elim (cases_lt last counter) [
  | inl above ↦ let least = is_next.is_least counter usable above in absurd (omega (arith, least, below))
  | inr within ↦ within
]

-- two counters that come right after one are the same
pub one_next : (counter a b : ℕ) → IsNextUsable counter a → IsNextUsable counter b → a ≡ b
one_next counter a b is_a is_b =
    let below = is_a.is_least b is_b.is_usable is_b.is_above in
    let above = is_b.is_least a is_a.is_usable is_a.is_above in omega (arith, below, above)

below_of_one : (a b counter : ℕ) → iksn_of a ≡ iksn_of b → a ≤ b → counter_of b ≡ counter → counter_of a ≤ counter
below_of_one a b counter same below is = omega (arith, same, below, is)

-- a range of its terminal that begins at or below a key serial number begins at or below its number
pub before_number : (ksn : Serial) (first : ℕ) → BeginsBefore first ksn → first ≤ serial_number ksn
before_number ksn first begins = omega (arith, begins.same_terminal, begins.at_or_below)

pub of_one_between : (a b c : ℕ) → iksn_of a ≡ iksn_of c → a ≤ b → b ≤ c → iksn_of b ≡ iksn_of c
of_one_between a b c same below above = omega (arith, same, below, above)
