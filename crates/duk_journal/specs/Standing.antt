-- The numbers that entries use, the payments of them that stand, and what these come to: this
-- project's own.
use Rattle.std.specs.Prelude.{◌≡◌, ◌&&◌, if◌then◌else◌, ℕ, Bool, true, false, List, [], ◌∷◌, All, AllPairs, Contains, flat_map, nat_eq, sum_by}
use Rattle.std.specs.List.{filter, list_any}
use Rattle.duk_frame.specs.declared.code.Code.{Code}
use Rattle.duk_frame.specs.declared.code.Code.TheVariants.{Approved}
use Rattle.duk_store.specs.Log.{Numbers}
use Rattle.duk_tree.specs.Path.{IsUsable}
use Rattle.duk_tree.specs.Serial.{Serial}
use Rattle.duk_journal.specs.Entry.{MayStandUnder, reversed_by}
use Rattle.duk_journal.specs.Groups.{Entries}
use Rattle.duk_journal.specs.declared.entry.Decided.{Decided}
use Rattle.duk_journal.specs.declared.entry.Decided.TheVariants.{Payment, Reversal}
use Rattle.duk_journal.specs.declared.entry.Entry.{Entry}

-- ---- numbers

-- the number that is reversed, where a reversal was decided
abbrev pub reversed_in : Serial → Decided → Numbers
reversed_in number (Payment amount code) = []
reversed_in number (Reversal counter state) = reversed_by number counter ∷ []

-- the numbers that an entry uses: its own, and the one that it reverses
abbrev pub numbers_in : Entry → Numbers
numbers_in entry = entry.number ∷ reversed_in entry.number entry.decided

-- all numbers that entries use
abbrev pub used_by : Entries → Numbers
used_by entries = flat_map numbers_in entries

-- all numbers that they reverse
abbrev pub reversed_numbers : Entries → Numbers
reversed_numbers entries = flat_map (λ entry. reversed_in entry.number entry.decided) entries

-- the entries that a host may have appended, in this order: the own number of each numbers a
-- transaction, what was decided may stand under it, and no entry before it used that
pub record UseNewNumbers (entries : Entries) : Type 0 where
  pub usable : All (λ entry. IsUsable entry.number.counter) entries
  pub stand : All (λ entry. MayStandUnder entry.number entry.decided) entries
  pub new : AllPairs (λ earlier later. ¬ Contains (numbers_in earlier) later.number) entries

-- ---- payments that stand

-- a payment of this number is kept, with this amount, this code and the MAC of its request
abbrev pub payment_entry : Serial → ℕ → Code → List ℕ → Entry
payment_entry number amount code mac =
    record { number = number; decided = Payment amount code; mac = mac }

-- an approved payment of this number is kept
pub record HasApproved (entries : Entries) (number : Serial) : Type 0 where
  pub amount : ℕ
  pub mac : List ℕ
  pub kept : Contains entries (payment_entry number amount Approved mac)

-- a payment stands: it is kept as approved, and no reversal of it is
pub record Stands (entries : Entries) (number : Serial) : Type 0 where
  pub approved : HasApproved entries number
  pub not_undone : ¬ Contains (reversed_numbers entries) number

-- a payment stands, with this amount
pub record StandsWith (entries : Entries) (number : Serial) (amount : ℕ) : Type 0 where
  pub stands : Stands entries number
  pub amount_is : stands.approved.amount ≡ amount

-- ---- what they come to

-- an entry is a payment
abbrev pub is_paid : Decided → Bool
is_paid (Payment amount code) = true
is_paid (Reversal counter state) = false

abbrev pub is_payment : Entry → Bool
is_payment entry = is_paid entry.decided

-- the amount of a payment that was approved, or 0
abbrev pub amount_if_approved : Code → ℕ → ℕ
amount_if_approved Approved amount = amount
amount_if_approved _ amount = 0

abbrev pub amount_approved : Decided → ℕ
amount_approved (Payment amount code) = amount_if_approved code amount
amount_approved (Reversal counter state) = 0

-- an entry is a payment that was approved
abbrev pub is_approval : Code → Bool
is_approval Approved = true
is_approval _ = false

abbrev pub was_approved : Decided → Bool
was_approved (Payment amount code) = is_approval code
was_approved (Reversal counter state) = false

-- a number is one of these
abbrev pub is_number : Serial → Serial → Bool
is_number number other = nat_eq number.iksn other.iksn && nat_eq number.counter other.counter

-- a reversal of this number is one of the entries
abbrev pub is_reversed : Entries → Serial → Bool
is_reversed entries number = list_any (is_number number) (reversed_numbers entries)

-- the amount of an entry where it is a payment that stands: it was approved, and no reversal of it is
-- kept. Or 0
abbrev pub standing_amount : Entries → Entry → ℕ
standing_amount entries entry =
    if is_reversed entries entry.number then 0 else amount_approved entry.decided

-- an entry is a payment that is undone: it was approved, and a reversal of it is kept
abbrev pub is_undone : Entries → Entry → Bool
is_undone entries entry = is_reversed entries entry.number && was_approved entry.decided

-- an entry of the terminal with this initial key serial number
abbrev pub is_by : ℕ → Entry → Bool
is_by iksn entry = nat_eq entry.number.iksn iksn

-- an entry of this number is kept that adds this amount to a total
pub record AddsAmount (entries : Entries) (number : Serial) (amount : ℕ) : Type 0 where
  pub entry : Entry
  pub kept : Contains entries entry
  pub number_is : entry.number ≡ number
  pub adds : standing_amount entries entry ≡ amount

-- the total for an initial key serial number: the sum of the amounts of its payments that stand
abbrev pub standing_total : Entries → ℕ → ℕ
standing_total entries iksn = sum_by (standing_amount entries) (filter (is_by iksn) entries)

-- the total for all of them
abbrev pub whole_total : Entries → ℕ
whole_total entries = sum_by (standing_amount entries) entries
