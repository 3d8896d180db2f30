-- Check sums of lists that differ in one entry.
use Rattle.std.proofs.Common.{◌≡◌, ◌∙◌, ◌+◌, ◌*◌, ◌/◌, ◌%◌, ◌^◌, ◌<◌, ◌≤◌, ◌++◌, ◌∷◌, [], ℕ, List, ap, arith, get_or, inl, inr, length, refl, subst, sym}
use Rattle.std.proofs.lemmas.Bool.{cases_lt}
use Rattle.std.proofs.lemmas.List.{get_or_past}
use Rattle.std.proofs.lemmas.List.Elements.{All-tail}
use Rattle.std.proofs.lemmas.List.Sums.{fold-append}
use Rattle.std.proofs.lemmas.Nat.{div-mul-add}
use Rattle.std.specs.List.{All, fold}
use Rattle.byteorder.specs.Endian.{big_from, big_number}
use Rattle.byteorder.specs.Numbers.{big_from-cons, big_from-lt}
use Rattle.duk_frame.specs.declared.code.Code.TheVariants.{Approved, NoCard, WrongPin, OverLimit, Unreadable}
use Rattle.duk_reversal.specs.declared.state.ReversalState.TheVariants.{NoneStands, Undone}
use Rattle.duk_tree.specs.Serial.{IsSerial, Serial, serial_bytes, serial_of_bytes}
use Rattle.duk_journal.specs.CheckSum.{check_sum_of, decision_word, folded, multiplier, with_entry}
use Rattle.duk_journal.specs.Entry.{AreFields, figure_of, kind_of, outcome_of}
use Rattle.duk_journal.specs.Groups.{Entries}
use Rattle.duk_journal.specs.declared.check_sum.CheckSum.{CheckSum}
use Rattle.duk_journal.specs.declared.entry.Decided.{Decided}
use Rattle.duk_journal.specs.declared.entry.Decided.TheVariants.{Payment, Reversal}
use Rattle.duk_journal.specs.declared.entry.Entry.{Entry}
use Rattle.duk_journal.proofs.SaidEntries.{one_decided}

-- ---- one sum

-- the multiplier has an inverse, so that it keeps different sums apart
same_product : (a b : ℕ) → a < 2 ^ 128 → b < 2 ^ 128 → a * multiplier % 2 ^ 128 ≡ b * multiplier % 2 ^ 128 → a ≡ b
same_product a b a_fits b_fits same = omega (arith, a_fits, b_fits, same)

same_rest : (p q word : ℕ) → p < 2 ^ 128 → q < 2 ^ 128 → (p + word) % 2 ^ 128 ≡ (q + word) % 2 ^ 128 → p ≡ q
same_rest p q word p_fits q_fits same = omega (arith, p_fits, q_fits, same)

same_sum : (a b word : ℕ) → a < 2 ^ 128 → b < 2 ^ 128 → folded a word ≡ folded b word → a ≡ b
same_sum a b word a_fits b_fits same =
    let p : ℕ = a * multiplier % 2 ^ 128 in
    let q : ℕ = b * multiplier % 2 ^ 128 in
    same_product a b a_fits b_fits (same_rest p q word (omega arith) (omega arith) same)

same_word : (sum one other : ℕ) → one < 2 ^ 128 → other < 2 ^ 128 → folded sum one ≡ folded sum other → one ≡ other
same_word sum one other one_fits other_fits same =
    let p : ℕ = sum * multiplier % 2 ^ 128 in
    let turned : (one + p) % 2 ^ 128 ≡ (other + p) % 2 ^ 128 = omega (arith, same) in same_rest one other p one_fits other_fits turned

-- ---- the sums of lists

record Fits (sum : CheckSum) : Type 0 where
  numbers : sum.numbers < 2 ^ 128
  decisions : sum.decisions < 2 ^ 128
  macs : sum.macs < 2 ^ 128

entry_fits : (sum : CheckSum) (entry : Entry) → Fits (with_entry sum entry)
entry_fits sum entry = record { numbers = omega arith; decisions = omega arith; macs = omega arith }

sums_fit : (sum : CheckSum) (entries : Entries) → Fits sum → Fits (fold with_entry sum entries)
sums_fit sum [] fits = fits
sums_fit sum (entry ∷ entries) fits = sums_fit (with_entry sum entry) entries (entry_fits sum entry)

sum_of : ℕ → ℕ → ℕ → CheckSum
sum_of numbers decisions macs = record { numbers = numbers; decisions = decisions; macs = macs }

one_sum : (a b : CheckSum) → a.numbers ≡ b.numbers → a.decisions ≡ b.decisions → a.macs ≡ b.macs → a ≡ b
unfolding sum_of
one_sum a b numbers decisions macs =
    ap (λ n. sum_of n a.decisions a.macs) numbers ∙ ap (λ n. sum_of b.numbers n a.macs) decisions ∙ ap (λ n. sum_of b.numbers b.decisions n) macs

-- whatever is folded into both, different sums stay different
same_before : (a b : CheckSum) (entries : Entries) → Fits a → Fits b → fold with_entry a entries ≡ fold with_entry b entries → a ≡ b
same_before a b [] a_fits b_fits same = same
same_before a b (entry ∷ entries) a_fits b_fits same =
    let next : with_entry a entry ≡ with_entry b entry = same_before (with_entry a entry) (with_entry b entry) entries (entry_fits a entry) (entry_fits b entry) same in
    one_sum a b
    (same_sum a.numbers b.numbers (big_number 10 (serial_bytes entry.number)) a_fits.numbers b_fits.numbers (ap (λ (sum : CheckSum). sum.numbers) next))
    (same_sum a.decisions b.decisions (decision_word entry.decided) a_fits.decisions b_fits.decisions (ap (λ (sum : CheckSum). sum.decisions) next))
    (same_sum a.macs b.macs (big_number 8 entry.mac) a_fits.macs b_fits.macs (ap (λ (sum : CheckSum). sum.macs) next))

-- ---- the words of an entry

each_fits : (bytes : List ℕ) → All (λ byte. byte < 2 ^ 8) bytes → (k : ℕ) → get_or bytes k 0 < 256
each_fits bytes fit k =
    elim (cases_lt k (length bytes)) [
      | inl within ↦ fit k 0 within
      | inr past ↦ rw (get_or_past bytes k 0 past) (omega arith)
    ]

number_fits : (bytes : List ℕ) → All (λ byte. byte < 2 ^ 8) bytes → (count : ℕ) → count ≡ length bytes → big_number count bytes < 256 ^ count
number_fits bytes fit count is = big_from-lt 0 count bytes (each_fits bytes fit)

-- bytes are those of the number that they spell
one_number : (one other : List ℕ) → length one ≡ length other → All (λ byte. byte < 2 ^ 8) one → All (λ byte. byte < 2 ^ 8) other → big_from 0 (length one) one ≡ big_from 0 (length one) other → one ≡ other
one_number [] [] as_long one_fits other_fits same = refl
one_number [] (b ∷ others) as_long one_fits other_fits same = absurd (omega (arith, as_long))
one_number (a ∷ more) [] as_long one_fits other_fits same = absurd (omega (arith, as_long))
one_number (a ∷ more) (b ∷ others) as_long one_fits other_fits same =
    let n : ℕ = length more in
    let p : ℕ = 256 ^ n in
    let left = All-tail (λ byte. byte < 2 ^ 8) a more one_fits in
    let right = All-tail (λ byte. byte < 2 ^ 8) b others other_fits in
    let x : ℕ = big_from 0 n more in
    let y : ℕ = big_from 0 n others in
    let sums : a * p + big_from 1 n (a ∷ more) ≡ b * p + big_from 1 n (b ∷ others) = same in
    let whole : a * p + x ≡ b * p + y =
    ap (λ (it : ℕ). a * p + it) (sym (big_from-cons 0 n a more)) ∙ sums ∙ ap (λ (it : ℕ). b * p + it) (big_from-cons 0 n b others) in
    let x_fits : x < p = big_from-lt 0 n more (each_fits more left) in
    let y_fits : y < p = big_from-lt 0 n others (each_fits others right) in
    let first : a ≡ b = sym (div-mul-add a p x x_fits) ∙ ap (λ (it : ℕ). it / p) whole ∙ div-mul-add b p y y_fits in
    let moved : b * p + x ≡ b * p + y = ap (λ (it : ℕ). it * p + x) (sym first) ∙ whole in
    let rest : x ≡ y = (let high : ℕ = b * p in omega (arith, moved)) in
    ap (λ (it : ℕ). it ∷ more) first ∙ ap (λ (it : List ℕ). b ∷ it) (one_number more others (omega (arith, as_long)) left right rest)

outcome_fits : (decided : Decided) → outcome_of decided < 2 ^ 8
outcome_fits (Payment amount Approved) = omega arith
outcome_fits (Payment amount NoCard) = omega arith
outcome_fits (Payment amount WrongPin) = omega arith
outcome_fits (Payment amount OverLimit) = omega arith
outcome_fits (Payment amount Unreadable) = omega arith
outcome_fits (Reversal counter Undone) = omega arith
outcome_fits (Reversal counter NoneStands) = omega arith

kind_fits : (decided : Decided) → kind_of decided ≤ 2
kind_fits (Payment amount code) = omega arith
kind_fits (Reversal counter state) = omega arith

decision_fits : (decided : Decided) → figure_of decided < 2 ^ 32 → decision_word decided < 2 ^ 128
decision_fits decided fits = omega (arith, fits, kind_fits decided, outcome_fits decided)

one_decision : (one other : Decided) → figure_of one < 2 ^ 32 → figure_of other < 2 ^ 32 → decision_word one ≡ decision_word other → one ≡ other
one_decision one other one_fits other_fits same =
    let a = outcome_fits one in
    let b = outcome_fits other in
    one_decided one other (omega (arith, same, one_fits, other_fits, a, b)) (omega (arith, same, one_fits, other_fits, a, b)) (omega (arith, same, one_fits, other_fits, a, b))

module _ (ten : (serial : Serial) → length (serial_bytes serial) ≡ 10) (are_bytes : (serial : Serial) → All (λ byte. byte < 2 ^ 8) (serial_bytes serial))
    (found : (serial : Serial) → IsSerial serial → serial_of_bytes (serial_bytes serial) ≡ serial) where
  one_serial : (one other : Serial) → IsSerial one → IsSerial other → big_number 10 (serial_bytes one) ≡ big_number 10 (serial_bytes other) → one ≡ other
  unfolding serial_of_bytes
  one_serial one other one_is other_is same =
      let read : ℕ → Serial = λ number. record { iksn = number / 2 ^ 21 * 2 ^ 21; counter = number % 2 ^ 21 } in
      sym (found one one_is) ∙ ap read same ∙ found other other_is

  serial_fits : (serial : Serial) → big_number 10 (serial_bytes serial) < 2 ^ 128
  serial_fits serial =
      let fits = number_fits (serial_bytes serial) (are_bytes serial) 10 (sym (ten serial)) in omega (arith, fits)

  mac_fits : (mac : List ℕ) → All (λ byte. byte < 2 ^ 8) mac → length mac ≡ 8 → big_number 8 mac < 2 ^ 128
  mac_fits mac fit eight = let fits = number_fits mac fit 8 (sym eight) in omega (arith, fits)

  one_mac : (one other : List ℕ) → length one ≡ 8 → length other ≡ 8 → All (λ byte. byte < 2 ^ 8) one → All (λ byte. byte < 2 ^ 8) other → big_number 8 one ≡ big_number 8 other → one ≡ other
  one_mac one other eight eight_too one_fits other_fits same =
      one_number one other (eight ∙ sym eight_too) one_fits other_fits (subst (λ (count : ℕ). big_from 0 count one ≡ big_from 0 count other) (sym eight) same)

  entry_of : Serial → Decided → List ℕ → Entry
  entry_of number decided mac = record { number = number; decided = decided; mac = mac }

  one_entry : (one other : Entry) → one.number ≡ other.number → one.decided ≡ other.decided → one.mac ≡ other.mac → one ≡ other
  unfolding entry_of
  one_entry one other number decided mac =
      ap (λ it. entry_of it one.decided one.mac) number ∙ ap (λ it. entry_of other.number it one.mac) decided ∙ ap (λ it. entry_of other.number other.decided it) mac

  -- lists that differ in one entry have different check sums
  pub one_check_sum : (before after : Entries) (one other : Entry) → AreFields one → AreFields other → All (λ byte. byte < 2 ^ 8) one.mac → All (λ byte. byte < 2 ^ 8) other.mac
      → check_sum_of (before ++ one ∷ after) ≡ check_sum_of (before ++ other ∷ after) → one ≡ other
  one_check_sum before after one other one_is other_is one_bytes other_bytes same =
      let none : CheckSum = record { numbers = 0; decisions = 0; macs = 0 } in
      let sum : CheckSum = fold with_entry none before in
      let parted : fold with_entry (with_entry sum one) after ≡ fold with_entry (with_entry sum other) after =
      sym (fold-append with_entry none before (one ∷ after)) ∙ same ∙ fold-append with_entry none before (other ∷ after) in
      let here : with_entry sum one ≡ with_entry sum other = same_before (with_entry sum one) (with_entry sum other) after (entry_fits sum one) (entry_fits sum other) parted in
      one_entry one other
      (one_serial one.number other.number one_is.serial other_is.serial
      (same_word sum.numbers (big_number 10 (serial_bytes one.number)) (big_number 10 (serial_bytes other.number)) (serial_fits one.number) (serial_fits other.number) (ap (λ (it : CheckSum). it.numbers) here)))
      (one_decision one.decided other.decided one_is.figure_fits other_is.figure_fits
      (same_word sum.decisions (decision_word one.decided) (decision_word other.decided) (decision_fits one.decided one_is.figure_fits) (decision_fits other.decided other_is.figure_fits) (ap (λ (it : CheckSum). it.decisions) here)))
      (one_mac one.mac other.mac one_is.mac_length other_is.mac_length one_bytes other_bytes
      (same_word sum.macs (big_number 8 one.mac) (big_number 8 other.mac) (mac_fits one.mac one_bytes one_is.mac_length) (mac_fits other.mac other_bytes other_is.mac_length) (ap (λ (it : CheckSum). it.macs) here)))
