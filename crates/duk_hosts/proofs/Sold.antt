-- What a till told as approved, each payment once.
use Rattle.std.proofs.Common.{◌≡◌, ◌⊎◌, ◌∷◌, [], ℕ, Bool, true, false, true≢false, List, AllPairs, Contains, get_or, if◌then◌else◌, inl, inr, map, nat_eq, refl, sym, ap, subst, ◌∙◌, arith}
use Rattle.std.proofs.lemmas.Bool.Decides.{Decides-and, Decides-by_or, Decides-eqb, Decides-like}
use Rattle.std.proofs.lemmas.List.Elements.{Contains-get_or, Decides-contains}
use Rattle.std.proofs.lemmas.List.Kept.{AllPairs-cons}
use Rattle.std.specs.Bool.{Decides}
use Rattle.std.specs.List.{list_any}
use Rattle.duk_journal.specs.Standing.{is_number}
use Rattle.duk_till.specs.History.{Began, Entry, Told, TookNewNumbers, payment_of}
use Rattle.duk_till.specs.declared.last.Last.{Last}
use Rattle.duk_till.specs.declared.last.Last.TheVariants.{Open, Approved, Declined, Undone}
use Rattle.duk_till.specs.declared.last.Payment.{Payment}
use Rattle.duk_tree.specs.Serial.{Serial}
use Rattle.duk_hosts.specs.Tills.{HaveDifferentNumbers, entered, has_number, sold_in}
use Rattle.duk_hosts.proofs.Members.{first_in, front_or, later_in, made_of, map_in, none_in}
use Rattle.duk_hosts.proofs.TillHolds.{told_before_begin, told_or_before}

-- ---- whether a number is one of these

same_number : (number other : Serial) → Decides (is_number number other) (other ≡ number)
same_number number other = Decides-like (is_number number other)
    (λ same. sym (ap (λ (i : ℕ). record { iksn = i; counter = number.counter }) same.0 ∙ ap (λ (k : ℕ). record { iksn = other.iksn; counter = k }) same.1))
    (λ is. (ap (λ (it : Serial). it.iksn) (sym is), ap (λ (it : Serial). it.counter) (sym is)))
    (Decides-and (nat_eq number.iksn other.iksn) (nat_eq number.counter other.counter) (Decides-eqb number.iksn other.iksn) (Decides-eqb number.counter other.counter))

abbrev numbers_of : List Payment → List Serial
numbers_of sold = map (λ (payment : Payment). payment.ksn) sold

has_decides : (sold : List Payment) (number : Serial) → Decides (has_number sold number) (Contains (numbers_of sold) number)
has_decides sold number =
    Decides-contains (numbers_of sold) number (has_number sold number)
    (Decides-by_or (is_number number) (λ (it : Serial). it ≡ number) (list_any (is_number number)) (same_number number) refl (λ _ _. refl) (numbers_of sold))

-- ---- a payment is entered

by_test : {A : Type 0} (test : Bool) (one other : A) (P : A → Type 0) → (test ≡ true → P one) → (test ≡ false → P other) → P (if test then one else other)
by_test true one other P when_so when_not = when_so refl
by_test false one other P when_so when_not = when_not refl

entered_from : (payment other : Payment) (sold : List Payment) → Contains (entered payment sold) other → (other ≡ payment) ⊎ Contains sold other
entered_from payment other sold =
    by_test (has_number sold payment.ksn) sold (payment ∷ sold) (λ list. Contains list other → (other ≡ payment) ⊎ Contains sold other)
    (λ so is_in. inr is_in) (λ not is_in. front_or payment sold other is_in)

entered_keeps : (payment other : Payment) (sold : List Payment) → Contains sold other → Contains (entered payment sold) other
entered_keeps payment other sold is_in =
    by_test (has_number sold payment.ksn) sold (payment ∷ sold) (λ list. Contains list other) (λ so. is_in) (λ not. later_in payment sold other is_in)

entered_has : (payment : Payment) (sold : List Payment) → (it : Payment) × Contains (entered payment sold) it × (it.ksn ≡ payment.ksn)
entered_has payment sold =
    by_test (has_number sold payment.ksn) sold (payment ∷ sold) (λ list. (it : Payment) × Contains list it × (it.ksn ≡ payment.ksn))
    (λ so. let found = made_of (λ (it : Payment). it.ksn) sold payment.ksn ((has_decides sold payment.ksn).0 so) in (found.0, found.1, sym found.2))
    (λ not. (payment, first_in payment sold, refl))

entered_apart : (payment : Payment) (sold : List Payment) → AllPairs HaveDifferentNumbers sold → AllPairs HaveDifferentNumbers (entered payment sold)
entered_apart payment sold apart =
    by_test (has_number sold payment.ksn) sold (payment ∷ sold) (AllPairs HaveDifferentNumbers) (λ so. apart)
    (λ not. AllPairs-cons HaveDifferentNumbers payment sold
    (λ i d within same.
    let has = subst (Contains (numbers_of sold)) (sym same) (map_in (λ (it : Payment). it.ksn) sold (get_or sold i d) (Contains-get_or sold i d within)) in
    true≢false (sym ((has_decides sold payment.ksn).1 has) ∙ not))
    apart)

-- ---- what was told

-- what is entered was told as approved
pub sold_was_told : (history : List Entry) (payment : Payment) → Contains (sold_in history) payment → Contains history (Told (Approved payment.ksn payment.amount))
sold_was_told [] payment is_in = absurd (none_in payment is_in)
sold_was_told (Began began ∷ earlier) payment is_in = later_in (Began began) earlier (Told (Approved payment.ksn payment.amount)) (sold_was_told earlier payment is_in)
sold_was_told (Told (Open ksn amount) ∷ earlier) payment is_in = later_in (Told (Open ksn amount)) earlier (Told (Approved payment.ksn payment.amount)) (sold_was_told earlier payment is_in)
sold_was_told (Told (Declined ksn why) ∷ earlier) payment is_in = later_in (Told (Declined ksn why)) earlier (Told (Approved payment.ksn payment.amount)) (sold_was_told earlier payment is_in)
sold_was_told (Told (Undone ksn) ∷ earlier) payment is_in = later_in (Told (Undone ksn)) earlier (Told (Approved payment.ksn payment.amount)) (sold_was_told earlier payment is_in)
sold_was_told (Told (Approved ksn amount) ∷ earlier) payment is_in = elim (entered_from (payment_of ksn amount) payment (sold_in earlier) is_in) [
  | inl same ↦ subst (λ (it : Payment). Contains (Told (Approved ksn amount) ∷ earlier) (Told (Approved it.ksn it.amount))) (sym same) (first_in (Told (Approved ksn amount)) earlier)
  | inr before ↦ later_in (Told (Approved ksn amount)) earlier (Told (Approved payment.ksn payment.amount)) (sold_was_told earlier payment before)
]

-- one with this number is entered
abbrev IsEntered : List Payment → Serial → Type 0
IsEntered sold ksn = (payment : Payment) × Contains sold payment × (payment.ksn ≡ ksn)

same_approved : (ksn other : Serial) (amount sum : ℕ) → Approved ksn amount ≡ Approved other sum → ksn ≡ other
same_approved ksn other amount sum same = cc

-- what was told as approved is entered
pub told_is_sold : (history : List Entry) (ksn : Serial) (amount : ℕ) → Contains history (Told (Approved ksn amount)) → IsEntered (sold_in history) ksn
told_is_sold [] ksn amount told = absurd (none_in (Told (Approved ksn amount)) told)
told_is_sold (Began began ∷ earlier) ksn amount told = told_is_sold earlier ksn amount (told_before_begin began (Approved ksn amount) earlier told)
told_is_sold (Told (Open number sum) ∷ earlier) ksn amount told = elim (told_or_before (Open number sum) (Approved ksn amount) earlier told) [
  | inl same ↦ absurd (cc)
  | inr before ↦ told_is_sold earlier ksn amount before
]
told_is_sold (Told (Declined number why) ∷ earlier) ksn amount told = elim (told_or_before (Declined number why) (Approved ksn amount) earlier told) [
  | inl same ↦ absurd (cc)
  | inr before ↦ told_is_sold earlier ksn amount before
]
told_is_sold (Told (Undone number) ∷ earlier) ksn amount told = elim (told_or_before (Undone number) (Approved ksn amount) earlier told) [
  | inl same ↦ absurd (cc)
  | inr before ↦ told_is_sold earlier ksn amount before
]
told_is_sold (Told (Approved number sum) ∷ earlier) ksn amount told = elim (told_or_before (Approved number sum) (Approved ksn amount) earlier told) [
  | inl same ↦
      let it = entered_has (payment_of number sum) (sold_in earlier) in
      (it.0, it.1, it.2 ∙ sym (same_approved ksn number amount sum same))
  | inr before ↦
      let it = told_is_sold earlier ksn amount before in
      (it.0, entered_keeps (payment_of number sum) it.0 (sold_in earlier) it.1, it.2)
]

-- each number is entered once
pub sold_once : (history : List Entry) → AllPairs HaveDifferentNumbers (sold_in history)
sold_once [] = λ i j d below within. absurd (omega (arith, within))
sold_once (Began began ∷ earlier) = sold_once earlier
sold_once (Told (Open ksn amount) ∷ earlier) = sold_once earlier
sold_once (Told (Declined ksn why) ∷ earlier) = sold_once earlier
sold_once (Told (Undone ksn) ∷ earlier) = sold_once earlier
sold_once (Told (Approved ksn amount) ∷ earlier) = entered_apart (payment_of ksn amount) (sold_in earlier) (sold_once earlier)

-- ---- what began

same_began : (one other : Payment) → Began one ≡ Began other → one ≡ other
same_began one other same = cc

told_is_not_began : (last : Last) (began : Payment) → Began began ≡ Told last → ⊥
told_is_not_began last began same = cc

-- one purchase began under a number
pub one_began : (history : List Entry) (one other : Payment) → TookNewNumbers history → Contains history (Began one) → Contains history (Began other) → one.ksn ≡ other.ksn → one ≡ other
one_began [] one other new in_one in_other same = absurd (none_in (Began one) in_one)
one_began (Told last ∷ earlier) one other new in_one in_other same = elim (front_or (Told last) earlier (Began one) in_one) [
  | inl told ↦ absurd (told_is_not_began last one told)
  | inr first ↦ elim (front_or (Told last) earlier (Began other) in_other) [
    | inl told ↦ absurd (told_is_not_began last other told)
    | inr second ↦ one_began earlier one other new first second same
  ]
]
one_began (Began began ∷ earlier) one other new in_one in_other same = elim (front_or (Began began) earlier (Began one) in_one) [
  | inl is_one ↦ elim (front_or (Began began) earlier (Began other) in_other) [
    | inl is_other ↦ same_began one began is_one ∙ sym (same_began other began is_other)
    | inr second ↦ absurd (new.0 other second (sym same ∙ ap (λ (it : Payment). it.ksn) (same_began one began is_one)))
  ]
  | inr first ↦ elim (front_or (Began began) earlier (Began other) in_other) [
    | inl is_other ↦ absurd (new.0 one first (same ∙ ap (λ (it : Payment). it.ksn) (same_began other began is_other)))
    | inr second ↦ one_began earlier one other new.1 first second same
  ]
]
