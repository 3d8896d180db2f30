-- The totals of the merchants' book and of the host agree.
use Rattle.std.proofs.Common.{◌≡◌, ◌≢◌, ◌⊎◌, ◌≤◌, ◌+◌, ◌&&◌, ◌∷◌, [], ℕ, Bool, true, false, List, Option, Some, None, IfSome, All, AllPairs, Contains, get_or, if◌then◌else◌, inl, inr, nat_eq, refl, sym, ap, subst, ◌∙◌, arith}
use Rattle.std.proofs.lemmas.Bool.{eq-eqb, eqb-true}
use Rattle.std.proofs.lemmas.Bool.Decides.{eqb_tells}
use Rattle.std.proofs.lemmas.List.Elements.{All-contains, Contains-get_or}
use Rattle.std.proofs.lemmas.List.Kept.{AllPairs-cons, AllPairs-filter}
use Rattle.std.proofs.lemmas.List.Sums.{sum_by-cons}
use Rattle.std.proofs.lemmas.Option.{slice_get_cases}
use Rattle.std.specs.List.{filter, sum_by}
use Rattle.duk_journal.specs.Groups.{Entries}
use Rattle.duk_journal.specs.Standing.{AddsAmount, StandsWith, is_by, standing_amount, standing_total, whole_total}
use Rattle.duk_journal.specs.declared.entry.Entry.{Entry}
use Rattle.duk_till.specs.History.{payment_of}
use Rattle.duk_till.specs.Till.{IsAtRest, TillOf}
use Rattle.duk_till.specs.declared.last.Last.{Last}
use Rattle.duk_till.specs.declared.last.Last.TheVariants.{Open, Approved, Declined, Undone}
use Rattle.duk_till.specs.declared.last.Payment.{Payment}
use Rattle.duk_till.specs.declared.state.TillState.TheVariants.{Running}
use Rattle.duk_tree.specs.Serial.{Serial}
use Rattle.duk_books.specs.Agree.{StandsOf}
use Rattle.duk_books.specs.Books.{BooksOf, Meanings}
use Rattle.duk_stations.specs.Places.{HasOne, IsAt}
use Rattle.duk_stations.specs.Owner.{IsOwner, Owns}
use Rattle.duk_books.specs.Reached.{Reached}
use Rattle.duk_books.specs.Sales.{sale_of}
use Rattle.duk_books.specs.Totals.{TotalsAgree, is_sale_of, open_amount, told_total, whole_told_total}
use Rattle.duk_books.specs.declared.sales.Sale.{Sale}
use Rattle.duk_books.specs.inner.Known.{BookLaws}
use Rattle.duk_books.proofs.agreement.Agreement.{agrees, asked_for, entries_hold, reached_holds, standing_told, told_stand}
use Rattle.duk_books.proofs.agreement.BooksHold.{BooksHold, Holds, lists_of}
use Rattle.duk_books.proofs.agreement.Facts.{none_in}
use Rattle.duk_books.proofs.agreement.HostHolds.{EntriesHold}
use Rattle.duk_books.proofs.agreement.OwnersAreTills.{owners_are_tills}
use Rattle.duk_books.proofs.agreement.SumsCompared.{Covers, at_front, behind, from_filter, front_or, in_filter, sum_covered}
use Rattle.duk_books.proofs.agreement.Tills.{Fits}
use Rattle.duk_stations.proofs.PlacesInLists.{at_contains}

-- what entries add to a total
pub record TotalLaws : Type 0 where
  pub stands : (entries : Entries) (number : Serial) (amount : ℕ) → StandsWith entries number amount → AddsAmount entries number amount
  pub nothing_else : (entries : Entries) (entry : Entry) → Contains entries entry → (standing_amount entries entry ≡ 0) ⊎ StandsWith entries entry.number (standing_amount entries entry)

-- ---- tests

both : (one other : Bool) → (one && other) ≡ true → (one ≡ true) × (other ≡ true)
both true true are = (refl, refl)
both true false are = absurd (cc)
both false other are = absurd (cc)

-- what is a sale of a till, under an initial key serial number
is_sale : (t iksn : ℕ) (sale : Sale) → sale.t ≡ t → sale.payment.ksn.iksn ≡ iksn → is_sale_of t iksn sale ≡ true
is_sale t iksn sale till own = ap (λ (b : Bool). b && nat_eq sale.payment.ksn.iksn iksn) (eq-eqb sale.t t till) ∙ eq-eqb sale.payment.ksn.iksn iksn own

sale_is : (t iksn : ℕ) (sale : Sale) → is_sale_of t iksn sale ≡ true → (sale.t ≡ t) × (sale.payment.ksn.iksn ≡ iksn)
sale_is t iksn sale is =
    let tests = both (nat_eq sale.t t) (nat_eq sale.payment.ksn.iksn iksn) is in
    (eqb-true sale.t t tests.0, eqb-true sale.payment.ksn.iksn iksn tests.1)

-- one open purchase
same_open : (ksn other : Serial) (amount sum : ℕ) → Some (Open ksn amount) ≡ Some (Open other sum) → (ksn ≡ other) × (amount ≡ sum)
same_open ksn other amount sum same = (cc, cc)

same_or_not : (ksn other : Serial) → (ksn ≡ other) ⊎ (ksn ≢ other)
same_or_not ksn other = elim (eqb_tells ksn.iksn other.iksn) [
  | inr apart ↦ inr (λ same. apart.1 (ap (λ (it : Serial). it.iksn) same))
  | inl iksn ↦ elim (eqb_tells ksn.counter other.counter) [
    | inr apart ↦ inr (λ same. apart.1 (ap (λ (it : Serial). it.counter) same))
    | inl counter ↦ inl (ap (λ (i : ℕ). record { iksn = i; counter = ksn.counter }) iksn.1 ∙ ap (λ (k : ℕ). record { iksn = other.iksn; counter = k }) counter.1)
  ]
]

-- ---- the totals

thing_at : {A : Type 0} (things : List A) (t : ℕ) → HasOne things t → (thing : A) × IsAt things t thing
thing_at things t one = elim (slice_get_cases things one.place).1 [
  | inl is ↦ (is.0, record { place = one.place; number_is = one.number_is; thing_is = is.2 })
  | inr past ↦ absurd (omega (arith, past.0, one.within))
]

abbrev number_of : Entry → Serial
number_of entry = entry.number

abbrev sold_number : Sale → Serial
sold_number sale = sale.payment.ksn

abbrev sold_amount : Sale → ℕ
sold_amount sale = sale.payment.amount

module _ {C B J I : Type 0} (m : Meanings C B J I) (adds : TotalLaws) (books : BooksOf C B J I) (begun : List Serial) (holds : BooksHold m books begun) (entries : Entries) (hold : EntriesHold books.requests books.answers entries) where
  -- no two entries have one number
  apart : AllPairs (λ one other. number_of one ≢ number_of other) entries
  apart = λ i j d below within same. hold.new_numbers.new i j d below within (0, omega arith, same)

  sales_apart : AllPairs (λ one other. sold_number one ≢ sold_number other) books.sales
  sales_apart = holds.once

  -- a sale stands, so its amount is one of those that are added
  added : (sale : Sale) → Contains books.sales sale → AddsAmount entries sale.payment.ksn sale.payment.amount
  added sale sold = adds.stands entries sale.payment.ksn sale.payment.amount (told_stand m books begun holds entries hold sale.t sale.payment sold).stands

  -- the sales of a till under an initial key serial number
  abbrev sales_under : ℕ → ℕ → List Sale
  sales_under t iksn = filter (is_sale_of t iksn) books.sales

  sale_covered : (t iksn : ℕ) (sale : Sale) → Contains (sales_under t iksn) sale → Covers number_of (standing_amount entries) (filter (is_by iksn) entries) sale.payment.ksn sale.payment.amount
  sale_covered t iksn sale is_in =
      let sold = from_filter (is_sale_of t iksn) books.sales sale is_in in
      let it = added sale sold.0 in
      record {
        thing = it.entry;
        is_in = in_filter (is_by iksn) entries it.entry it.kept (eq-eqb it.entry.number.iksn iksn (ap (λ (n : Serial). n.iksn) it.number_is ∙ (sale_is t iksn sale sold.1).1));
        number_is = it.number_is;
        enough = omega (arith, it.adds);
      }

  sales_under_apart : (t iksn : ℕ) → AllPairs (λ one other. sold_number one ≢ sold_number other) (sales_under t iksn)
  sales_under_apart t iksn = AllPairs-filter (λ one other. sold_number one ≢ sold_number other) (is_sale_of t iksn) books.sales sales_apart

  never_less : (t iksn : ℕ) → told_total books.sales t iksn ≤ standing_total entries iksn
  never_less t iksn =
      sum_covered sold_number number_of sold_amount (standing_amount entries) (sales_under t iksn) (filter (is_by iksn) entries) (sales_under_apart t iksn) (λ sale is_in. inr (sale_covered t iksn sale is_in))

  -- an entry of a number adds something, or none does
  abbrev AddNothing : Entries → Serial → Type 0
  AddNothing things ksn = (entry : Entry) → Contains things entry → entry.number ≡ ksn → standing_amount entries entry ≡ 0

  adds_or_not : (ksn : Serial) (things : Entries) → ((entry : Entry) → Contains things entry → Contains entries entry)
      → ((entry : Entry) × Contains entries entry × (entry.number ≡ ksn) × StandsWith entries entry.number (standing_amount entries entry)) ⊎ AddNothing things ksn
  adds_or_not ksn [] within = inr (λ entry is_in. absurd (none_in entry is_in))
  adds_or_not ksn (first ∷ things) within = elim (adds_or_not ksn things (λ entry is_in. within entry (behind first things entry is_in))) [
    | inl found ↦ inl found
    | inr none ↦ elim (adds.nothing_else entries first (within first (at_front first things))) [
      | inl nothing ↦ inr (λ entry is_in same. elim (front_or first things entry is_in) [
        | inl is ↦ subst (λ (it : Entry). standing_amount entries it ≡ 0) (sym is) nothing
        | inr later ↦ none entry later same
      ])
      | inr stands ↦ elim (same_or_not first.number ksn) [
        | inl same ↦ inl (first, within first (at_front first things), same, stands)
        | inr other ↦ inr (λ entry is_in same. elim (front_or first things entry is_in) [
          | inl is ↦ absurd (other (ap (λ (it : Entry). it.number) (sym is) ∙ same))
          | inr later ↦ none entry later same
        ])
      ]
    ]
  ]

  module _ (t iksn : ℕ) (till : TillOf C B) (last : Option Last) (at : IsAt books.tills t till) (is_running : till.state ≡ Running last) (owner : IsOwner books.owners iksn t) where
    -- what is added is covered by sales, where that is which may be open
    covered_by : (others : List Sale) → ((sale : Sale) → Contains (sales_under t iksn) sale → Contains others sale)
        → ((entry : Entry) → Contains entries entry → entry.number.iksn ≡ iksn → last ≡ Some (Open entry.number (standing_amount entries entry))
        → (standing_amount entries entry ≡ 0) ⊎ Covers sold_number sold_amount others entry.number (standing_amount entries entry))
        → standing_total entries iksn ≤ sum_by sold_amount others
    covered_by others within when_open =
        sum_covered number_of sold_number (standing_amount entries) sold_amount (filter (is_by iksn) entries) others
        (AllPairs-filter (λ one other. number_of one ≢ number_of other) (is_by iksn) entries apart)
        (λ entry is_in.
        let kept = from_filter (is_by iksn) entries entry is_in in
        let own : entry.number.iksn ≡ iksn = eqb-true entry.number.iksn iksn kept.1 in
        let payment = payment_of entry.number (standing_amount entries entry) in
        elim (adds.nothing_else entries entry kept.0) [
          | inl nothing ↦ inl nothing
          | inr stands ↦ elim (standing_told m books begun holds entries hold t till last at is_running payment (record { owned = subst (λ it. IsOwner books.owners it t) (sym own) owner; stands = stands })) [
            | inl sold ↦ inr (record {
              thing = sale_of t payment;
              is_in = within (sale_of t payment) (in_filter (is_sale_of t iksn) books.sales (sale_of t payment) sold (is_sale t iksn (sale_of t payment) refl own));
              number_is = refl;
              enough = omega arith;
            })
            | inr opened ↦ when_open entry kept.0 own opened
          ]
        ])

    -- where the open purchase adds nothing, the total is what was told
    all_told : ((entry : Entry) → Contains entries entry → entry.number.iksn ≡ iksn → last ≡ Some (Open entry.number (standing_amount entries entry)) → standing_amount entries entry ≡ 0)
        → standing_total entries iksn ≡ told_total books.sales t iksn
    all_told none = omega (arith, never_less t iksn, covered_by (sales_under t iksn) (λ sale is_in. is_in) (λ entry kept own opened. inl (none entry kept own opened)))

    -- an open purchase was not told
    not_sold : (ksn : Serial) (amount : ℕ) (sale : Sale) → last ≡ Some (Open ksn amount) → Contains books.sales sale → sale.t ≡ t → sale.payment.ksn ≢ ksn
    not_sold ksn amount sale opened sold here number =
        let fits = subst (λ (it : Option Last). IfSome it (Fits (lists_of books begun) t)) opened ((holds.tills t till at).book.runs last is_running).1 in
        fits.1 sale.payment.amount (subst (λ n. Contains books.sales (sale_of n (payment_of ksn sale.payment.amount))) here
        (subst (λ (it : Serial). Contains books.sales (sale_of sale.t (payment_of it sale.payment.amount))) number sold))

    -- where it stands, the total has its amount too
    open_too : (ksn : Serial) (amount : ℕ) → ksn.iksn ≡ iksn → last ≡ Some (Open ksn amount) → (entry : Entry) → Contains entries entry → entry.number ≡ ksn → StandsWith entries entry.number (standing_amount entries entry)
        → standing_total entries iksn ≡ told_total books.sales t iksn + amount
    open_too ksn amount under opened entry kept number_is stands =
        let opens = sale_of t (payment_of ksn amount) in
        let told = sales_under t iksn in
        let own : entry.number.iksn ≡ iksn = ap (λ (n : Serial). n.iksn) number_is ∙ under in
        let payment = payment_of entry.number (standing_amount entries entry) in
        let same : standing_amount entries entry ≡ amount = elim (standing_told m books begun holds entries hold t till last at is_running payment (record { owned = subst (λ it. IsOwner books.owners it t) (sym own) owner; stands = stands })) [
          | inl sold ↦ absurd (not_sold ksn amount (sale_of t payment) opened sold refl number_is)
          | inr also ↦ sym (same_open ksn entry.number amount (standing_amount entries entry) (sym opened ∙ also)).1
        ] in
        let least = sum_covered sold_number number_of sold_amount (standing_amount entries) (opens ∷ told) (filter (is_by iksn) entries)
        (AllPairs-cons (λ one other. sold_number one ≢ sold_number other) opens told
        (λ i d within same.
        let found = from_filter (is_sale_of t iksn) books.sales (get_or told i d) (Contains-get_or told i d within) in
        not_sold ksn amount (get_or told i d) opened found.0 (sale_is t iksn (get_or told i d) found.1).0 (sym same))
        (sales_under_apart t iksn))
        (λ sale is_in. elim (front_or opens told sale is_in) [
          | inl is ↦ inr (record {
            thing = entry;
            is_in = in_filter (is_by iksn) entries entry kept (eq-eqb entry.number.iksn iksn own);
            number_is = number_is ∙ sym (ap sold_number is);
            enough = omega (arith, same, ap sold_amount is);
          })
          | inr later ↦ inr (sale_covered t iksn sale later)
        ]) in
        let most = covered_by (opens ∷ told) (λ sale is_in. behind opens told sale is_in) (λ other other_kept other_own also.
        let is = same_open ksn other.number amount (standing_amount entries other) (sym opened ∙ also) in
        inr (record { thing = opens; is_in = at_front opens told; number_is = is.0; enough = omega (arith, is.1) })) in
        omega (arith, least, most, sum_by-cons sold_amount opens told)

  abbrev IsEqualOrApart : ℕ → ℕ → Option Last → Type 0
  IsEqualOrApart t iksn last = (standing_total entries iksn ≡ told_total books.sales t iksn) ⊎ (standing_total entries iksn ≡ told_total books.sales t iksn + open_amount iksn last)

  runs_open : (t iksn : ℕ) (till : TillOf C B) (ksn : Serial) (amount : ℕ) → IsAt books.tills t till → till.state ≡ Running (Some (Open ksn amount)) → IsOwner books.owners iksn t → IsEqualOrApart t iksn (Some (Open ksn amount))
  runs_open t iksn till ksn amount at is_running owner = elim (eqb_tells ksn.iksn iksn) [
    | inr other ↦ inl (all_told t iksn till (Some (Open ksn amount)) at is_running owner
        (λ entry kept own opened. absurd (other.1 (ap (λ (n : Serial). n.iksn) (same_open ksn entry.number amount (standing_amount entries entry) opened).0 ∙ own))))
    | inl under ↦ elim (adds_or_not ksn entries (λ entry is_in. is_in)) [
      | inr none ↦ inl (all_told t iksn till (Some (Open ksn amount)) at is_running owner
          (λ entry kept own opened. none entry kept (sym (same_open ksn entry.number amount (standing_amount entries entry) opened).0)))
      | inl found ↦ inr (open_too t iksn till (Some (Open ksn amount)) at is_running owner ksn amount under.1 refl found.0 found.1 found.2 found.3
          ∙ ap (λ (b : Bool). told_total books.sales t iksn + (if b then amount else 0)) (sym under.0))
    ]
  ]

  none_opened : (t iksn : ℕ) (till : TillOf C B) (last : Option Last) → IsAt books.tills t till → till.state ≡ Running last → IsOwner books.owners iksn t → ((ksn : Serial) (amount : ℕ) → last ≢ Some (Open ksn amount))
      → standing_total entries iksn ≡ told_total books.sales t iksn
  none_opened t iksn till last at is_running owner closed = all_told t iksn till last at is_running owner (λ entry kept own opened. absurd (closed entry.number (standing_amount entries entry) opened))

  runs : (t iksn : ℕ) (till : TillOf C B) (last : Option Last) → IsAt books.tills t till → till.state ≡ Running last → Owns books.owners iksn t → IsEqualOrApart t iksn last
  runs t iksn till (Some (Open ksn amount)) at is_running owns = runs_open t iksn till ksn amount at is_running (holds.one_owner iksn t owns)
  runs t iksn till None at is_running owns = inl (none_opened t iksn till None at is_running (holds.one_owner iksn t owns) (λ ksn amount same. cc))
  runs t iksn till (Some (Approved number sum)) at is_running owns = inl (none_opened t iksn till _ at is_running (holds.one_owner iksn t owns) (λ ksn amount same. cc))
  runs t iksn till (Some (Declined number why)) at is_running owns = inl (none_opened t iksn till _ at is_running (holds.one_owner iksn t owns) (λ ksn amount same. cc))
  runs t iksn till (Some (Undone number)) at is_running owns = inl (none_opened t iksn till _ at is_running (holds.one_owner iksn t owns) (λ ksn amount same. cc))

  at_rest : (t iksn : ℕ) (till : TillOf C B) → IsAt books.tills t till → IsAtRest till.state → Owns books.owners iksn t → standing_total entries iksn ≡ told_total books.sales t iksn
  at_rest t iksn till at rest owns = none_opened t iksn till rest.last at rest.runs (holds.one_owner iksn t owns) rest.closed

  told_at : (t : ℕ) (payment : Payment) → All (λ till. IsAtRest till.state) books.tills → HasOne books.tills t → StandsOf entries books.owners t payment → Contains books.sales (sale_of t payment)
  told_at t payment rest one stands =
      let found = thing_at books.tills t one in
      let resting = All-contains (λ till. IsAtRest till.state) books.tills found.0 rest (at_contains books.tills t found.0 found.1) in
      (agrees m books begun holds entries hold t found.0 found.1 resting).standing_told payment stands

  -- what an entry adds was told, where all tills are at rest
  told_of_all : ((iksn t : ℕ) → Owns books.owners iksn t → HasOne books.tills t) → All (λ till. IsAtRest till.state) books.tills → (entry : Entry) → Contains entries entry
      → (standing_amount entries entry ≡ 0) ⊎ Covers sold_number sold_amount books.sales entry.number (standing_amount entries entry)
  told_of_all are rest entry is_in = elim (adds.nothing_else entries entry is_in) [
    | inl nothing ↦ inl nothing
    | inr stands ↦
        let amount = standing_amount entries entry in
        let owner = holds.begun_owned entry.number (holds.asked entry.number amount (asked_for m books begun holds entries hold entry.number amount stands)) in
        let one = are entry.number.iksn owner.0 owner.1.owns in
        inr (record {
          thing = sale_of owner.0 (payment_of entry.number amount);
          is_in = told_at owner.0 (payment_of entry.number amount) rest one (record { owned = owner.1; stands = stands });
          number_is = refl;
          enough = omega arith;
        })
  ]

  whole : ((iksn t : ℕ) → Owns books.owners iksn t → HasOne books.tills t) → All (λ till. IsAtRest till.state) books.tills → whole_total entries ≡ whole_told_total books.sales
  whole are rest =
      let most = sum_covered number_of sold_number (standing_amount entries) sold_amount entries books.sales apart (told_of_all are rest) in
      let least = sum_covered sold_number number_of sold_amount (standing_amount entries) books.sales entries sales_apart (λ sale sold.
      let it = added sale sold in inr (record { thing = it.entry; is_in = it.kept; number_is = it.number_is; enough = omega (arith, it.adds) })) in
      omega (arith, most, least)

totals_agree : {C B J I : Type 0} (m : Meanings C B J I) (adds : TotalLaws) (books : BooksOf C B J I) → ((iksn t : ℕ) → Owns books.owners iksn t → HasOne books.tills t) → Holds m books → TotalsAgree m books
totals_agree m adds books are (begun, holds) = record {
  never_less = λ t iksn entries from. never_less m adds books begun holds entries (entries_hold m books begun entries holds from) t iksn;
  runs = λ t iksn till last entries at is_running owns from. runs m adds books begun holds entries (entries_hold m books begun entries holds from) t iksn till last at is_running owns;
  at_rest = λ t iksn till entries at rest owns from. at_rest m adds books begun holds entries (entries_hold m books begun entries holds from) t iksn till at rest owns;
  whole = λ entries rest from. whole m adds books begun holds entries (entries_hold m books begun entries holds from) are rest;
}

-- so it is of all that is reached
pub reached_totals : {C B J I : Type 0} (m : Meanings C B J I) → BookLaws m → TotalLaws → (books : BooksOf C B J I) → Reached m books → TotalsAgree m books
reached_totals m laws adds books reached = totals_agree m adds books (owners_are_tills m books reached) (reached_holds m laws books reached)
