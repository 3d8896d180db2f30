-- The totals of what a till told as approved and of what stands in the book of many hosts.
use Rattle.std.proofs.Common.{◌≡◌, ◌≢◌, ◌⊎◌, ◌≤◌, ◌+◌, ◌∷◌, [], ℕ, List, Option, Some, None, AllPairs, Contains, get_or, inl, inr, refl, sym, ap, subst, ◌∙◌, arith}
use Rattle.std.proofs.lemmas.Bool.{eq-eqb, eqb-true}
use Rattle.std.proofs.lemmas.List.Elements.{Contains-get_or}
use Rattle.std.proofs.lemmas.List.Kept.{AllPairs-cons, AllPairs-filter}
use Rattle.std.proofs.lemmas.List.Sums.{sum_by-cons}
use Rattle.std.specs.List.{filter, sum_by}
use Rattle.duk_journal.specs.Groups.{Entries}
use Rattle.duk_journal.specs.Standing.{AddsAmount, StandsWith, is_by, standing_amount, standing_total}
use Rattle.duk_journal.specs.declared.entry.Entry as kept
use Rattle.duk_till.specs.History.{Entry, payment_of}
use Rattle.duk_till.specs.declared.last.Last.{Last}
use Rattle.duk_till.specs.declared.last.Last.TheVariants.{Open, Approved, Declined, Undone}
use Rattle.duk_till.specs.declared.last.Payment.{Payment}
use Rattle.duk_tree.specs.Serial.{Serial}
use Rattle.duk_journal.specs.Standing.{UseNewNumbers}
use Rattle.duk_hosts.specs.Tills.{IsMoreByOpen, StandingAreTold, ToldStand, is_under, sold_in, sold_total}
use Rattle.duk_hosts.proofs.Members.{first_in, front_or, later_in, none_in}
use Rattle.duk_hosts.proofs.GoingOn.{nat_or, number_or}
use Rattle.duk_hosts.proofs.Sold.{sold_once}
use Rattle.duk_hosts.proofs.Sums.{Covers, from_filter, in_filter, sum_covered}
use Rattle.duk_hosts.proofs.TillHolds.{same_open}

-- what entries add to a total
pub record TotalLaws : Type 0 where
  pub stands : (entries : Entries) (number : Serial) (amount : ℕ) → StandsWith entries number amount → AddsAmount entries number amount
  pub nothing_else : (entries : Entries) (entry : kept.Entry) → Contains entries entry → (standing_amount entries entry ≡ 0) ⊎ StandsWith entries entry.number (standing_amount entries entry)

abbrev number_of : kept.Entry → Serial
number_of entry = entry.number

abbrev sold_number : Payment → Serial
sold_number payment = payment.ksn

abbrev sold_amount : Payment → ℕ
sold_amount payment = payment.amount

module _ (adds : TotalLaws) (history : List Entry) (iksn : ℕ) (entries : Entries) (numbers : UseNewNumbers entries) (told_stand : ToldStand history iksn entries) where
  -- the payments that were told, and the entries, under the initial key serial number
  abbrev sold_under : List Payment
  sold_under = filter (is_under iksn) (sold_in history)

  abbrev entries_under : Entries
  entries_under = filter (is_by iksn) entries

  apart : AllPairs (λ one other. number_of one ≢ number_of other) entries_under
  apart = AllPairs-filter (λ one other. number_of one ≢ number_of other) (is_by iksn) entries (λ i j d below within same. numbers.new i j d below within (0, omega arith, same))

  sold_apart : AllPairs (λ one other. sold_number one ≢ sold_number other) sold_under
  sold_apart = AllPairs-filter (λ one other. sold_number one ≢ sold_number other) (is_under iksn) (sold_in history) (sold_once history)

  -- a payment that was told adds its amount
  covered : (payment : Payment) → Contains sold_under payment → Covers number_of (standing_amount entries) entries_under payment.ksn payment.amount
  covered payment is_in =
      let sold = from_filter (is_under iksn) (sold_in history) payment is_in in
      let own : payment.ksn.iksn ≡ iksn = eqb-true payment.ksn.iksn iksn sold.1 in
      let it = adds.stands entries payment.ksn payment.amount (told_stand payment own sold.0) in
      record {
        thing = it.entry;
        is_in = in_filter (is_by iksn) entries it.entry it.kept (eq-eqb it.entry.number.iksn iksn (ap (λ (number : Serial). number.iksn) it.number_is ∙ own));
        number_is = it.number_is;
        enough = omega (arith, it.adds);
      }

  pub no_less : sold_total history iksn ≤ standing_total entries iksn
  no_less = sum_covered sold_number number_of sold_amount (standing_amount entries) sold_under entries_under sold_apart (λ payment is_in. inr (covered payment is_in))

  -- an entry of a number adds something, or none does
  abbrev AddNothing : Entries → Serial → Type 0
  AddNothing things ksn = (entry : kept.Entry) → Contains things entry → entry.number ≡ ksn → standing_amount entries entry ≡ 0

  abbrev AddsSomething : Serial → Type 0
  AddsSomething ksn = (entry : kept.Entry) × Contains entries entry × (entry.number ≡ ksn) × StandsWith entries entry.number (standing_amount entries entry)

  adds_or_not : (ksn : Serial) (things : Entries) → ((entry : kept.Entry) → Contains things entry → Contains entries entry) → AddsSomething ksn ⊎ AddNothing things ksn
  adds_or_not ksn [] within = inr (λ entry is_in. absurd (none_in entry is_in))
  adds_or_not ksn (first ∷ things) within = elim (adds_or_not ksn things (λ entry is_in. within entry (later_in first things entry is_in))) [
    | inl found ↦ inl found
    | inr none ↦ elim (adds.nothing_else entries first (within first (first_in first things))) [
      | inl nothing ↦ inr (λ entry is_in same. elim (front_or first things entry is_in) [
        | inl is ↦ subst (λ it. standing_amount entries it ≡ 0) (sym is) nothing
        | inr later ↦ none entry later same
      ])
      | inr stands ↦ elim (number_or first.number ksn) [
        | inl same ↦ inl (first, within first (first_in first things), same, stands)
        | inr other ↦ inr (λ entry is_in same. elim (front_or first things entry is_in) [
          | inl is ↦ absurd (other (ap (λ (it : kept.Entry). it.number) (sym is) ∙ same))
          | inr later ↦ none entry later same
        ])
      ]
    ]
  ]

  module _ (last : Option Last) (standing_told : StandingAreTold history iksn last entries) where
    -- an entry that adds its amount is one of these payments, or the purchase that is open
    covers_or : (others : List Payment) → ((payment : Payment) → Contains sold_under payment → Contains others payment)
        → ((entry : kept.Entry) → Contains entries entry → entry.number.iksn ≡ iksn → last ≡ Some (Open entry.number (standing_amount entries entry))
        → (standing_amount entries entry ≡ 0) ⊎ Covers sold_number sold_amount others entry.number (standing_amount entries entry))
        → standing_total entries iksn ≤ sum_by sold_amount others
    covers_or others within when_open = sum_covered number_of sold_number (standing_amount entries) sold_amount entries_under others apart (λ entry is_in.
        let kept = from_filter (is_by iksn) entries entry is_in in
        let own : entry.number.iksn ≡ iksn = eqb-true entry.number.iksn iksn kept.1 in
        let payment = payment_of entry.number (standing_amount entries entry) in
        elim (adds.nothing_else entries entry kept.0) [
          | inl nothing ↦ inl nothing
          | inr stands ↦ elim (standing_told payment own stands) [
            | inl sold ↦ inr (record { thing = payment; is_in = within payment (in_filter (is_under iksn) (sold_in history) payment sold (eq-eqb entry.number.iksn iksn own)); number_is = refl; enough = omega arith })
            | inr opened ↦ when_open entry kept.0 own opened
          ]
        ])

    -- where the open purchase adds nothing, the total is what was told
    all_told : ((entry : kept.Entry) → Contains entries entry → entry.number.iksn ≡ iksn → last ≡ Some (Open entry.number (standing_amount entries entry)) → standing_amount entries entry ≡ 0)
        → standing_total entries iksn ≡ sold_total history iksn
    all_told none = omega (arith, no_less, covers_or sold_under (λ payment is_in. is_in) (λ entry kept own opened. inl (none entry kept own opened)))

    -- where it stands, the total has its amount too
    open_too : (ksn : Serial) (amount : ℕ) → last ≡ Some (Open ksn amount) → ((payment : Payment) → Contains (sold_in history) payment → payment.ksn ≢ ksn)
        → ksn.iksn ≡ iksn → (entry : kept.Entry) → Contains entries entry → entry.number ≡ ksn → StandsWith entries entry.number (standing_amount entries entry)
        → standing_total entries iksn ≡ sold_total history iksn + amount
    open_too ksn amount opened not_sold under entry is_kept number_is stands =
        let opens = payment_of ksn amount in
        let own : entry.number.iksn ≡ iksn = ap (λ (number : Serial). number.iksn) number_is ∙ under in
        let payment = payment_of entry.number (standing_amount entries entry) in
        let same : standing_amount entries entry ≡ amount = elim (standing_told payment own stands) [
          | inl sold ↦ absurd (not_sold payment sold number_is)
          | inr also ↦ sym (same_open ksn entry.number amount (standing_amount entries entry) (sym opened ∙ also)).1
        ] in
        let least = sum_covered sold_number number_of sold_amount (standing_amount entries) (opens ∷ sold_under) entries_under
        (AllPairs-cons (λ one other. sold_number one ≢ sold_number other) opens sold_under
        (λ i d within same.
        let found = from_filter (is_under iksn) (sold_in history) (get_or sold_under i d) (Contains-get_or sold_under i d within) in
        not_sold (get_or sold_under i d) found.0 (sym same))
        sold_apart)
        (λ it is_in. elim (front_or opens sold_under it is_in) [
          | inl is ↦ inr (record {
            thing = entry;
            is_in = in_filter (is_by iksn) entries entry is_kept (eq-eqb entry.number.iksn iksn own);
            number_is = number_is ∙ sym (ap sold_number is);
            enough = omega (arith, same, ap sold_amount is);
          })
          | inr later ↦ inr (covered it later)
        ]) in
        let most = covers_or (opens ∷ sold_under) (λ it is_in. later_in opens sold_under it is_in) (λ other other_kept other_own also.
        let is = same_open ksn other.number amount (standing_amount entries other) (sym opened ∙ also) in
        inr (record { thing = opens; is_in = first_in opens sold_under; number_is = is.0; enough = omega (arith, is.1) })) in
        omega (arith, least, most, sum_by-cons sold_amount opens sold_under)

    -- the totals are equal, or differ by the purchase that is open
    abbrev pub EqualOrOpen : Type 0
    EqualOrOpen = (standing_total entries iksn ≡ sold_total history iksn) ⊎ IsMoreByOpen iksn last (standing_total entries iksn) (sold_total history iksn)

    pub none_open : ((ksn : Serial) (amount : ℕ) → last ≢ Some (Open ksn amount)) → standing_total entries iksn ≡ sold_total history iksn
    none_open closed = all_told (λ entry is_kept own opened. absurd (closed entry.number (standing_amount entries entry) opened))

    one_open : (ksn : Serial) (amount : ℕ) → last ≡ Some (Open ksn amount) → ((payment : Payment) → Contains (sold_in history) payment → payment.ksn ≢ ksn) → EqualOrOpen
    one_open ksn amount opened not_sold = elim (adds_or_not ksn entries (λ entry is_in. is_in)) [
      | inr none ↦ inl (all_told (λ entry is_kept own also. none entry is_kept (sym (same_open ksn entry.number amount (standing_amount entries entry) (sym opened ∙ also)).0)))
      | inl found ↦ elim (nat_or ksn.iksn iksn) [
        | inl under ↦ inr (record { ksn = ksn; amount = amount; is_open = opened; own = under; more = open_too ksn amount opened not_sold under found.0 found.1 found.2 found.3 })
        | inr other ↦ inl (all_told (λ entry is_kept own also. absurd (other (ap (λ (number : Serial). number.iksn) (same_open ksn entry.number amount (standing_amount entries entry) (sym opened ∙ also)).0 ∙ own))))
      ]
    ]

    open_or : (it : Option Last) → ((ksn : Serial) × (amount : ℕ) × (it ≡ Some (Open ksn amount))) ⊎ ((ksn : Serial) (amount : ℕ) → it ≢ Some (Open ksn amount))
    open_or None = inr (λ ksn amount same. absurd (cc))
    open_or (Some (Open ksn amount)) = inl (ksn, amount, refl)
    open_or (Some (Approved number sum)) = inr (λ ksn amount same. absurd (cc))
    open_or (Some (Declined number why)) = inr (λ ksn amount same. absurd (cc))
    open_or (Some (Undone number)) = inr (λ ksn amount same. absurd (cc))

    -- whatever the last purchase is
    pub equal_or_open : ((ksn : Serial) (amount : ℕ) → last ≡ Some (Open ksn amount) → (payment : Payment) → Contains (sold_in history) payment → payment.ksn ≢ ksn) → EqualOrOpen
    equal_or_open not_sold = elim (open_or last) [
      | inl opened ↦ one_open opened.0 opened.1 opened.2 (not_sold opened.0 opened.1 opened.2)
      | inr closed ↦ inl (none_open closed)
    ]
