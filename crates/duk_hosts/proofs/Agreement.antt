-- What a till told as approved and what stands in the book of many hosts agree.
use Rattle.std.proofs.Common.{◌≡◌, ◌≢◌, ◌∷◌, [], ℕ, suc, List, Option, Some, AllPairs, Contains, inl, inr, refl, sym, ap, subst, ◌∙◌, arith}
use Rattle.duk_frame.specs.declared.code.Code.{Code}
use Rattle.duk_frame.specs.declared.code.Code.TheVariants as code
use Rattle.duk_journal.specs.Groups.{Entries}
use Rattle.duk_journal.specs.Standing.{Stands, StandsWith, numbers_in, payment_entry, reversed_numbers}
use Rattle.duk_journal.specs.declared.entry.Decided.TheVariants.{Payment as PaymentDecided}
use Rattle.duk_journal.specs.declared.entry.Entry as kept
use Rattle.duk_store.specs.Cell.{CellMeaning}
use Rattle.duk_till.specs.History.{Entry, IsOf, IsToldAlike, Told, payment_of}
use Rattle.duk_till.specs.Lifetime.{Call, IsLifetime}
use Rattle.duk_till.specs.Till.{IsAtRest, TillOf}
use Rattle.duk_till.specs.declared.last.Last.{Last}
use Rattle.duk_till.specs.declared.last.Last.TheVariants.{Open, Approved, Declined, Undone}
use Rattle.duk_till.specs.declared.last.Payment.{Payment}
use Rattle.duk_till.specs.declared.state.TillState.TheVariants.{Running}
use Rattle.duk_tree.specs.Serial.{Serial}
use Rattle.duk_hosts.specs.Tills.{AgreeOn, StandingAreTold, ToldStand, all_sent, sold_in}
use Rattle.duk_hosts.proofs.Members.{front_or, none_in}
use Rattle.duk_hosts.proofs.Origins.{KeepsOf}
use Rattle.duk_hosts.proofs.Sent.{IsAsked}
use Rattle.duk_hosts.proofs.Sold.{one_began, sold_was_told, told_is_sold}
use Rattle.duk_hosts.proofs.TillHolds.{Holds}
use Rattle.duk_hosts.proofs.TillLifetime.{lifetime_holds}
use Rattle.duk_hosts.proofs.TillSends.{TillLaws}

-- ---- entries of one number are equal

abbrev AreNewInTurn : Entries → Type 0
AreNewInTurn entries = AllPairs (λ earlier later. ¬ Contains (numbers_in earlier) later.number) entries

new_later : (first : kept.Entry) (entries : Entries) → AreNewInTurn (first ∷ entries) → AreNewInTurn entries
new_later first entries new = λ i j d below within. new (suc i) (suc j) d (omega arith) (omega arith)

not_later : (first : kept.Entry) (entries : Entries) (entry : kept.Entry) → AreNewInTurn (first ∷ entries) → first.number ≡ entry.number → ¬ Contains entries entry
not_later first entries entry new same (j, within, is) =
    new 0 (suc j) entry (omega arith) (omega (arith, within)) (0, omega arith, same ∙ ap (λ (entry : kept.Entry). entry.number) (sym is))

one_entry : (entries : Entries) (one other : kept.Entry) → AreNewInTurn entries → Contains entries one → Contains entries other → one.number ≡ other.number → one ≡ other
one_entry [] one other new in_one in_other same = absurd (none_in one in_one)
one_entry (first ∷ entries) one other new in_one in_other same = elim (front_or first entries one in_one) [
  | inl one_is ↦ elim (front_or first entries other in_other) [
    | inl other_is ↦ one_is ∙ sym other_is
    | inr later ↦ absurd (not_later first entries other new (ap (λ (entry : kept.Entry). entry.number) (sym one_is) ∙ same) later)
  ]
  | inr later ↦ elim (front_or first entries other in_other) [
    | inl other_is ↦ absurd (not_later first entries one new (ap (λ (entry : kept.Entry). entry.number) (sym other_is) ∙ sym same) later)
    | inr also ↦ one_entry entries one other (new_later first entries new) later also same
  ]
]

same_decided : (amount sum : ℕ) (one other : Code) → PaymentDecided amount one ≡ PaymentDecided sum other → one ≡ other
same_decided amount sum one other same = cc

same_approved : (ksn other : Serial) (amount sum : ℕ) → Approved ksn amount ≡ Approved other sum → payment_of ksn amount ≡ payment_of other sum
same_approved ksn other amount sum same = cc

module _ {C J : Type 0} (cell : CellMeaning C) (book : CellMeaning J) (laws : TillLaws cell book) (alike : (calls : List Call) (history : List Entry) (till : TillOf C J) → IsLifetime cell book calls history till → IsToldAlike history)
    (calls : List Call) (history : List Entry) (till : TillOf C J) (life : IsLifetime cell book calls history till) (iksn : ℕ) (entries : Entries) (keeps : KeepsOf calls iksn entries) where
  holds : Holds laws.reading book calls history till
  holds = lifetime_holds cell book laws calls history till life

  -- ---- what was told stands

  approved_stands : (ksn : Serial) (amount : ℕ) → ksn.iksn ≡ iksn → Contains history (Told (Approved ksn amount)) → StandsWith entries ksn amount
  approved_stands ksn amount own told =
      let known = (holds.told (Approved ksn amount) told).1 in
      let paid = keeps.replied ksn code.Approved known.0 in
      let began = holds.asked ksn paid.0 (keeps.payments ksn paid.0 code.Approved paid.1 own paid.2) in
      let of = laws.begun calls history till life (Approved ksn amount) told in
      let same : payment_of ksn paid.0 ≡ payment_of ksn amount =
      one_began history (payment_of ksn paid.0) of.0 (laws.numbers calls history till life) began of.1 (ap (λ (it : Payment). it.ksn) (sym of.2)) ∙ of.2 in
      record {
        stands = record {
          approved = record { amount = paid.0; mac = paid.1; kept = paid.2 };
          not_undone = λ has. known.1 (keeps.reversals ksn own has);
        };
        amount_is = ap (λ (it : Payment). it.amount) same;
      }

  pub told_stand : ToldStand history iksn entries
  told_stand payment own sold = approved_stands payment.ksn payment.amount own (sold_was_told history payment sold)

  -- ---- what stands was told

  declined_stands : (ksn : Serial) (why : Code) → why ≢ code.Approved → (amount : ℕ) × (mac : List ℕ) × Contains entries (payment_entry ksn amount why mac) → ¬ Stands entries ksn
  declined_stands ksn why other paid stands =
      let has = stands.approved in
      let one = payment_entry ksn paid.0 why paid.1 in
      let two = payment_entry ksn has.amount code.Approved has.mac in
      let same : one ≡ two = one_entry entries one two keeps.numbers.new paid.2 has.kept refl in
      other (same_decided paid.0 has.amount why code.Approved (ap (λ (entry : kept.Entry). entry.decided) same))

  -- a payment that stands was asked for
  pub standing_asked : (ksn : Serial) (amount : ℕ) → ksn.iksn ≡ iksn → StandsWith entries ksn amount → IsAsked (all_sent calls) ksn amount
  standing_asked ksn amount own is =
      let has = is.stands.approved in
      subst (IsAsked (all_sent calls) ksn) is.amount_is (keeps.payments ksn has.amount code.Approved has.mac own has.kept)

  approved_sold : (ksn : Serial) (amount : ℕ) → Contains history (Told (Approved ksn amount)) → Contains (sold_in history) (payment_of ksn amount)
  approved_sold ksn amount told =
      let it = told_is_sold history ksn amount told in
      let same = alike calls history till life (Approved it.0.ksn it.0.amount) (Approved ksn amount) (sold_was_told history it.0 it.1) told it.2 in
      subst (Contains (sold_in history)) (same_approved it.0.ksn ksn it.0.amount amount same) it.1

  told_is_approved : (ksn : Serial) (amount : ℕ) (last : Last) → Contains history (Told last) → IsOf (payment_of ksn amount) last → Stands entries ksn → Contains (sold_in history) (payment_of ksn amount)
  told_is_approved ksn amount (Open number sum) told is_of stands = absurd (holds.told (Open number sum) told).0
  told_is_approved ksn amount (Approved number sum) told is_of stands = subst (Contains (sold_in history)) (sym is_of) (approved_sold number sum told)
  told_is_approved ksn amount (Declined number why) told is_of stands =
      let known = (holds.told (Declined number why) told).1 in
      absurd (declined_stands number why known.0 (keeps.replied number why known.1) (subst (Stands entries) is_of stands))
  told_is_approved ksn amount (Undone number) told is_of stands =
      absurd (stands.not_undone (subst (Contains (reversed_numbers entries)) (sym is_of) (keeps.undone number (holds.told (Undone number) told).1)))

  pub standing_told : (last : Option Last) → till.state ≡ Running last → StandingAreTold history iksn last entries
  standing_told last runs payment own is = elim (holds.known payment.ksn payment.amount (standing_asked payment.ksn payment.amount own is)) [
    | inl told ↦ inl (told_is_approved payment.ksn payment.amount told.last told.told told.is_of is.stands)
    | inr doubt ↦ inr (doubt.runs last runs)
  ]

  pub agree_on : IsAtRest till.state → AgreeOn history iksn entries
  agree_on rest payment own = (
    λ is. elim (standing_told rest.last rest.runs payment own is) [
      | inl sold ↦ sold
      | inr opened ↦ absurd (rest.closed payment.ksn payment.amount opened)
    ],
    told_stand payment own,
  )

  -- the purchase that is open was not told as approved
  pub not_sold : (ksn : Serial) (amount : ℕ) → till.state ≡ Running (Some (Open ksn amount)) → (payment : Payment) → Contains (sold_in history) payment → payment.ksn ≢ ksn
  not_sold ksn amount runs payment sold same = laws.ever calls history till (Open ksn amount) life runs (Approved payment.ksn payment.amount) (sold_was_told history payment sold) same
