-- The payments that stand, and what entries add to a total.
use Rattle.std.proofs.Common.{◌≡◌, ◌≢◌, ◌⊎◌, inl, inr, ℕ, List, Bool, true, false, true≢false, Contains, refl, sym, ap, ◌∙◌, if◌then◌else◌, nat_eq}
use Rattle.std.proofs.lemmas.Bool.Decides.{Decides-and, Decides-by_or, Decides-eqb, Decides-like}
use Rattle.std.proofs.lemmas.List.Elements.{Decides-contains}
use Rattle.std.specs.Bool.{Decides}
use Rattle.std.specs.List.{list_any}
use Rattle.duk_frame.specs.declared.code.Code.TheVariants.{Approved, NoCard, OverLimit, Unreadable, WrongPin}
use Rattle.duk_store.specs.Log.{Numbers}
use Rattle.duk_tree.specs.Serial.{Serial}
use Rattle.duk_journal.specs.Groups.{Entries}
use Rattle.duk_journal.specs.Standing.{AddsAmount, StandsWith, amount_approved, is_number, is_reversed, payment_entry, reversed_numbers, standing_amount}
use Rattle.duk_journal.specs.declared.entry.Decided.{Decided}
use Rattle.duk_journal.specs.declared.entry.Decided.TheVariants.{Payment, Reversal}
use Rattle.duk_journal.specs.declared.entry.Entry.{Entry}

same_number : (number other : Serial) → Decides (is_number number other) (other ≡ number)
same_number number other = Decides-like (is_number number other)
    (λ same. sym (ap (λ (i : ℕ). record { iksn = i; counter = number.counter }) same.0 ∙ ap (λ (k : ℕ). record { iksn = other.iksn; counter = k }) same.1))
    (λ is. (ap (λ (it : Serial). it.iksn) (sym is), ap (λ (it : Serial). it.counter) (sym is)))
    (Decides-and (nat_eq number.iksn other.iksn) (nat_eq number.counter other.counter) (Decides-eqb number.iksn other.iksn) (Decides-eqb number.counter other.counter))

pub reversed_decides : (entries : Entries) (number : Serial) → Decides (is_reversed entries number) (Contains (reversed_numbers entries) number)
reversed_decides entries number =
    let numbers : Numbers = reversed_numbers entries in
    Decides-contains numbers number (is_reversed entries number)
    (Decides-by_or (is_number number) (λ (it : Serial). it ≡ number) (list_any (is_number number)) (same_number number) refl (λ _ _. refl) numbers)

not_true : (b : Bool) → b ≢ true → b ≡ false
not_true true never = absurd (never refl)
not_true false never = refl

-- a payment that stands adds its amount
pub stands_adds : (entries : Entries) (number : Serial) (amount : ℕ) → StandsWith entries number amount → AddsAmount entries number amount
stands_adds entries number amount is =
    let has = is.stands.approved in
    record {
      entry = payment_entry number has.amount Approved has.mac;
      kept = has.kept;
      number_is = refl;
      adds = ap (λ (b : Bool). if b then 0 else has.amount) (not_true (is_reversed entries number) (λ yes. is.stands.not_undone ((reversed_decides entries number).0 yes))) ∙ is.amount_is;
    }

-- nothing else adds anything
adds : (entries : Entries) (number : Serial) (decided : Decided) (mac : List ℕ) (reversed : Bool) → is_reversed entries number ≡ reversed
    → Contains entries (record { number = number; decided = decided; mac = mac })
    → ((if reversed then 0 else amount_approved decided) ≡ 0) ⊎ StandsWith entries number (if reversed then 0 else amount_approved decided)
adds entries number decided mac true is kept = inl refl
adds entries number (Reversal counter state) mac false is kept = inl refl
adds entries number (Payment amount Approved) mac false is kept = inr (record {
  stands = record {
    approved = record { amount = amount; mac = mac; kept = kept };
    not_undone = λ has. true≢false (sym ((reversed_decides entries number).1 has) ∙ is);
  };
  amount_is = refl;
})
adds entries number (Payment amount NoCard) mac false is kept = inl refl
adds entries number (Payment amount WrongPin) mac false is kept = inl refl
adds entries number (Payment amount OverLimit) mac false is kept = inl refl
adds entries number (Payment amount Unreadable) mac false is kept = inl refl

pub adds_only : (entries : Entries) (entry : Entry) → Contains entries entry → (standing_amount entries entry ≡ 0) ⊎ StandsWith entries entry.number (standing_amount entries entry)
adds_only entries entry kept = adds entries entry.number entry.decided entry.mac (is_reversed entries entry.number) refl kept
