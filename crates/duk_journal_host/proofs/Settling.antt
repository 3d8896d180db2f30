-- What is settled by the index of some entries.
use Rattle.std.proofs.Common.{◌≡◌, ◌↔◌, ◌∙◌, ℕ, List, [], ◌∷◌, Bool, false, true, Contains, Option, None, Some, sym, subst}
use Rattle.std.proofs.lemmas.Bool.{false≢true}
use Rattle.std.proofs.lemmas.List.{append-nil}
use Rattle.std.specs.Bool.{MatchBool}
use Rattle.duk_frame.specs.declared.code.Code.{Code}
use Rattle.duk_host.specs.Used.{IsUsed}
use Rattle.duk_journal.specs.Groups.{Entries}
use Rattle.duk_journal.specs.declared.entry.Decided.{Decided}
use Rattle.duk_journal.specs.declared.entry.Decided.TheVariants.{Payment, Reversal as Reversed}
use Rattle.duk_journal.specs.declared.entry.Entry.{Entry}
use Rattle.duk_reversal.specs.declared.reversal.Reversal.{Reversal}
use Rattle.duk_reversal.specs.declared.state.ReversalState.{ReversalState}
use Rattle.duk_store.specs.Log.{Numbers}
use Rattle.duk_tree.specs.Serial.{Serial}
use Rattle.duk_journal_host.specs.Host.{IndexOf, IsIndexOf}
use Rattle.duk_journal_host.specs.Judgement.{reversal_entry}
use Rattle.duk_journal.specs.Standing.{payment_entry, used_by}
use Rattle.duk_journal_host.specs.Steps.{IsPurchaseKnown, IsReversalKnown}
use Rattle.duk_journal_host.specs.declared.authentic.Purchase.{Purchase}
use Rattle.duk_journal_host.specs.inner.Index.{TakesNumbers}
use Rattle.duk_journal_host.specs.inner.Judged.{IsCodeKept, IsStateKept}
use Rattle.duk_journal_host.specs.inner.Latest.{entry_under, with_latest}
use Rattle.duk_journal_host.specs.inner.Steps.{ByEntries}
use Rattle.duk_journal_host.proofs.Judging.{index_more}

-- ---- what is found under a number and a MAC

-- where a payment is kept so
pub found_payment : (index : IndexOf) (ksn : Serial) (mac : List ℕ) (code : Code) (found : Option Decided) → ((decided : Decided) → Contains index.latest (entry_under ksn mac decided) → found ≡ Some decided)
    → IsCodeKept index ksn mac code → (amount : ℕ) × (found ≡ Some (Payment amount code))
found_payment index ksn mac code found every kept = (kept.amount, every (Payment kept.amount code) kept.kept)

-- where a reversal is kept so
pub found_reversal : (index : IndexOf) (reversal : Reversal) (ksn : Serial) (state : ReversalState) (found : Option Decided) → ksn ≡ reversal.numbers.ksn
    → ((decided : Decided) → Contains index.latest (entry_under ksn reversal.mac decided) → found ≡ Some decided) → IsStateKept index reversal state
    → found ≡ Some (Reversed reversal.numbers.reversed.counter state)
found_reversal index reversal ksn state found same every kept =
    let decided = Reversed reversal.numbers.reversed.counter state in
    every decided (subst (λ ksn. Contains index.latest (entry_under ksn reversal.mac decided)) (sym same) kept)

pub not_none : (found : Option Decided) (decided : Decided) → found ≡ Some decided → found ≡ None → ⊥
not_none found decided some none = absurd (cc (some, none))

pub not_reversal : (found : Option Decided) (amount : ℕ) (code : Code) (counter : ℕ) (state : ReversalState) → found ≡ Some (Payment amount code) → found ≡ Some (Reversed counter state) → ⊥
not_reversal found amount code counter state payment reversal = absurd (cc (payment, reversal))

pub one_counter : (found : Option Decided) (counter other : ℕ) (state also : ReversalState) → found ≡ Some (Reversed counter state) → found ≡ Some (Reversed other also) → counter ≡ other
one_counter found counter other state also one two =
    let same : ◌≡◌ {A = Option Decided} (Some (Reversed counter state)) (Some (Reversed other also)) = sym one ∙ two in cc

-- ---- what is known by the index is known by the entries

module _ (entries : Entries) (index : IndexOf) (is : IsIndexOf entries index) where
  pub used_is : (ksn : Serial) → IsUsed index.used ksn → Contains (used_by entries) ksn
  used_is ksn used = (is.sets.used_are ksn).0 used

  pub new_is : (ksn : Serial) → ¬ IsUsed index.used ksn → ¬ Contains (used_by entries) ksn
  new_is ksn new used = new ((is.sets.used_are ksn).1 used)

  pub code_known : (purchase : Purchase) (code : Code) → IsCodeKept index purchase.number purchase.mac code → IsPurchaseKnown entries purchase code
  code_known purchase code kept = record {
    amount = kept.amount;
    kept = subst (λ latest. Contains latest (payment_entry purchase.number kept.amount code purchase.mac)) is.latest_are kept.kept;
    not_undone = λ reversed. kept.not_undone ((is.sets.reversed_are purchase.number).1 reversed);
  }

  pub code_unknown : (purchase : Purchase) → ((code : Code) → ¬ IsCodeKept index purchase.number purchase.mac code) → (code : Code) → ¬ IsPurchaseKnown entries purchase code
  code_unknown purchase none code known = none code (record {
    amount = known.amount;
    kept = subst (λ latest. Contains latest (payment_entry purchase.number known.amount code purchase.mac)) (sym is.latest_are) known.kept;
    not_undone = λ reversed. known.not_undone ((is.sets.reversed_are purchase.number).0 reversed);
  })

  pub state_unknown : (reversal : Reversal) → ((state : ReversalState) → ¬ IsStateKept index reversal state) → (state : ReversalState) → ¬ IsReversalKnown entries reversal state
  state_unknown reversal none state known = none state (subst (λ latest. Contains latest (reversal_entry reversal state)) (sym is.latest_are) known)

-- ---- the index then

-- nothing is added
pub by_same : (holds : Entries → Type 0) (index : IndexOf) → ((entries : Entries) → IsIndexOf entries index → holds entries) → ByEntries holds index [] index
by_same holds index so entries is = (so entries is, subst (λ entries. IsIndexOf entries index) (sym (append-nil entries)) is)

-- an entry is taken
pub by_one_more : (holds : Entries → Type 0) (old new : IndexOf) (made entry : Entry) (fresh : Bool) → made ≡ entry → ((entries : Entries) → IsIndexOf entries old → holds entries) → ¬ IsUsed old.used entry.number
    → MatchBool fresh (¬ IsUsed old.used made.number) (IsUsed old.used made.number) → (fresh ≡ true → TakesNumbers old new made)
    → (fresh ≡ true → new.latest ≡ with_latest old.latest made) → ByEntries holds old (entry ∷ []) new
by_one_more holds old new made entry fresh made_is so not_used is_fresh numbers last = subst (λ entry. ByEntries holds old (entry ∷ []) new) made_is (λ entries is. (
  so entries is,
  index_more entries made old new fresh is (new_is entries old is made.number (subst (λ (entry : Entry). ¬ IsUsed old.used entry.number) (sym made_is) not_used)) is_fresh numbers last,
))

-- ---- whether a number is used

pub is_used : (found : Bool) (used numbers : Numbers) (number ksn : Serial) → (found ≡ true) ↔ IsUsed used number → found ≡ true → used ≡ numbers → number ≡ ksn → IsUsed numbers ksn
is_used found used numbers number ksn tells is_found same is = subst (λ ksn. IsUsed numbers ksn) is (subst (λ used. IsUsed used number) same (tells.0 is_found))

pub is_not_used : (found : Bool) (used numbers : Numbers) (number ksn : Serial) → (found ≡ true) ↔ IsUsed used number → found ≡ false → used ≡ numbers → number ≡ ksn → ¬ IsUsed numbers ksn
is_not_used found used numbers number ksn tells not_found same is there =
    false≢true (sym not_found ∙ tells.1 (subst (λ used. IsUsed used number) (sym same) (subst (λ ksn. IsUsed numbers ksn) (sym is) there)))
