-- What becomes of a number once it is reversed, and what its reversals tell.
use Rattle.std.proofs.Common.{◌≢◌, ℕ, List, [], ◌∷◌, ◌++◌, Contains, inl, inr, refl, sym, ap, subst, ◌∙◌, append_assoc}
use Rattle.std.proofs.lemmas.List.{append-nil}
use Rattle.std.proofs.lemmas.List.Elements.{Contains-append_cases, Contains-append_left}
use Rattle.duk_frame.specs.declared.code.Code.TheVariants.{Approved}
use Rattle.duk_hsm.specs.Keys.{HsmKeys}
use Rattle.duk_journal.specs.Entry.{reversed_by}
use Rattle.duk_journal.specs.Groups.{Entries}
use Rattle.duk_journal.specs.Standing.{HasApproved, Stands, payment_entry, reversed_in, reversed_numbers}
use Rattle.duk_journal.specs.declared.entry.Decided.{Decided}
use Rattle.duk_journal.specs.declared.entry.Decided.TheVariants.{Payment, Reversal}
use Rattle.duk_journal.specs.declared.entry.Entry.{Entry}
use Rattle.duk_reversal.specs.Numbers.{AreNumbers, Numbers}
use Rattle.duk_reversal.specs.declared.state.ReversalState.{ReversalState}
use Rattle.duk_reversal.specs.declared.state.ReversalState.TheVariants.{NoneStands, Undone}
use Rattle.duk_tree.specs.Serial.{Serial}
use Rattle.duk_journal_host.specs.Judged.{AreJudged, IsAsTold, IsReversalReplyOf, TellWhatIsKept, TellsOf}
use Rattle.duk_journal_host.specs.Judgement.{FindsState, IsJudged, IsTaken, LineBasis, reversal_entry, with_entries}
use Rattle.duk_journal_host.proofs.Members.{end_or, flat_in, flat_more, reversed_used, the_one}
use Rattle.duk_journal_host.proofs.NewNumbers.{not_of_used, reversed_is}
use Rattle.duk_journal_host.proofs.OneNumber.{no_payment}

approved_more : (entries added : Entries) (number : Serial) → HasApproved entries number → HasApproved (entries ++ added) number
approved_more entries added number has = record {
  amount = has.amount;
  mac = has.mac;
  kept = Contains-append_left entries added (payment_entry number has.amount Approved has.mac) has.kept;
}

-- no payment is added of a number that was reversed
pub no_more : (basis : LineBasis) (frames answers : List (List ℕ)) (added : Entries) (number : Serial) (entry : Entry) → AreJudged basis frames answers added
    → Contains (reversed_numbers basis.entries) number → Contains added entry → entry.number ≢ number
no_more basis frames answers added number entry judged reversed is_in =
    not_of_used basis frames answers added number entry judged (reversed_used basis.entries number reversed) is_in

-- so an approved one that is kept was kept before
approved_before : (basis : LineBasis) (frames answers : List (List ℕ)) (added : Entries) (number : Serial) → AreJudged basis frames answers added
    → Contains (reversed_numbers basis.entries) number → HasApproved (basis.entries ++ added) number → HasApproved basis.entries number
approved_before basis frames answers added number judged reversed has =
    let payment = payment_entry number has.amount Approved has.mac in
    elim (Contains-append_cases basis.entries added payment has.kept) [
      | inl before ↦ record { amount = has.amount; mac = has.mac; kept = before }
      | inr later ↦ absurd (no_more basis frames answers added number payment judged reversed later refl)
    ]

-- and it never stands
pub never_stands : (basis : LineBasis) (frames answers : List (List ℕ)) (added : Entries) (number : Serial) → AreJudged basis frames answers added
    → Contains (reversed_numbers basis.entries) number → ¬ Stands (basis.entries ++ added) number
never_stands basis frames answers added number judged reversed stands =
    stands.not_undone (flat_more (λ entry. reversed_in entry.number entry.decided) basis.entries added number reversed)

-- ---- what reversals tell

finds_more : (entries added : Entries) (number : Serial) (state : ReversalState) → (HasApproved (entries ++ added) number → HasApproved entries number)
    → FindsState entries number state → FindsState (entries ++ added) number state
finds_more entries added number Undone before finds = approved_more entries added number finds
finds_more entries added number NoneStands before finds = λ has. finds (before has)

-- where a reversal is kept, its number is reversed
pub reversed_of : (entries : Entries) (numbers : Numbers) (mac : List ℕ) (state : ReversalState) → AreNumbers numbers → Contains entries (reversal_entry (record { numbers = numbers; mac = mac }) state)
    → Contains (reversed_numbers entries) numbers.reversed
reversed_of entries numbers mac state are kept =
    let entry = reversal_entry (record { numbers = numbers; mac = mac }) state in
    flat_in (λ entry. reversed_in entry.number entry.decided) entries entry numbers.reversed kept
    (subst (λ number. Contains (reversed_by numbers.ksn numbers.reversed.counter ∷ []) number) (sym (reversed_is numbers are)) (the_one (reversed_by numbers.ksn numbers.reversed.counter)))

tells_more : (basis : LineBasis) (frames answers : List (List ℕ)) (added : Entries) (number : Serial) (decided : Decided) (mac : List ℕ) → AreJudged basis frames answers added
    → Contains basis.entries (record { number = number; decided = decided; mac = mac }) → TellsOf basis.entries number decided → TellsOf (basis.entries ++ added) number decided
tells_more basis frames answers added number (Payment amount code) mac judged kept tells = tt
tells_more basis frames answers added number (Reversal counter state) mac judged kept tells =
    let reversed = reversed_by number counter in
    let is_in : Contains (reversed_numbers basis.entries) reversed =
    flat_in (λ entry. reversed_in entry.number entry.decided) basis.entries (record { number = number; decided = Reversal counter state; mac = mac }) reversed kept (the_one reversed) in
    finds_more basis.entries added reversed state (approved_before basis frames answers added reversed judged is_in) tells

-- an entry that is taken tells what is kept, with itself too
no_approved_in : (entries : Entries) (numbers : Numbers) (mac : List ℕ) (state : ReversalState) (number : Serial)
    → HasApproved (entries ++ reversal_entry (record { numbers = numbers; mac = mac }) state ∷ []) number → HasApproved entries number
no_approved_in entries numbers mac state number has =
    let payment = payment_entry number has.amount Approved has.mac in
    elim (end_or entries (reversal_entry (record { numbers = numbers; mac = mac }) state) payment has.kept) [
      | inl before ↦ record { amount = has.amount; mac = has.mac; kept = before }
      | inr same ↦ absurd (no_payment number has.amount Approved has.mac mac numbers state same)
    ]

taken_tells : (basis : LineBasis) (frame answer : List ℕ) (entry : Entry) → IsTaken basis frame answer entry → TellsOf (basis.entries ++ entry ∷ []) entry.number entry.decided
taken_tells basis frame answer entry (inl paid) =
    subst (λ entry. TellsOf (basis.entries ++ entry ∷ []) entry.number entry.decided) (sym paid.entry_is) tt
taken_tells basis frame answer entry (inr reversed) =
    let numbers = reversed.reversal.numbers in
    let own = reversal_entry reversed.reversal reversed.state in
    let finds = subst (λ number. FindsState basis.entries number reversed.state) (reversed_is numbers reversed.is_reversal.fields.numbers_are) reversed.finds in
    let number = reversed_by numbers.ksn numbers.reversed.counter in
    subst (λ entry. TellsOf (basis.entries ++ entry ∷ []) entry.number entry.decided) (sym reversed.entry_is)
    (finds_more basis.entries (own ∷ []) number reversed.state (no_approved_in basis.entries numbers reversed.reversal.mac reversed.state number) finds)

told_after_one : (basis : LineBasis) (frame answer : List ℕ) (added : Entries) → IsJudged basis frame answer added → TellWhatIsKept basis.entries → TellWhatIsKept (basis.entries ++ added)
told_after_one basis frame answer added (inl (settled, none)) tell =
    subst TellWhatIsKept (sym (append-nil basis.entries) ∙ ap (λ added. basis.entries ++ added) (sym none)) tell
told_after_one basis frame answer added (inr (entry, taken, one)) tell =
    let own = entry ∷ [] in
    let judged : AreJudged basis (frame ∷ []) (answer ∷ []) own = (own, [], inr (entry, taken, refl), refl, sym (append-nil own)) in
    subst (λ added. TellWhatIsKept (basis.entries ++ added)) (sym one) (λ other is_in. elim (end_or basis.entries entry other is_in) [
      | inl before ↦ tells_more basis (frame ∷ []) (answer ∷ []) own other.number other.decided other.mac judged before (tell other before)
      | inr same ↦ subst (λ (other : Entry). TellsOf (basis.entries ++ own) other.number other.decided) (sym same) (taken_tells basis frame answer entry taken)
    ])

pub told_after : (basis : LineBasis) (frames answers : List (List ℕ)) (added : Entries) → AreJudged basis frames answers added → TellWhatIsKept basis.entries → TellWhatIsKept (basis.entries ++ added)
told_after basis [] [] added judged tell =
    subst TellWhatIsKept (sym (append-nil basis.entries) ∙ ap (λ added. basis.entries ++ added) (sym judged)) tell
told_after basis [] (answer ∷ answers) added judged tell = absurd judged
told_after basis (frame ∷ frames) [] added judged tell = absurd judged
told_after basis (frame ∷ frames) (answer ∷ answers) added judged tell =
    let one = told_after_one basis frame answer judged.0 judged.2 tell in
    let all = told_after (with_entries basis judged.0) frames answers judged.1 judged.3 one in
    subst TellWhatIsKept (append_assoc basis.entries judged.0 judged.1 ∙ ap (λ added. basis.entries ++ added) (sym judged.4)) all

-- what a reply of the list tells is so
pub as_told : (keys : HsmKeys) (entries : Entries) (numbers : Numbers) (state : ReversalState) (frame : List ℕ) → TellWhatIsKept entries → IsReversalReplyOf keys entries numbers state frame
    → IsAsTold entries numbers state
as_told keys entries numbers state frame tell is =
    let entry = reversal_entry (record { numbers = numbers; mac = is.mac }) state in
    record {
      finds = subst (λ number. FindsState entries number state) (sym (reversed_is numbers is.are_numbers)) (tell entry is.kept);
      none_stands = λ stands. stands.not_undone (reversed_of entries numbers is.mac state is.are_numbers is.kept);
    }
