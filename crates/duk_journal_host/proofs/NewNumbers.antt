-- Frames in turn add no entry whose number was used before.
use Rattle.std.proofs.Common.{◌≡◌, ◌≢◌, ℕ, suc, List, [], ◌∷◌, ◌++◌, AllPairs, Contains, get_or, inl, inr, sym, ap, subst, ◌∙◌, append_assoc, arith}
use Rattle.std.proofs.lemmas.List.{append-nil}
use Rattle.std.proofs.lemmas.List.Elements.{All-append, All-cons, All-nil, Contains-append_cases, Contains-get_or}
use Rattle.std.proofs.lemmas.List.Quantifiers.{all_pairs_push}
use Rattle.duk_journal.specs.Entry.{MayStandUnder, reversed_by}
use Rattle.duk_journal.specs.Groups.{Entries}
use Rattle.duk_journal.specs.Standing.{UseNewNumbers, numbers_in, used_by}
use Rattle.duk_journal.specs.declared.entry.Entry.{Entry}
use Rattle.duk_reversal.specs.Numbers.{AreNumbers, Numbers, Reverses}
use Rattle.duk_tree.specs.Path.{IsUsable}
use Rattle.duk_tree.specs.Serial.{Serial}
use Rattle.duk_journal_host.specs.Judged.{AreJudged}
use Rattle.duk_journal_host.specs.Judgement.{IsJudged, IsTaken, LineBasis, with_entries}
use Rattle.duk_journal_host.proofs.Members.{flat_in, flat_more, front_or, none_in, the_only}

-- an entry that may be added to others
pub record IsNewEntry (entries : Entries) (entry : Entry) : Type 0 where
  pub usable : IsUsable entry.number.counter
  pub stands : MayStandUnder entry.number entry.decided
  pub new : ¬ Contains (used_by entries) entry.number

-- the number that is reversed is that of the initial key serial number of the reversal's own
pub reversed_is : (numbers : Numbers) → AreNumbers numbers → numbers.reversed ≡ reversed_by numbers.ksn numbers.reversed.counter
reversed_is numbers are = ap (λ iksn. record { iksn = iksn; counter = numbers.reversed.counter }) are.reverses.same_iksn

pub stands_under : (numbers : Numbers) → AreNumbers numbers → Reverses numbers.ksn (reversed_by numbers.ksn numbers.reversed.counter)
stands_under numbers are = subst (λ reversed. Reverses numbers.ksn reversed) (reversed_is numbers are) are.reverses

-- what frames are accepted with
pub taken_new : (basis : LineBasis) (frame answer : List ℕ) (entry : Entry) → IsTaken basis frame answer entry → IsNewEntry basis.entries entry
taken_new basis frame answer entry (inl paid) =
    let acceptable = paid.accepted.acceptable in
    subst (λ entry. IsNewEntry basis.entries entry) (sym paid.entry_is) (record {
      usable = acceptable.authentic.key_is.usable;
      stands = tt;
      new = acceptable.fresh;
    })
taken_new basis frame answer entry (inr reversed) =
    subst (λ entry. IsNewEntry basis.entries entry) (sym reversed.entry_is) (record {
      usable = reversed.acceptable.authentic.key_is.usable;
      stands = stands_under reversed.reversal.numbers reversed.is_reversal.fields.numbers_are;
      new = reversed.acceptable.new;
    })

-- ---- no number is used twice

pub new_more : (entries : Entries) (entry : Entry) → UseNewNumbers entries → IsNewEntry entries entry → UseNewNumbers (entries ++ entry ∷ [])
new_more entries entry are is = record {
  usable = All-append (λ entry. IsUsable entry.number.counter) entries (entry ∷ []) are.usable
      (All-cons (λ entry. IsUsable entry.number.counter) entry [] is.usable (All-nil (λ entry. IsUsable entry.number.counter)));
  stand = All-append (λ entry. MayStandUnder entry.number entry.decided) entries (entry ∷ []) are.stand
      (All-cons (λ entry. MayStandUnder entry.number entry.decided) entry [] is.stands (All-nil (λ entry. MayStandUnder entry.number entry.decided)));
  new = all_pairs_push (λ earlier later. ¬ Contains (numbers_in earlier) later.number) entries entry are.new
      (λ k d within has. is.new (flat_in numbers_in entries (get_or entries k d) entry.number (Contains-get_or entries k d within) has));
}

pub new_after_one : (basis : LineBasis) (frame answer : List ℕ) (added : Entries) → IsJudged basis frame answer added → UseNewNumbers basis.entries
    → UseNewNumbers (basis.entries ++ added)
new_after_one basis frame answer added (inl (settled, none)) are =
    subst UseNewNumbers (sym (append-nil basis.entries) ∙ ap (λ added. basis.entries ++ added) (sym none)) are
new_after_one basis frame answer added (inr (entry, taken, one)) are =
    subst (λ added. UseNewNumbers (basis.entries ++ added)) (sym one) (new_more basis.entries entry are (taken_new basis frame answer entry taken))

pub new_after : (basis : LineBasis) (frames answers : List (List ℕ)) (added : Entries) → AreJudged basis frames answers added → UseNewNumbers basis.entries
    → UseNewNumbers (basis.entries ++ added)
new_after basis [] [] added judged are =
    subst UseNewNumbers (sym (append-nil basis.entries) ∙ ap (λ added. basis.entries ++ added) (sym judged)) are
new_after basis [] (answer ∷ answers) added judged are = absurd judged
new_after basis (frame ∷ frames) [] added judged are = absurd judged
new_after basis (frame ∷ frames) (answer ∷ answers) added judged are =
    let one = new_after_one basis frame answer judged.0 judged.2 are in
    let all = new_after (with_entries basis judged.0) frames answers judged.1 judged.3 one in
    subst UseNewNumbers (append_assoc basis.entries judged.0 judged.1 ∙ ap (λ added. basis.entries ++ added) (sym judged.4)) all

-- ---- no entry of a used number is added

not_of_used_one : (basis : LineBasis) (frame answer : List ℕ) (added : Entries) (number : Serial) (entry : Entry) → IsJudged basis frame answer added → Contains (used_by basis.entries) number
    → Contains added entry → entry.number ≢ number
not_of_used_one basis frame answer added number entry (inl (settled, none)) used is_in same = none_in entry (subst (λ added. Contains added entry) none is_in)
not_of_used_one basis frame answer added number entry (inr (own, taken, one)) used is_in same =
    let is : entry ≡ own = the_only own entry (subst (λ added. Contains added entry) one is_in) in
    (taken_new basis frame answer own taken).new
    (subst (λ number. Contains (used_by basis.entries) number) (sym same ∙ ap (λ (entry : Entry). entry.number) is) used)

pub not_of_used : (basis : LineBasis) (frames answers : List (List ℕ)) (added : Entries) (number : Serial) (entry : Entry) → AreJudged basis frames answers added
    → Contains (used_by basis.entries) number → Contains added entry → entry.number ≢ number
not_of_used basis [] [] added number entry judged used is_in = absurd (none_in entry (subst (λ added. Contains added entry) judged is_in))
not_of_used basis [] (answer ∷ answers) added number entry judged used is_in = absurd judged
not_of_used basis (frame ∷ frames) [] added number entry judged used is_in = absurd judged
not_of_used basis (frame ∷ frames) (answer ∷ answers) added number entry judged used is_in =
    elim (Contains-append_cases judged.0 judged.1 entry (subst (λ added. Contains added entry) judged.4 is_in)) [
      | inl first ↦ not_of_used_one basis frame answer judged.0 number entry judged.2 used first
      | inr later ↦ not_of_used (with_entries basis judged.0) frames answers judged.1 number entry judged.3 (flat_more numbers_in basis.entries judged.0 number used) later
    ]

-- ---- entries of one number are equal

abbrev pub AreNewInTurn : Entries → Type 0
AreNewInTurn entries = AllPairs (λ earlier later. ¬ Contains (numbers_in earlier) later.number) entries

new_later : (first : Entry) (entries : Entries) → AreNewInTurn (first ∷ entries) → AreNewInTurn entries
new_later first entries new = λ i j d below within. new (suc i) (suc j) d (omega arith) (omega arith)

not_later : (first : Entry) (entries : Entries) (entry : Entry) → AreNewInTurn (first ∷ entries) → first.number ≡ entry.number → ¬ Contains entries entry
not_later first entries entry new same (j, within, is) =
    new 0 (suc j) entry (omega arith) (omega (arith, within)) (0, omega arith, same ∙ ap (λ (entry : Entry). entry.number) (sym is))

pub one_entry : (entries : Entries) (one other : Entry) → AreNewInTurn entries → Contains entries one → Contains entries other → one.number ≡ other.number → one ≡ other
one_entry [] one other new in_one in_other same = absurd (none_in one in_one)
one_entry (first ∷ entries) one other new in_one in_other same = elim (front_or first entries one in_one) [
  | inl one_is ↦ elim (front_or first entries other in_other) [
    | inl other_is ↦ one_is ∙ sym other_is
    | inr later ↦ absurd (not_later first entries other new (ap (λ (entry : Entry). entry.number) (sym one_is) ∙ same) later)
  ]
  | inr later ↦ elim (front_or first entries other in_other) [
    | inl other_is ↦ absurd (not_later first entries one new (ap (λ (entry : Entry). entry.number) (sym other_is) ∙ sym same) later)
    | inr also ↦ one_entry entries one other (new_later first entries new) later also same
  ]
]
