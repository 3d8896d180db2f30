-- Reading a ledger: the marks of the numbers that stand in it, and its largest run.
use Rattle.std.proofs.Common.{◌≡◌, ◌⊎◌, ℕ, zero, suc, ◌<◌, Bool, false, List, [], ◌∷◌, ◌++◌, length, max, replicate, inl, inr, refl, sym, ap, ◌∙◌, subst, arith, append-nil, append_assoc}
use Rattle.std.proofs.lemmas.List.{length-replicate, map-append}
use Rattle.std.proofs.lemmas.List.Elements.{Contains-append_left, Contains-push, Contains-push_cases}
use Rattle.std.proofs.lemmas.List.Sums.{fold-append}
use Rattle.duk_ledger.specs.Issued.{Issues, run_of}
use Rattle.duk_ledger.specs.declared.issued.Issued.{Issued}
use Rattle.duk_store.specs.Listed.{ListMeaning, ListRestarted}
use Rattle.duk_store.specs.StoreState.{StoreState, PreservesNature}
use Rattle.duk_store.specs.Visitor.{TakesAll}
use Rattle.duk_commands.specs.Ledger.{IsIssued, largest_run, numbers_of}
use Rattle.duk_commands.specs.Numbers.{iksn_at}
use Rattle.duk_commands.specs.declared.issue.ledger.Marking.{Marking}
use Rattle.duk_commands.specs.inner.Ledger.{AreRead, IsLedgerRead, IsMarkedBy}
use Rattle.duk_commands.specs.inner.Marks.{AreMarked, IsMarked, IsMarkedAlso}
use Rattle.duk_commands.proofs.Members.{none_in}

-- ---- what a restart leaves

pub nature_same : (ledger : StoreState Issues) → PreservesNature ledger ledger
nature_same ledger = record { honest = (λ h. h, λ h. h); sound = λ honest sound. sound; calm = λ calm. calm }

pub nature_on : (a b c : StoreState Issues) → PreservesNature a b → PreservesNature b c → PreservesNature a c
nature_on a b c first second = record {
  honest = (λ h. second.honest.0 (first.honest.0 h), λ h. first.honest.1 (second.honest.1 h));
  sound = λ honest sound. second.sound (first.honest.0 honest) (first.sound honest sound);
  calm = λ calm. second.calm (first.calm calm);
}

-- ---- what is read

numbers_more : (seen : Issues) (issued : Issued) → numbers_of (seen ++ issued ∷ []) ≡ numbers_of seen ++ issued.number ∷ []
numbers_more seen issued = map-append (λ (it : Issued). it.number) seen (issued ∷ [])

-- a number stands behind others where they have it, or it is the last one
issued_more : (seen : Issues) (issued : Issued) (iksn : ℕ) → IsIssued (seen ++ issued ∷ []) iksn → IsIssued seen iksn ⊎ (issued.number ≡ iksn)
issued_more seen issued iksn is_in = Contains-push_cases (numbers_of seen) issued.number iksn (rw (sym (numbers_more seen issued)) is_in)

issued_now : (seen : Issues) (issued : Issued) (iksn : ℕ) → IsIssued seen iksn ⊎ (issued.number ≡ iksn) → IsIssued (seen ++ issued ∷ []) iksn
issued_now seen issued iksn (inl earlier) = rw (numbers_more seen issued) (Contains-append_left (numbers_of seen) (issued.number ∷ []) iksn earlier)
issued_now seen issued iksn (inr same) = rw (numbers_more seen issued, same) (Contains-push (numbers_of seen) iksn)

marked_more : (seen : Issues) (issued : Issued) (first : ℕ) (marks more : List Bool) → AreMarked seen first marks → IsMarkedAlso marks more first issued.number → AreMarked (seen ++ issued ∷ []) first more
marked_more seen issued first marks more marked also place within =
    let inside : place < length marks = omega (arith, also.size, within) in
    let old = marked place inside in
    let new = also.marked place inside in (
      λ set. issued_now seen issued (iksn_at first place) (elim (new.0 set) [ inl was ↦ inl (old.0 was) | inr at ↦ inr at ]),
      λ is_in. new.1 (elim (issued_more seen issued (iksn_at first place) is_in) [ inl was ↦ inl (old.1 was) | inr at ↦ inr at ]),
    )

largest_more : (seen : Issues) (issued : Issued) → largest_run (seen ++ issued ∷ []) ≡ max (largest_run seen) (run_of issued.made)
largest_more seen issued = fold-append (λ (largest : ℕ) (it : Issued). max largest (run_of it.made)) 0 seen (issued ∷ [])

-- before the first
none_marked : (count place : ℕ) → ¬ IsMarked (replicate count false) place
none_marked zero zero is = cc
none_marked zero (suc place) is = cc
none_marked (suc count) zero is = cc
none_marked (suc count) (suc place) is = none_marked count place is

none_read : (first count : ℕ) → AreRead [] first (replicate count false) 0
none_read first count = record {
  marked = λ place within. (λ set. absurd (none_marked count place set), λ issued. absurd (none_in (iksn_at first place) issued));
  largest_is = refl;
}

-- what a visitor knows of what it took
record AreTaken (seen : Issues) (first : ℕ) (old new : Marking) : Type 0 where
  are_read : AreRead seen first new.marks.items new.largest
  size : length new.marks.items ≡ length old.marks.items

taken : (seen items : Issues) (first : ℕ) (old new : Marking) → old.first ≡ first → AreRead seen first old.marks.items old.largest → TakesAll IsMarkedBy items old new → AreTaken (seen ++ items) first old new
taken seen [] first old new is before same = rw (same, append-nil seen) (record { are_read = before; size = refl })
taken seen (item ∷ items) first old new is before (mid, one, rest) =
    let also : IsMarkedAlso old.marks.items mid.marks.items first item.number = subst (λ (it : ℕ). IsMarkedAlso old.marks.items mid.marks.items it item.number) is one.marked in
    let here : AreRead (seen ++ item ∷ []) first mid.marks.items mid.largest = record {
      marked = marked_more seen item first old.marks.items mid.marks.items before.marked also;
      largest_is = one.largest ∙ ap (λ (it : ℕ). max it (run_of item.made)) before.largest_is ∙ sym (largest_more seen item);
    } in
    let more = taken (seen ++ item ∷ []) items first mid new (one.first ∙ is) here rest in
    record {
      are_read = subst (λ (list : Issues). AreRead list first new.marks.items new.largest) (append_assoc seen (item ∷ []) items) more.are_read;
      size = more.size ∙ one.marked.size;
    }

module _ {L : Type 0} (meaning : ListMeaning L Issued) (old new : L) (visitor visited : Marking) where
  -- the ledger is read
  pub ledger_read : (kept first count : ℕ) → ListRestarted meaning IsMarkedBy old new visitor visited kept → visitor.first ≡ first → visitor.marks.items ≡ replicate count false → visitor.largest ≡ 0
      → meaning.count new ≡ kept → meaning.capacity new ≡ meaning.capacity old → IsLedgerRead meaning old new first count visited.marks.items visited.largest
  ledger_read kept first count restarted is clear none counted capacity =
      let items = restarted.taken.items in
      let before : AreRead [] first visitor.marks.items visitor.largest = rw (clear, none) (none_read first count) in
      let all = taken [] items first visitor visited is before restarted.taken.taken in
      record {
        issues = items;
        restarted = record {
          settles = record {
            nature = restarted.nature;
            no_failure = restarted.no_failure;
            runs = restarted.runs;
            finds = λ honest. (restarted.taken.found honest).finds;
          };
          was_found = λ honest. (restarted.taken.found honest).was_found;
        };
        counted = counted ∙ sym restarted.taken.counted;
        capacity = capacity;
        are_read = all.are_read;
        size = all.size ∙ ap length clear ∙ length-replicate {A = Bool} count false;
      }
