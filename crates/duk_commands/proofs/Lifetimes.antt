-- What runs of `issue` print, all together.
use Rattle.std.proofs.Common.{◌≡◌, ◌≢◌, inl, inr, ℕ, List, [], ◌∷◌, ◌++◌, Contains, refl, sym, subst, arith, append_assoc, append-nil}
use Rattle.std.specs.List.{concat}
use Rattle.std.proofs.lemmas.List.{map-append}
use Rattle.std.proofs.lemmas.List.Elements.{Contains-append_cases, Contains-append_left, Contains-append_right}
use Rattle.duk_ledger.specs.Issued.{Issues}
use Rattle.duk_ledger.specs.declared.issued.Issued.{Issued}
use Rattle.duk_store.specs.Listed.{GroupAppendFailed, ListMeaning}
use Rattle.duk_store.specs.StoreState.{FindsOnly}
use Rattle.duk_store.specs.declared.fault.StoreFault.{StoreFault}
use Rattle.duk_store.specs.declared.fault.StoreFault.TheVariants as store
use Rattle.duk_commands.specs.Ledger.{IsIssued, numbers_of}
use Rattle.duk_commands.specs.Lifetime.{ArePrintedOnce, EndsAt, IsLifetime, IsMadeOver, IsRun}
use Rattle.duk_commands.proofs.Members.{none_in, pairs_append}

-- all of these stand in a list
abbrev AreAmong : List ℕ → Issues → Type 0
AreAmong printed issues = (iksn : ℕ) → Contains printed iksn → IsIssued issues iksn

numbers_append : (issues more : Issues) → numbers_of (issues ++ more) ≡ numbers_of issues ++ numbers_of more
numbers_append issues more = map-append (λ (it : Issued). it.number) issues more

among_longer : (printed : List ℕ) (issues more : Issues) → AreAmong printed issues → AreAmong printed (issues ++ more)
among_longer printed issues more among iksn is_in =
    rw (numbers_append issues more) (Contains-append_left (numbers_of issues) (numbers_of more) iksn (among iksn is_in))

among_both : (before printed : List ℕ) (issues more : Issues) → printed ≡ numbers_of more → AreAmong before issues → AreAmong (before ++ printed) (issues ++ more)
among_both before printed issues more same among iksn is_in = elim (Contains-append_cases before printed iksn is_in) [
  | inl earlier ↦ among_longer before issues more among iksn earlier
  | inr now ↦ rw (numbers_append issues more) (Contains-append_right (numbers_of issues) (numbers_of more) iksn (subst (λ list. Contains list iksn) same now))
]

module _ {L : Type 0} (meaning : ListMeaning L Issued) where
  abbrev found_of : L → Issues → Type 0
  found_of ledger = (meaning.state_of ledger).found

  -- each list that may be left has all of these
  abbrev LeavesAll : List ℕ → L → Type 0
  LeavesAll printed ledger = (issues : Issues) → found_of ledger issues → AreAmong printed issues

  leaves_only : (printed : List ℕ) (ledger : L) (issues : Issues) → FindsOnly (meaning.state_of ledger) issues → AreAmong printed issues → LeavesAll printed ledger
  leaves_only printed ledger issues only among other found = subst (λ list. AreAmong printed list) (sym ((only other).0 found)) among

  -- what an append that failed leaves
  left_by_append : (printed : List ℕ) (mid last : L) (issued : Issued) (why : StoreFault) → (meaning.state_of mid).honest → LeavesAll printed mid → GroupAppendFailed meaning mid last (issued ∷ []) why → LeavesAll printed last
  left_by_append printed mid last issued store.Device h leaves failed issues found = elim (failed.stops.within h issues found) [
    | inl old ↦ leaves issues old
    | inr more ↦ subst (λ list. AreAmong printed list) (sym more.2) (among_longer printed more.0 (issued ∷ []) (leaves more.0 more.1))
  ]
  left_by_append printed mid last issued store.Stopped h leaves failed issues found = leaves issues ((failed.stays.found h issues).0 found)
  left_by_append printed mid last issued store.Damaged h leaves failed issues found = absurd failed
  left_by_append printed mid last issued store.Worn h leaves failed issues found = absurd failed
  left_by_append printed mid last issued store.NoMemory h leaves failed issues found = absurd failed

  left_at_end : (printed : List ℕ) (mid last : L) (issues : Issues) → (meaning.state_of mid).honest → FindsOnly (meaning.state_of mid) issues → AreAmong printed issues → EndsAt meaning mid last → LeavesAll printed last
  left_at_end printed mid last issues h only among (inl is) = subst (λ ledger. LeavesAll printed ledger) (sym is) (leaves_only printed mid issues only among)
  left_at_end printed mid last issues h only among (inr (issued, inl appended)) =
      leaves_only printed last (issues ++ issued ∷ []) (appended.finds h issues only) (among_longer printed issues (issued ∷ []) among)
  left_at_end printed mid last issues h only among (inr (issued, inr (why, failed))) =
      left_by_append printed mid last issued why h (leaves_only printed mid issues only among) failed

  -- what is known of numbers that are printed after earlier ones
  pub record AreSound (before printed : List ℕ) (last : L) : Type 0 where
    pub once : ArePrintedOnce printed
    pub apart : (iksn : ℕ) → Contains before iksn → ¬ Contains printed iksn
    pub leaves : LeavesAll (before ++ printed) last

  nothing_printed : (before printed : List ℕ) (last : L) → printed ≡ [] → LeavesAll before last → AreSound before printed last
  nothing_printed before printed last none leaves = rw none (record {
    once = λ i j d earlier within. absurd (omega (arith, within));
    apart = λ iksn was is_in. none_in iksn is_in;
    leaves = subst (λ list. LeavesAll list last) (sym (append-nil before)) leaves;
  })

  -- one run
  run_of : (before printed : List ℕ) (first made last : L) → LeavesAll before first → IsMadeOver meaning first made → IsRun meaning made printed last → AreSound before printed last
  run_of before printed first made last leaves is_made (inl none) =
      nothing_printed before printed last none.none_printed (subst (λ ledger. LeavesAll before ledger) (sym none.untouched) (λ issues found. leaves issues (is_made.within issues found)))
  run_of before printed first made last leaves is_made (inr (inl refused)) =
      nothing_printed before printed last refused.none_printed (λ issues found. leaves issues (is_made.within issues (refused.refused.stops.within is_made.honest issues found)))
  run_of before printed first made last leaves is_made (inr (inr up)) =
      let h = is_made.honest in
      let fresh = up.fresh in
      let keeps = up.extended.keeps in
      let among : AreAmong before up.issues = leaves up.issues (is_made.within up.issues (up.extended.was_found h)) in
      record {
        once = fresh.once;
        apart = λ iksn was is_in. subst (λ n. ¬ IsIssued up.issues n) is_in.2 (fresh.new is_in.0 iksn is_in.1) (among iksn was);
        leaves = left_at_end (before ++ printed) up.mid last (up.issues ++ up.more) (keeps.nature.honest.0 h) (keeps.finds h) (among_both before printed up.issues up.more up.printed_are among) up.ends;
      }

  -- all of them
  pub runs_of : (before : List ℕ) (first last : L) (runs : List (List ℕ)) → LeavesAll before first → IsLifetime meaning first runs last → AreSound before (concat runs) last
  runs_of before first last [] leaves life = nothing_printed before [] last refl (subst (λ ledger. LeavesAll before ledger) (sym life) leaves)
  runs_of before first last (printed ∷ later) leaves (made, left, is_made, run, rest) =
      let here = run_of before printed first made left leaves is_made run in
      let more = runs_of (before ++ printed) left last later here.leaves rest in
      record {
        once = pairs_append (λ (a b : ℕ). a ≢ b) printed (concat later) here.once more.once
            (λ one other is_in also same. more.apart one (Contains-append_right before printed one is_in) (subst (λ n. Contains (concat later) n) (sym same) also));
        apart = λ iksn was is_in. elim (Contains-append_cases printed (concat later) iksn is_in) [
          | inl now ↦ here.apart iksn was now
          | inr after ↦ more.apart iksn (Contains-append_left before printed iksn was) after
        ];
        leaves = subst (λ list. LeavesAll list last) (append_assoc before printed (concat later)) more.leaves;
      }
