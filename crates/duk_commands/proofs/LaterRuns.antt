-- The largest run that issued one of the keys of a list.
use Rattle.std.proofs.Common.{◌≤◌, ℕ, [], ◌∷◌, Contains, inl, inr, max, subst, arith}
use Rattle.std.proofs.Math.Nat.{le-max_left, le-max_right}
use Rattle.std.specs.List.{fold}
use Rattle.duk_ledger.specs.Issued.{Issues, run_of}
use Rattle.duk_ledger.specs.declared.issued.Issued.{Issued}
use Rattle.duk_commands.specs.Ledger.{largest_run}
use Rattle.duk_commands.proofs.Members.{member_cases, none_in}

abbrev largest_from : ℕ → Issues → ℕ
largest_from base issues = fold (λ (largest : ℕ) (issued : Issued). max largest (run_of issued.made)) base issues

base_within : (base : ℕ) (issues : Issues) → base ≤ largest_from base issues
base_within base [] = omega arith
base_within base (issued ∷ issues) =
    let left : base ≤ max base (run_of issued.made) = le-max_left base (run_of issued.made) in
    let rest : max base (run_of issued.made) ≤ largest_from (max base (run_of issued.made)) issues = base_within (max base (run_of issued.made)) issues in
    omega (arith, left, rest)

each_within : (base : ℕ) (issues : Issues) (issued : Issued) → Contains issues issued → run_of issued.made ≤ largest_from base issues
each_within base [] issued is_in = absurd (none_in issued is_in)
each_within base (first ∷ issues) issued is_in =
    elim (member_cases first issues issued is_in) [
      | inl is ↦
          let right : run_of first.made ≤ max base (run_of first.made) = le-max_right base (run_of first.made) in
          let rest : max base (run_of first.made) ≤ largest_from (max base (run_of first.made)) issues = base_within (max base (run_of first.made)) issues in
          subst (λ (it : Issued). run_of it.made ≤ largest_from (max base (run_of first.made)) issues) is (omega (arith, right, rest))
      | inr later ↦ each_within (max base (run_of first.made)) issues issued later
    ]

pub within_largest : (issues : Issues) (issued : Issued) → Contains issues issued → run_of issued.made ≤ largest_run issues
within_largest issues issued is_in = each_within 0 issues issued is_in
