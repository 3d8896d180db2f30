use Rattle.std.proofs.Common.{◌≡◌, inl, inr, ℕ, [], ◌∷◌, Contains, subst}
use Rattle.std.specs.List.{concat}
use Rattle.duk_ledger.specs.Ledger.{ledger_meaning}
use Rattle.duk_commands.specs.Ledger.{IsIssued}
use Rattle.duk_commands.proofs.Lifetimes.{runs_of}
use Rattle.duk_commands.proofs.Members.{all_members, first_in, member_cases, none_in}
use Rattle.duk_commands.proofs.issue.laws.lifetimes.Goals as goal

only : (iksn other : ℕ) → Contains (iksn ∷ []) other → iksn ≡ other
only iksn other is_in = elim (member_cases iksn [] other is_in) [
  | inl is ↦ is
  | inr later ↦ absurd (none_in other later)
]

pub returns-clause-once : goal.returns-clause-once
returns-clause-once g c first last runs life =
    (runs_of (ledger_meaning g.D.Disk.meaning) [] first last runs (λ issues found iksn is_in. absurd (none_in iksn is_in)) life).once

pub returns-clause-kept : goal.returns-clause-kept
returns-clause-kept g c first last runs life issues found =
    let sound = runs_of (ledger_meaning g.D.Disk.meaning) [] first last runs (λ issues found iksn is_in. absurd (none_in iksn is_in)) life in
    all_members (IsIssued issues) (concat runs) (sound.leaves issues found)

pub returns-clause-never_again : goal.returns-clause-never_again
returns-clause-never_again g c first last runs iksn life stood =
    (runs_of (ledger_meaning g.D.Disk.meaning) (iksn ∷ []) first last runs
    (λ issues found other is_in. subst (IsIssued issues) (only iksn other is_in) (stood issues found)) life).apart iksn (first_in iksn [])
