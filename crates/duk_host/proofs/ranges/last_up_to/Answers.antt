use Rattle.std.proofs.Common.{◌≡◌, ℕ, ◌≤◌, false, Some, is_some, Equal, Less, refl, sym, subst, inl, inr, is_gt, nat_cmp, eq-or-lt_of_le}
use Rattle.std.specs.Cmp.{nat_cmp_is}
use Rattle.std.proofs.lemmas.Map.Keys.{ge_from_not_lt, le_from_not_gt}
use Rattle.duk_host.proofs.ranges.last_up_to.Goals as goal

not_above : (a b : ℕ) → a ≤ b → is_gt (nat_cmp a b) ≡ false
not_above a b below = elim (eq-or-lt_of_le below) [
  | inl same ↦ subst (λ order. is_gt order ≡ false) (nat_cmp_is a b Equal same) refl
  | inr less ↦ subst (λ order. is_gt order ≡ false) (nat_cmp_is a b Less less) refl
]

pub returns-clause-found : goal.returns-clause-found
returns-clause-found c =
    let in_range = c.range.ensures.in_range tt in
    let entry = in_range.3 _ _ c.in_ok-first.ensures.steps in
    let greatest = in_range.4 _ _ c.in_ok-first.ensures.steps in
    record {
      is_range = entry.1;
      is_up_to = le_from_not_gt c.in_ok-first.first.now c.args.number entry.0.1;
      is_last = λ other end has below.
          ge_from_not_lt c.in_ok-first.first.now other (greatest other (tt, not_above other c.args.number below)
          (subst (λ found. is_some found ≡ is_some (Some end)) (sym has) refl));
    }
