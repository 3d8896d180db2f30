use Rattle.std.proofs.Common.{Err, ℕ, ap, length, refl, rules, subst, sym, ◌≡◌}
use Rattle.duk_regs.specs.Registers.{IsSpentIksn, RegisterSet}
use Rattle.duk_calls.proofs.registers.registers_reload.Goals as goal

-- what is spent under one name of a number and of registers is spent under another
spent_along : (iksn : ℕ) (set : RegisterSet) (other : ℕ) (others : RegisterSet)
    → iksn ≡ other
    → set ≡ others
    → IsSpentIksn iksn set
    → IsSpentIksn other others
spent_along iksn set other others same_iksn same_set spent =
    subst (λ number. IsSpentIksn number others) same_iksn
    (subst (IsSpentIksn iksn) same_set spent)

pub returns-in-Err-IksnSpent : goal.returns-in-Err-IksnSpent
returns-in-Err-IksnSpent c = (
  (
    search rules,
    search rules,
    search rules,
    spent_along _ _ _ _ c.in-Some.ensures.1 c.in-Some-stored_in.ensures.1
        (c.in-Err-IksnSpent.ensures.iksn_spent.0 (ap Err c.in-Err-IksnSpent.field-0-is)),
  ),
  refl,
)

pub returns-in-Err-LoadsSpent : goal.returns-in-Err-LoadsSpent
returns-in-Err-LoadsSpent c =
    let why = c.in-Err-LoadsSpent.ensures.loads_spent.0 (ap Err c.in-Err-LoadsSpent.field-0-is) in (
      (
        search rules,
        search rules,
        search rules,
        (λ spent. why.0 (spent_along _ _ _ _ (sym c.in-Some.ensures.1) (sym c.in-Some-stored_in.ensures.1) spent)),
        subst (λ (set : RegisterSet). length set.past ≡ 8) c.in-Some-stored_in.ensures.1 why.1,
      ),
      refl,
    )
