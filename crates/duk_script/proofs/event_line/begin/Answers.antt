use Rattle.std.proofs.Common.{ℕ, List, sym, subst}
use Rattle.duk_script.specs.Script.{terminal_name}
use Rattle.duk_script.specs.inner.Reading.{IsPurchase}
use Rattle.duk_script.proofs.event_line.begin.Goals as goal

pub returns-in_err-t-clause-every : goal.returns-in_err-t-clause-every
returns-in_err-t-clause-every c = λ t purchase are. absurd (c.in_err-t.ensures.every (terminal_name t) are.text are.split)

pub returns-in_err-t-2-clause-every : goal.returns-in_err-t-2-clause-every
returns-in_err-t-2-clause-every c = λ t purchase are.
    let same = c.in_ok-t.ensures.every (terminal_name t) are.text are.split in
    cc (c.in_err-t-2.ensures.every t are.terminal same.0)

pub returns-in_err-purchase-clause-every : goal.returns-in_err-purchase-clause-every
returns-in_err-purchase-clause-every c = λ t purchase are.
    let same = c.in_ok-t.ensures.every (terminal_name t) are.text are.split in
    cc (c.in_err-purchase.ensures.every purchase (subst (λ (l : List ℕ). IsPurchase l purchase) (sym same.1) are.bought))

pub returns-clause-every : goal.returns-clause-every
returns-clause-every c = λ t purchase are.
    let same = c.in_ok-t.ensures.every (terminal_name t) are.text are.split in
    cc (
      c.in_ok-t-2.ensures.every t are.terminal same.0,
      c.in_ok-purchase.ensures.every purchase (subst (λ (l : List ℕ). IsPurchase l purchase) (sym same.1) are.bought),
    )
