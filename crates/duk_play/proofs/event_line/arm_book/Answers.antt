use Rattle.std.proofs.Common.{List, ℕ, codes, decimal, sym, subst}
use Rattle.std.proofs.lemmas.Bool.{false≢true}
use Rattle.duk_script.specs.Script.{IsSplit, terminal_name}
use Rattle.duk_play.proofs.event_line.arm_book.Goals as goal

pub returns-in_err-t-clause-every : goal.returns-in_err-t-clause-every
returns-in_err-t-clause-every c = λ t n are. absurd (c.in_err-t.ensures.every (terminal_name t) are.rest are.split)

pub returns-in_err-word-clause-every : goal.returns-in_err-word-clause-every
returns-in_err-word-clause-every c = λ t n are.
    let same = c.in_ok-t.ensures.every (terminal_name t) are.rest are.split in
    absurd (c.in_err-word.ensures.every (codes "book") (decimal n) (subst (λ (l : List ℕ). IsSplit l (codes "book") (decimal n)) (sym same.1) are.rest_split))

pub returns-in_err-t-2-clause-every : goal.returns-in_err-t-2-clause-every
returns-in_err-t-2-clause-every c = λ t n are.
    let same = c.in_ok-t.ensures.every (terminal_name t) are.rest are.split in
    cc (c.in_err-t-2.ensures.every t are.terminal same.0)

pub returns-in_err-n-clause-every : goal.returns-in_err-n-clause-every
returns-in_err-n-clause-every c = λ t n are.
    let same = c.in_ok-t.ensures.every (terminal_name t) are.rest are.split in
    let more = c.in_ok-word.ensures.every (codes "book") (decimal n) (subst (λ (l : List ℕ). IsSplit l (codes "book") (decimal n)) (sym same.1) are.rest_split) in
    cc (c.in_err-n.ensures.every n are.number more.1)

pub returns-clause-every : goal.returns-clause-every
returns-clause-every c = λ t n are.
    let same = c.in_ok-t.ensures.every (terminal_name t) are.rest are.split in
    let more = c.in_ok-word.ensures.every (codes "book") (decimal n) (subst (λ (l : List ℕ). IsSplit l (codes "book") (decimal n)) (sym same.1) are.rest_split) in
    cc (c.in_ok-t-2.ensures.every t are.terminal same.0, c.in_ok-n.ensures.every n are.number more.1)

pub returns-then-ne-clause-every : goal.returns-then-ne-clause-every
returns-then-ne-clause-every c = λ t n are.
    let same = c.in_ok-t.ensures.every (terminal_name t) are.rest are.split in
    let more = c.in_ok-word.ensures.every (codes "book") (decimal n) (subst (λ (l : List ℕ). IsSplit l (codes "book") (decimal n)) (sym same.1) are.rest_split) in
    absurd (false≢true (sym (rw more.0 at c.if-ne.ensures)))
