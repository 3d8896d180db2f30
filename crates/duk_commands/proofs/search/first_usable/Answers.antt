use Rattle.std.proofs.Common.{rules}
use Rattle.duk_commands.proofs.Windows.{first_by_next, none_by_last}
use Rattle.duk_commands.proofs.search.first_usable.Goals as goal
use Rattle.duk_tree.specs.Next.{IsLast, IsNextUsable}
use Rattle.duk_tree.specs.Path.{IsUsable}

pub returns-in_err-next-clause-none : goal.returns-in_err-next-clause-none
returns-in_err-next-clause-none c =
    let unusable : ¬ IsUsable c.args.from.counter = search rules in
    let last : IsLast c.args.from.counter = search rules in
    let none = none_by_last c.args.from.counter unusable last in
    search (rules, none)

pub returns-clause-first : goal.returns-clause-first
returns-clause-first c =
    let unusable : ¬ IsUsable c.args.from.counter = search rules in
    let next : IsNextUsable c.args.from.counter c.in_ok-next.next = search rules in
    (search rules, search (rules, first_by_next c.args.from.counter c.in_ok-next.next unusable next))
