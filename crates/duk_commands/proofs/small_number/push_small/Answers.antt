use Rattle.std.proofs.Common.{◌+◌, ◌/◌, ◌%◌, ◌∷◌, ◌++◌, [], List, ℕ, ap, append_assoc, sym, ◌∙◌}
use Rattle.duk_commands.proofs.SmallNumbers.{two_digits}
use Rattle.duk_commands.proofs.small_number.push_small.Goals as goal

pub returns-clause-digits : goal.returns-clause-digits
returns-clause-digits c =
    let n = c.args.number in
    let last : List ℕ = (48 + n % 10) ∷ [] in
    c.push-3.ensures.items ∙ ap (λ (front : List ℕ). front ++ last) c.push-2.ensures.items
    ∙ append_assoc c.args.lines.now.items ((48 + n / 10) ∷ []) last
    ∙ ap (λ (digits : List ℕ). c.args.lines.now.items ++ digits) (sym (two_digits n c.if-number-lt10.false c.requires.small))
