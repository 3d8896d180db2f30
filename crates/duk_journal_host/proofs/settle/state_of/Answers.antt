use Rattle.std.proofs.Common.{◌≡◌, ◌∙◌, sym, true}
use Rattle.std.proofs.lemmas.Bool.{false≢true}
use Rattle.duk_journal_host.proofs.settle.state_of.Goals as goal

pub returns-else-has_approved : goal.returns-else-has_approved
returns-else-has_approved c = λ entries has approved.
    let yes : c.has_approved.result ≡ true = c.has_approved.ensures.1 ((has.approved_are c.args.number).1 approved) in
    false≢true (sym c.if-has_approved.false ∙ yes)
