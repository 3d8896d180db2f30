use Rattle.std.proofs.Common.{Bool, ap, sym, ◌∙◌}
use Rattle.duk_show.specs.inner.JournalTallies.{share_if}
use Rattle.duk_show.proofs.StandingPayments.{told}
use Rattle.duk_show.proofs.standing.share_of.Goals as goal

pub returns-then-contains-clause-share : goal.returns-then-contains-clause-share
returns-then-contains-clause-share c = λ all those.
    let number = c.args.entry.now.number in
    let same = told all c.args.reversed.now number c.contains.result (c.totals.ensures.reversed all number) those c.contains.ensures in
    c.reversed_share.ensures.share ∙ sym (ap (λ (b : Bool). share_if b c.args.entry.now.decided) (same ∙ c.if-contains.true))

pub returns-else-contains-clause-share : goal.returns-else-contains-clause-share
returns-else-contains-clause-share c = λ all those.
    let number = c.args.entry.now.number in
    let same = told all c.args.reversed.now number c.contains.result (c.totals.ensures.reversed all number) those c.contains.ensures in
    c.standing_share.ensures.share ∙ sym (ap (λ (b : Bool). share_if b c.args.entry.now.decided) (same ∙ c.if-contains.false))
