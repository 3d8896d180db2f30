use Rattle.std.proofs.Common.{◌≡◌, ◌≢◌, ◌∙◌, refl, rules, sym}
use Rattle.duk_till.proofs.Waits.{number_of_pending, pending_of_number}
use Rattle.duk_till.proofs.checks.check_waits.Goals as goal

pub returns-then-eq-clause-waits : goal.returns-then-eq-clause-waits
returns-then-eq-clause-waits g c = λ pending is.
    let equal : c.in-Some.pending ≡ c.args.ksn = search rules in
    let number = c.in-Some.ensures ∙ number_of_pending c.args.terminal.now.state pending is in
    let same : c.in-Some.pending ≡ pending.ksn = cc in
    sym same ∙ equal

pub returns-else-eq-clause-refused : goal.returns-else-eq-clause-refused
returns-else-eq-clause-refused g c =
    let found = pending_of_number c.args.terminal.now.state c.in-Some.pending c.in-Some.ensures in
    let other : c.in-Some.pending ≢ c.args.ksn = search rules in
    (refl, record { pending = found.0; waits = found.1; other = λ same. other (sym found.2 ∙ same) })

pub returns-in-None-clause-waits : goal.returns-in-None-clause-waits
returns-in-None-clause-waits g c = λ pending is.
    let number = c.in-None.ensures ∙ number_of_pending c.args.terminal.now.state pending is in
    absurd (cc)
