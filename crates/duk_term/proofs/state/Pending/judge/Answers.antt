use Rattle.std.proofs.Common.{◌≡◌, rules, subst}
use Rattle.duk_frame.specs.Answer.{IsAnswer, IsRefusal}
use Rattle.duk_term.proofs.state.Pending.judge.Goals as goal

pub returns-then-eq-clause-reported : goal.returns-then-eq-clause-reported
returns-then-eq-clause-reported c state is_pending =
    let same : c.in-Refusal.ksn ≡ c.args.self.now.ksn = search rules in
    let answer = subst (λ answer. IsAnswer c.args.bytes.now answer) c.in-Refusal.is c.requires in
    (c.args.self.now, is_pending, subst (λ ksn. IsRefusal c.args.bytes.now ksn c.in-Refusal.reason) same answer)
