use Rattle.std.proofs.Common.{◌≢◌, rules, ◌∙◌}
use Rattle.duk_reversal.specs.declared.answer.ReversalAnswerFrame.TheVariants.{Reply}
use Rattle.duk_term.proofs.state.Pending.judge_reversal_reply.Goals as goal

pub returns-then-ne-clause-refused : goal.returns-then-ne-clause-refused
returns-then-ne-clause-refused c state is_pending =
    let other : c.ksn.result ≢ c.args.self.now.ksn = search rules in
    (Reply c.args.reply.now, c.args.self.now, c.requires, is_pending, λ is_of. other (c.ksn.ensures.value ∙ is_of.ksn_is))

pub returns-then-ne-2-clause-refused : goal.returns-then-ne-2-clause-refused
returns-then-ne-2-clause-refused c state is_pending =
    let other : c.reversed.result ≢ c.args.reversed = search rules in
    (Reply c.args.reply.now, c.args.self.now, c.requires, is_pending, λ is_of. other (c.reversed.ensures.value ∙ is_of.reversed_is))
