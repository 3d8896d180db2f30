use Rattle.std.proofs.Common.{rules}
use Rattle.duk_term.proofs.terminal.Terminal.reversal_reply.Goals as goal

pub returns-in_err-answer-clause-refused : goal.returns-in_err-answer-clause-refused
returns-in_err-answer-clause-refused g c = rw (← c.self.view_is) (search rules)
