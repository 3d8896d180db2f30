use Rattle.std.proofs.Common.{codes, decimal}
use Rattle.duk_frame.specs.Code.{code_text}
use Rattle.duk_script.specs.OutcomeText.{ksn_text}
use Rattle.duk_script.proofs.SpacedTokens.{three_tokens, fifth_token}
use Rattle.duk_script.proofs.outcome_text.tokens_of.Goals as goal

pub returns-in-Accepted-clause-text : goal.returns-in-Accepted-clause-text
returns-in-Accepted-clause-text c =
    rw c.in-Accepted.is
    (fifth_token (codes "answer") (decimal c.in-Accepted.k) (codes "accepted") (ksn_text c.in-Accepted.ksn) (code_text c.in-Accepted.code)
    c.answer_line.result c.code.result c.answer_line.ensures.text c.code.ensures.text)

pub returns-in-Repeated-clause-text : goal.returns-in-Repeated-clause-text
returns-in-Repeated-clause-text c =
    rw c.in-Repeated.is
    (fifth_token (codes "answer") (decimal c.in-Repeated.k) (codes "repeated") (ksn_text c.in-Repeated.ksn) (code_text c.in-Repeated.code)
    c.answer_line-in-Repeated.result c.code-in-Repeated.result c.answer_line-in-Repeated.ensures.text c.code-in-Repeated.ensures.text)

pub returns-in-IksnElsewhere-clause-text : goal.returns-in-IksnElsewhere-clause-text
returns-in-IksnElsewhere-clause-text c =
    rw c.in-IksnElsewhere.is
    (three_tokens _ _ _ c.of_terminal-in-IksnElsewhere.result c.token-in-IksnElsewhere.result
    c.token-in-IksnElsewhere-2.result c.of_terminal-in-IksnElsewhere.ensures.text
    c.token-in-IksnElsewhere.ensures.text c.token-in-IksnElsewhere-2.ensures.text)
