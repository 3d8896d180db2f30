use Rattle.std.proofs.Common.{[], codes, decimal}
use Rattle.duk_script.specs.Script.{terminal_name}
use Rattle.duk_play.proofs.SpacedTokens.{three_more}
use Rattle.duk_play.proofs.outcome_text.armed_tokens.Goals as goal

pub returns-in-Book-clause-text : goal.returns-in-Book-clause-text
returns-in-Book-clause-text c =
    rw (c.in-Book.is, ← c.from.ensures)
    (three_more [] (terminal_name c.in-Book.t) (codes "book") (codes "armed") (decimal c.from.result) _ _ _ _
    c.of_terminal.ensures.text c.token.ensures.text c.token-in-Book.ensures.text c.number.ensures.text)
