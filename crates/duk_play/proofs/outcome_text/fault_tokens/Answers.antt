use Rattle.std.proofs.Common.{[], ◌∷◌, codes}
use Rattle.duk_script.specs.Script.{terminal_name}
use Rattle.duk_play.proofs.SpacedTokens.{push_token}
use Rattle.duk_play.proofs.outcome_text.fault_tokens.Goals as goal

pub returns-in-NothingOpen-clause-text : goal.returns-in-NothingOpen-clause-text
returns-in-NothingOpen-clause-text c =
    rw c.in-NothingOpen.is (push_token (codes "fault" ∷ []) (terminal_name c.args.t) (codes "NothingOpen") _ _ c.refused-in-NothingOpen.ensures.text c.token-in-NothingOpen.ensures.text)
