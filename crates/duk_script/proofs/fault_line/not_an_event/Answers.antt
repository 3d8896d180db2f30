use Rattle.std.proofs.Common.{append_assoc}
use Rattle.duk_script.proofs.fault_line.not_an_event.Goals as goal

pub returns : goal.returns
returns c =
    rw (c.end.ensures, c.token-3.ensures.text, c.token-2.ensures.text, c.token.ensures.text, c.colon.ensures.text, c.number.ensures.text, c.of_token.ensures.text) (simp append_assoc)
