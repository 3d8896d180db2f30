use Rattle.std.proofs.Common.{append_assoc}
use Rattle.duk_script.proofs.fault_line.bad_entry.Goals as goal

pub returns : goal.returns
returns c =
    rw (c.end.ensures, c.number.ensures.text, c.bad_key.ensures.text) (simp append_assoc)
