use Rattle.std.proofs.Common.{sym}
use Rattle.std.proofs.lemmas.List.{take_rest}
use Rattle.duk_script.proofs.FirstLine.{lines_some, lines_none}
use Rattle.duk_script.proofs.script.split_line.Goals as goal

pub returns-in-Some-clause-first : goal.returns-in-Some-clause-first
returns-in-Some-clause-first c =
    rw (take_rest, c.without_return.ensures) (lines_some c.args.text.now c.in-Some.end (sym c.in-Some.ensures))

pub returns-in-None-clause-first : goal.returns-in-None-clause-first
returns-in-None-clause-first c = lines_none c.args.text.now (sym c.in-None.ensures) c.requires
