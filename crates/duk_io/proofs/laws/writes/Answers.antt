use Rattle.duk_io.proofs.WritesInTurn.{cut_later, tried_later, untouched, written_none, written_then}
use Rattle.duk_io.proofs.laws.writes.Goals as goal

pub returns-clause-none : goal.returns-clause-none
returns-clause-none c = written_none

pub returns-clause-untouched : goal.returns-clause-untouched
returns-clause-untouched c = untouched

pub returns-clause-then : goal.returns-clause-then
returns-clause-then c = written_then

pub returns-clause-cut_later : goal.returns-clause-cut_later
returns-clause-cut_later c = cut_later

pub returns-clause-tried_later : goal.returns-clause-tried_later
returns-clause-tried_later c = tried_later
