use Rattle.duk_io.proofs.ReadsInTurn.{broken_later, more_reads, no_reads, read_none, read_then}
use Rattle.duk_io.proofs.laws.reads.Goals as goal

pub returns-clause-none : goal.returns-clause-none
returns-clause-none c = read_none

pub returns-clause-then : goal.returns-clause-then
returns-clause-then c = read_then

pub returns-clause-broken_later : goal.returns-clause-broken_later
returns-clause-broken_later c = broken_later

pub returns-clause-no_reads : goal.returns-clause-no_reads
returns-clause-no_reads c = no_reads

pub returns-clause-more_reads : goal.returns-clause-more_reads
returns-clause-more_reads c = more_reads
