use Rattle.duk_script.proofs.LinesInTurn.{cut_among, lines_more, written_all}
use Rattle.duk_script.proofs.laws.lines_in_turn.Goals as goal

pub returns-clause-more : goal.returns-clause-more
returns-clause-more g c line_of = lines_more line_of

pub returns-clause-cut : goal.returns-clause-cut
returns-clause-cut g c line_of = cut_among line_of

pub returns-clause-all : goal.returns-clause-all
returns-clause-all g c line_of = written_all line_of
