use Rattle.duk_frame.proofs.Streams.{are_split, first_frames, one_splitting, part_has_no_frame}
use Rattle.duk_frame.proofs.laws.streams.Goals as goal

pub returns-clause-split : goal.returns-clause-split
returns-clause-split c = are_split

pub returns-clause-one_way : goal.returns-clause-one_way
returns-clause-one_way c = one_splitting

pub returns-clause-first : goal.returns-clause-first
returns-clause-first c = first_frames

pub returns-clause-not_yet : goal.returns-clause-not_yet
returns-clause-not_yet c = part_has_no_frame
