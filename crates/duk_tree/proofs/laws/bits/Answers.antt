use Rattle.duk_tree.proofs.UsablePaths.{usable_path, usable_place, count_ones-path_of, trailing_zeros-path_of}
use Rattle.duk_tree.proofs.laws.bits.Goals as goal

pub returns-clause-usable : goal.returns-clause-usable
returns-clause-usable c = usable_path

pub returns-clause-ones : goal.returns-clause-ones
returns-clause-ones c = count_ones-path_of

pub returns-clause-lowest : goal.returns-clause-lowest
returns-clause-lowest c = trailing_zeros-path_of

pub returns-clause-place : goal.returns-clause-place
returns-clause-place c = usable_place
