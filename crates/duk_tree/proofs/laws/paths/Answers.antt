use Rattle.std.proofs.Common.{refl, ◌∙◌, arith}
use Rattle.std.proofs.lemmas.Nat.{pow_pos}
use Rattle.duk_tree.specs.Path.{last_place, path_of}
use Rattle.duk_tree.proofs.PathsOfCounters.{IsPath-path_from, value_of-path_from, value_of-lt, path_from-value_of}
use Rattle.duk_tree.proofs.laws.paths.Goals as goal

pub returns-clause-path_of_counter : goal.returns-clause-path_of_counter
unfolding path_of
returns-clause-path_of_counter c counter fits = (IsPath-path_from 21 0 counter refl).0

pub returns-clause-value : goal.returns-clause-value
unfolding path_of
returns-clause-value c counter fits = value_of-path_from 21 0 counter refl fits ∙ omega arith

pub returns-clause-counter_of_path : goal.returns-clause-counter_of_path
returns-clause-counter_of_path c path is_path = omega (arith, value_of-lt path is_path, pow_pos (last_place path))

pub returns-clause-only : goal.returns-clause-only
unfolding path_of
returns-clause-only c path is_path = path_from-value_of 21 0 path refl is_path (omega arith)
