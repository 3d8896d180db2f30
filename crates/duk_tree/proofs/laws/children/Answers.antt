use Rattle.duk_tree.proofs.UsablePaths.{usable_path}
use Rattle.duk_tree.proofs.FrontierCovers.{child_of, child_value, child_place}
use Rattle.duk_tree.proofs.laws.children.Goals as goal

pub returns-clause-child : goal.returns-clause-child
returns-clause-child c = child_of

pub returns-clause-value : goal.returns-clause-value
returns-clause-value c counter child place is_usable child_usable same = (
  child_place counter child place same,
  child_value counter child place (usable_path counter is_usable).0 child_usable same,
)
