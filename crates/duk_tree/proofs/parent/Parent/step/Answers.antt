use Rattle.std.proofs.Common.{rules}
use Rattle.duk_tree.specs.Derivation.{half_step_of, step_of}
use Rattle.duk_tree.proofs.parent.Parent.step.Goals as goal

pub returns : goal.returns
unfolding step_of half_step_of
returns c = search rules
