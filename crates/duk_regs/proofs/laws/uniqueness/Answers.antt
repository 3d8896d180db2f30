use Rattle.duk_regs.proofs.FrontierToFrontier.{register_either, same_set}
use Rattle.duk_regs.proofs.laws.uniqueness.Goals as goal

pub returns-clause-register : goal.returns-clause-register
returns-clause-register c = register_either c.candidates.ensures.either

pub returns-clause-same : goal.returns-clause-same
returns-clause-same c = same_set c.candidates.ensures.either
