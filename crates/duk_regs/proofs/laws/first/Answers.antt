use Rattle.std.proofs.Common.{refl, arith}
use Rattle.duk_regs.proofs.FrontierToFrontier.{first_future_keys}
use Rattle.duk_regs.proofs.laws.first.Goals as goal

pub returns-clause-usable : goal.returns-clause-usable
returns-clause-usable c = ((c.moves.ensures.first 1).1 (0, omega arith, refl)).is_usable

pub returns-clause-future_keys : goal.returns-clause-future_keys
returns-clause-future_keys c = first_future_keys c.paths.ensures.only c.moves.ensures.first
