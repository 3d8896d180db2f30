use Rattle.duk_tree.proofs.FrontierCovers.{first_held, held_first, moves_from, moves_to}
use Rattle.duk_tree.proofs.laws.moves.Goals as goal

pub returns-clause-first : goal.returns-clause-first
returns-clause-first c node = (first_held node, λ power. (held_first node power.0 power.1 power.2).0)

pub returns-clause-moves : goal.returns-clause-moves
returns-clause-moves c counter next node is_usable after = (moves_from counter next node is_usable after, moves_to counter next node is_usable after)
