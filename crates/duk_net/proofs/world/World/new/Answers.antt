use Rattle.duk_net.specs.First.{first_world}
use Rattle.duk_net.proofs.worlds.ReachedByMoves.{starts}
use Rattle.duk_net.proofs.world.World.new.Goals as goal

pub returns-clause-used_once : goal.returns-clause-used_once
returns-clause-used_once g c =
    rw c.new.ensures.items (c.used_once.ensures.used_once (first_world c.args.host c.args.loading c.args.terminals.items) (starts _ c.args.host c.args.loading c.args.terminals.items c.requires.host c.requires.terminals))

pub returns-clause-above_used : goal.returns-clause-above_used
returns-clause-above_used g c =
    rw (c.new.ensures.items, c.new-3.ensures.items) (c.no_used_key.ensures.above_used (first_world c.args.host c.args.loading c.args.terminals.items) (starts _ c.args.host c.args.loading c.args.terminals.items c.requires.host c.requires.terminals))

pub returns-clause-no_used_key : goal.returns-clause-no_used_key
returns-clause-no_used_key g c =
    rw c.new.ensures.items (c.no_used_key.ensures.no_used_key (first_world c.args.host c.args.loading c.args.terminals.items) (starts _ c.args.host c.args.loading c.args.terminals.items c.requires.host c.requires.terminals))

pub returns-clause-version_2 : goal.returns-clause-version_2
returns-clause-version_2 g c =
    c.no_used_key.ensures.version_2 (first_world c.args.host c.args.loading c.args.terminals.items) (starts _ c.args.host c.args.loading c.args.terminals.items c.requires.host c.requires.terminals)
