-- The key is that of the node whose places are the counter's ones from `place` up.
use Rattle.std.proofs.Common.{◌≡◌, ◌-◌}
use Rattle.duk_tree.specs.Derivation.{node_key}
use Rattle.duk_tree.proofs.PathsOfCounters.{path_from}
use Rattle.duk_tree.proofs.derivation.transaction_key.Given as goal

abbrev pub invariant-loop-place : goal.invariant-loop-place
invariant-loop-place l = l.key ≡ node_key l.fn.initial l.fn.ksn.iksn (path_from l.place (21 - l.place) l.fn.ksn.counter)
