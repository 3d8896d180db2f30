use Rattle.std.proofs.Common.{◌≡◌}
use Rattle.duk_play.specs.Opening.{opening}
use Rattle.duk_play.proofs.opening.restarts.Given as goal

abbrev pub invariant-loop-t : goal.invariant-loop-t
invariant-loop-t l = l.events.items ≡ opening l.t
