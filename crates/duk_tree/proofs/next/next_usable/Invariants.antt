-- No usable number lies between the counter and `next`.
use Rattle.std.proofs.Common.{ℕ, ◌<◌, ◌≤◌, ◌-◌, ◌^◌}
use Rattle.duk_tree.specs.Path.{IsUsable}
use Rattle.duk_tree.proofs.next.next_usable.Given as goal

abbrev pub invariant-loop-next : goal.invariant-loop-next
invariant-loop-next l = (l.counter < l.next) × ((other : ℕ) → IsUsable other → l.counter < other → l.next ≤ other)

abbrev pub decreases-loop-next : goal.decreases-loop-next
decreases-loop-next l = 2 ^ 21 - l.next
