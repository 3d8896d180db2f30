use Rattle.std.proofs.Common.{◌≡◌, ◌<◌, ◌≤◌, ◌-◌, ℕ, length, drop, get_or}
use Rattle.duk_calls.specs.Answer.{Reports, part_at}
use Rattle.duk_calls.specs.Requests.{IsVerdict, front_frame}
use Rattle.duk_calls.proofs.many_requests.check_requests.Given as goal

abbrev pub invariant-loop-done : goal.invariant-loop-done
invariant-loop-done l = record {
  within : l.done ≤ l.count;
  kept : length l.results ≡ length l.fn.results;
  below : (p : ℕ) → p < l.done → Reports (get_or l.results p 0) (IsVerdict l.fn.bdk (front_frame (part_at 64 l.frames p)));
  behind : drop l.done l.results ≡ drop l.done l.fn.results;
}

abbrev pub decreases-loop-done : goal.decreases-loop-done
decreases-loop-done l = l.count - l.done
