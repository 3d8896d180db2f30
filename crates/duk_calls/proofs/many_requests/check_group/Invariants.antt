use Rattle.std.proofs.Common.{◌≡◌, ◌<◌, ℕ, length, get_or}
use Rattle.duk_calls.specs.Answer.{Reports, part_at}
use Rattle.duk_calls.specs.Requests.{IsVerdict, front_frame}
use Rattle.duk_calls.proofs.many_requests.check_group.Given as goal

abbrev pub invariant-loop-i : goal.invariant-loop-i
invariant-loop-i l = record {
  kept : length l.results ≡ length l.fn.results;
  below : (p : ℕ) → p < l.i → Reports (get_or l.results p 0) (IsVerdict l.bdk (front_frame (part_at 64 l.frames p)));
}
