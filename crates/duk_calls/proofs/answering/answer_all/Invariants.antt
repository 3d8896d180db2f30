use Rattle.std.proofs.Common.{◌≡◌, ◌<◌, ◌≤◌, ◌*◌, ◌-◌, ℕ, length, drop}
use Rattle.duk_calls.specs.Answer.{part_at}
use Rattle.duk_calls.specs.Hosts.{SaysAnswer}
use Rattle.duk_calls.proofs.answering.answer_all.Given as goal

abbrev pub invariant-loop-done : goal.invariant-loop-done
invariant-loop-done g l = record {
  within : l.done ≤ l.count;
  kept : length l.answers ≡ length l.fn.answers;
  below : (p : ℕ) → p < l.done → SaysAnswer l.hsm (part_at 64 l.settled p) (part_at 64 l.answers p);
  behind : drop (64 * l.done) l.answers ≡ drop (64 * l.done) l.fn.answers;
}

abbrev pub decreases-loop-done : goal.decreases-loop-done
decreases-loop-done g l = l.count - l.done
