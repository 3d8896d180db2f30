use Rattle.std.proofs.Common.{◌≡◌, ◌<◌, ◌≤◌, ◌*◌, ◌-◌, ℕ, length, drop}
use Rattle.duk_host.specs.Table.{table_decision}
use Rattle.duk_calls.specs.Answer.{part_at}
use Rattle.duk_calls.specs.Hosts.{SaysJudgement}
use Rattle.duk_calls.specs.Requests.{front_frame}
use Rattle.duk_calls.proofs.judging.judge_all.Given as goal

abbrev pub invariant-loop-done : goal.invariant-loop-done
invariant-loop-done g l = record {
  within : l.done ≤ l.count;
  kept : length l.judged ≡ length l.fn.judged;
  below : (p : ℕ) → p < l.done → SaysJudgement l.hsm (table_decision l.issuer) (front_frame (part_at 64 l.frames p)) (part_at 64 l.judged p);
  behind : drop (64 * l.done) l.judged ≡ drop (64 * l.done) l.fn.judged;
}

abbrev pub decreases-loop-done : goal.decreases-loop-done
decreases-loop-done g l = l.count - l.done
