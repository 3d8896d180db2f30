use Rattle.std.proofs.Common.{◌≡◌, ◌<◌, ℕ, length}
use Rattle.duk_host.specs.Table.{table_decision}
use Rattle.duk_calls.specs.Answer.{part_at}
use Rattle.duk_calls.specs.Hosts.{SaysJudgement}
use Rattle.duk_calls.specs.Requests.{front_frame}
use Rattle.duk_calls.proofs.judging.judge_group.Given as goal

abbrev pub invariant-loop-i : goal.invariant-loop-i
invariant-loop-i g l = record {
  kept : length l.judged ≡ length l.fn.judged;
  below : (p : ℕ) → p < l.i → SaysJudgement l.hsm (table_decision l.issuer) (front_frame (part_at 64 l.frames p)) (part_at 64 l.judged p);
}
