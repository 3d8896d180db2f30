use Rattle.std.proofs.Common.{◌≡◌, ◌<◌, ℕ, length}
use Rattle.duk_calls.specs.Answer.{part_at}
use Rattle.duk_calls.specs.Hosts.{SaysAnswer}
use Rattle.duk_calls.proofs.answering.answer_group.Given as goal

abbrev pub invariant-loop-i : goal.invariant-loop-i
invariant-loop-i g l = record {
  kept : length l.answers ≡ length l.fn.answers;
  below : (p : ℕ) → p < l.i → SaysAnswer l.hsm (part_at 64 l.settled p) (part_at 64 l.answers p);
}
