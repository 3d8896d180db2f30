use Rattle.std.proofs.Common.{◌≡◌, ◌<◌, ℕ, get_or, length}
use Rattle.duk_group.specs.declared.transposed.TheConstants.{WIDTH}
use Rattle.duk_journal_host.specs.declared.settlement.Settled.{Settled}
use Rattle.duk_calls.specs.Answer.{part_at}
use Rattle.duk_calls.specs.Hosts.{SaysSettled}
use Rattle.duk_calls.proofs.answering.settled_in.Given as goal

abbrev pub invariant-loop-i : goal.invariant-loop-i
invariant-loop-i l = record {
  size : length l.settled ≡ WIDTH;
  read : (p : ℕ) → p < l.i → (none one : Settled) → SaysSettled (part_at 64 l.bytes p) one → SaysSettled (part_at 64 l.bytes p) (get_or l.settled p none);
}
