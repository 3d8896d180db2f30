use Rattle.std.proofs.Common.{◌<◌, ◌≤◌, ◌-◌, ◌*◌, ◌^◌, ℕ, length}
use Rattle.duk_group.specs.Numbers.{message_at}
use Rattle.duk_group.proofs.retail.most_blocks.Given as goal

abbrev pub invariant-loop-message : goal.invariant-loop-message
invariant-loop-message l = record {
  all : (p : ℕ) → p < l.message-index → length (message_at l.messages p) ≤ 8 * l.most;
  fits : 8 * (l.most - 1) < 2 ^ 64;
}
