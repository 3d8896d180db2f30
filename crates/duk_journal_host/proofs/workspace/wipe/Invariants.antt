use Rattle.std.proofs.Common.{◌≡◌, length, replicate, take}
use Rattle.std.specs.List.{All}
use Rattle.duk_journal_host.proofs.workspace.wipe.Given as goal

abbrev pub invariant-loop-index : goal.invariant-loop-index
invariant-loop-index l = record {
  same_length : length l.frames ≡ length l.fn.frames;
  wiped : All (λ frame. frame.items ≡ replicate 64 0) (take l.index l.frames);
}
