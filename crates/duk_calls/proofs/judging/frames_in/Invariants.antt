use Rattle.std.proofs.Common.{◌≡◌, length, map}
use Rattle.duk_calls.specs.inner.Hosts.{frames_at}
use Rattle.duk_calls.proofs.judging.frames_in.Given as goal

abbrev pub invariant-loop-i : goal.invariant-loop-i
invariant-loop-i l = record {
  counted : length l.frames.items ≡ l.i;
  are : map (λ frame. frame.items) l.frames.items ≡ frames_at l.bytes l.i;
}
