use Rattle.std.proofs.Common.{◌≡◌, ◌<◌, ◌≤◌, [], ◌-◌, ◌++◌, false, length, map, take}
use Rattle.duk_frame.specs.Stream.{BeginsWith}
use Rattle.duk_journal_host.specs.Group.{most_frames}
use Rattle.duk_journal_host.specs.inner.Serve.{HasRoomForFrames}
use Rattle.duk_journal_host.proofs.service.collect.Given as goal

abbrev pub invariant-loop-feeder : goal.invariant-loop-feeder
invariant-loop-feeder l = record {
  within : l.done ≤ length l.piece;
  few : length l.frames.items ≤ most_frames;
  some : length l.frames.items ≤ l.done;
  nothing_left : 0 < length l.frames.items → l.feeder.rest ≡ [];
  room : HasRoomForFrames l.frames;
  goes_on : l.feeder.failed ≡ false;
  begins : BeginsWith (l.fn.feeder.rest ++ take l.done l.piece) (map (λ frame. frame.items) l.frames.items) l.feeder.rest;
}

abbrev pub decreases-loop-feeder : goal.decreases-loop-feeder
decreases-loop-feeder l = length l.piece - l.done
