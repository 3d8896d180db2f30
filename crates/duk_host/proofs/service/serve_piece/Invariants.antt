use Rattle.std.proofs.Common.{◌≡◌, ◌≤◌, ◌-◌, ◌++◌, false, length, take}
use Rattle.duk_host.specs.Host.{host_meaning_of}
use Rattle.duk_host.specs.Serve.{IsServed, service}
use Rattle.duk_host.proofs.service.serve_piece.Given as goal

abbrev pub invariant-loop-taken : goal.invariant-loop-taken
invariant-loop-taken g l = record {
  within : l.done ≤ length l.piece;
  few : l.frames ≤ l.done;
  goes_on : l.feeder.failed ≡ false;
  served : IsServed (host_meaning_of g.L.UsedLog.meaning g.I.Issuer.decides) (service l.fn.host (g.W.Sink.known l.fn.writer)) (service l.host (g.W.Sink.known l.writer)) (l.fn.feeder.rest ++ take l.done l.piece) l.feeder.rest l.frames;
}

abbrev pub decreases-loop-taken : goal.decreases-loop-taken
decreases-loop-taken g l = length l.piece - l.done
