use Rattle.std.proofs.Common.{◌≡◌, ◌<◌, ◌≤◌, ◌-◌, ◌++◌, false, length, take}
use Rattle.duk_frame.specs.Stream.{IsPart}
use Rattle.duk_journal_host.specs.Host.{host_meaning_of}
use Rattle.duk_journal_host.specs.Serve.{IsServed, empty_workspace, service}
use Rattle.duk_journal_host.proofs.service.serve_piece.Given as goal

abbrev pub invariant-loop-done : goal.invariant-loop-done
invariant-loop-done g l = record {
  within : l.done ≤ length l.piece;
  goes_on : l.feeder.failed ≡ false;
  part : 0 < l.done → IsPart l.feeder.rest;
  cleared : 0 < l.done → l.work ≡ empty_workspace;
  served : IsServed (host_meaning_of g.J.Journal.meaning g.I.Issuer.decides) (service l.fn.host (g.W.Sink.known l.fn.writer)) (service l.host (g.W.Sink.known l.writer)) (l.fn.feeder.rest ++ take l.done l.piece) l.feeder.rest;
}

abbrev pub decreases-loop-done : goal.decreases-loop-done
decreases-loop-done g l = length l.piece - l.done
