use Rattle.std.proofs.Common.{◌≡◌, false}
use Rattle.duk_host.specs.Serve.{supply}
use Rattle.duk_journal_host.specs.Host.{host_meaning_of}
use Rattle.duk_journal_host.specs.Serve.{empty_workspace, service}
use Rattle.duk_journal_host.proofs.ReadAndServed.{IsServing}
use Rattle.duk_journal_host.proofs.service.serve.Given as goal

abbrev pub invariant-loop : goal.invariant-loop
invariant-loop g l = record {
  goes_on : l.feeder.failed ≡ false;
  cleared : l.work ≡ empty_workspace;
  serving : IsServing (host_meaning_of g.J.Journal.meaning g.I.Issuer.decides)
      (service l.fn.host (g.W.Sink.known l.fn.writer)) (service l.host (g.W.Sink.known l.writer))
      (supply (g.R.Source.known l.fn.reader) (g.R.Source.reads l.fn.reader)) (supply (g.R.Source.known l.reader) (g.R.Source.reads l.reader))
      l.feeder.rest l.counter;
}
