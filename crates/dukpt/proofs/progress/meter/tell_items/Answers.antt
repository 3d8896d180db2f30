use Rattle.std.proofs.Common.{arith, rules}
use Rattle.duk_io.specs.Sink.{IsTried}
use Rattle.dukpt.specs.inner.Progress.{progress_line}
use Rattle.dukpt.proofs.Told.{told_all, told_more}
use Rattle.dukpt.proofs.progress.meter.tell_items.Goals as goal

pub loop-item-preserved : goal.loop-item-preserved
loop-item-preserved g c =
    let next = c.in-Some.ensures.next in
    let behind = next.behind in
    let order = c.loop-item.invariant.0 in
    let line : IsTried (g.E.Sink.known c.loop-item.errors) (g.E.Sink.known c.tell.new.fault) (progress_line c.args.pace.total c.in-Some.item) = search rules in (
      omega arith,
      next.within,
      told_more c.args.pace.total c.args.before c.loop-item.told c.args.done c.in-Some.item _ _ _ order next c.loop-item.invariant.2 line,
    )

pub returns : goal.returns
returns g c =
    told_all c.args.pace.total c.args.before c.loop-item.told c.args.done _ _ c.loop-item.invariant.0 c.loop-item.invariant.1
    c.in_default.ensures.none c.loop-item.invariant.2
