use Rattle.std.proofs.Common.{◌+◌, refl, ap}
use Rattle.duk_stations.proofs.PlacesInLists.{stands_at}
use Rattle.duk_books.proofs.moves.RunsGoOn.{run_next, run_none}
use Rattle.duk_books.proofs.runs.run_system.Goals as goal

pub loop-event-init : goal.loop-event-init
loop-event-init g c = record { counted = refl; ran = run_none _ c.args.system.now c.args.events.now c.args.out.now.items }

pub returns-in-Err-clause-refused : goal.returns-in-Err-clause-refused
returns-in-Err-clause-refused g c =
    let events = c.args.events.now in
    let loop = c.loop-event in
    record {
      mid = loop.system;
      refused = c.event-item.result;
      done_part = rw (c.in-Err.ensures.out, loop.invariant.counted) loop.invariant.ran;
      next = rw loop.invariant.counted (stands_at events loop.event-index c.event-item.result c.loop-event-test.true c.event-item.is);
      left = c.in-Err.ensures.left;
    }

pub loop-event-preserved : goal.loop-event-preserved
loop-event-preserved g c =
    let events = c.args.events.now in
    let loop = c.loop-event in
    record {
      counted = ap (λ n. n + 1) loop.invariant.counted;
      ran = run_next _ c.args.system.now loop.system _ events loop.event-index c.event-item.result c.args.out.now.items loop.out.items _
          loop.invariant.ran (stands_at events loop.event-index c.event-item.result c.loop-event-test.true c.event-item.is) c.in-Ok.ensures.step;
    }
