use Rattle.std.proofs.Common.{◌≡◌, take}
use Rattle.duk_net.specs.Run.{IsRun}
use Rattle.duk_net.specs.World.{meanings_of}
use Rattle.duk_net.proofs.runs.run_system.Given as goal

abbrev pub invariant-loop-event : goal.invariant-loop-event
invariant-loop-event g l =
    let m = meanings_of g.C.Cell.meaning g.L.UsedLog.meaning g.I.Issuer.decides in
    record {
      counted : l.done ≡ l.event-index;
      ran : IsRun m l.fn.system (take l.event-index l.events) l.fn.out.items l.out.items l.system;
    }
