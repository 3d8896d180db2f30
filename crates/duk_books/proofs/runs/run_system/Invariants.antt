use Rattle.std.proofs.Common.{◌≡◌, take}
use Rattle.duk_books.specs.Run.{IsRun}
use Rattle.duk_books.specs.Books.{meanings_of}
use Rattle.duk_books.proofs.runs.run_system.Given as goal

abbrev pub invariant-loop-event : goal.invariant-loop-event
invariant-loop-event g l =
    let m = meanings_of g.C.Cell.meaning g.B.Cell.meaning g.J.Journal.meaning g.I.Issuer.decides in
    record {
      counted : l.done ≡ l.event-index;
      ran : IsRun m l.fn.system (take l.event-index l.events) l.fn.out.items l.out.items l.system;
    }
