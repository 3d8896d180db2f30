use Rattle.std.proofs.Common.{refl, rules}
use Rattle.dukpt.specs.inner.Meter.{HasAdded, ends_among}
use Rattle.dukpt.proofs.progress.counted.count_ends.Goals as goal

pub returns-in-Some : goal.returns-in-Some
returns-in-Some g c =
    let added : HasAdded g.E.Sink.known c.in-Some.lines c.add.new.self (ends_among c.args.bytes.now) = search rules in
    rw c.in-Some.is (c.add.new.self, refl, added)
