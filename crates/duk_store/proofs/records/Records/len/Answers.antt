use Rattle.std.proofs.Common.{subst}
use Rattle.duk_store.specs.DiskRecords.{records_meaning}
use Rattle.duk_store.specs.Listed.{CountsFound}
use Rattle.duk_store.proofs.RecordsOnDisk.{counts_found}
use Rattle.duk_store.proofs.records.Records.len.Goals as goal

pub returns-in-Some-clause-found : goal.returns-in-Some-clause-found
returns-in-Some-clause-found g c =
    let inside = c.self.inside in
    let disk = g.D.Disk.meaning.state_of inside.disk in
    subst (λ records. CountsFound (records_meaning g.D.Disk.meaning g.F.Format.meaning) records) c.self.view_is
    (counts_found (g.F.Format.meaning inside.format) inside.identity disk c.self.invariant.0 inside.kept c.self.invariant.1)
