use Rattle.std.proofs.Common.{◌≡◌, ◌≤◌, ◌+◌, ◌*◌, true, subst}
use Rattle.duk_store.specs.Disk.{LeavesReads}
use Rattle.duk_store.specs.DiskRecords.{are_running, count_in}
use Rattle.duk_store.proofs.RecordsOnDisk.{kept_inside, leaves_one}
use Rattle.duk_store.proofs.records.Records.into_disk.Goals as goal

pub returns-clause-inside : goal.returns-clause-inside
returns-clause-inside g c =
    let inside = c.self.inside in
    let disk = g.D.Disk.meaning.state_of inside.disk in
    subst (λ records. are_running records.kept ≡ true → (g.F.Format.meaning records.format).record_length * ((g.F.Format.meaning records.format).headers + count_in records.kept) ≤ disk.size) c.self.view_is
    (kept_inside (g.F.Format.meaning inside.format) inside.identity disk inside.kept c.self.invariant.1)

pub returns-clause-one : goal.returns-clause-one
returns-clause-one g c =
    let inside = c.self.inside in
    let disk = g.D.Disk.meaning.state_of inside.disk in
    subst (λ records. are_running records.kept ≡ true → disk.honest → LeavesReads disk) c.self.view_is (leaves_one (g.F.Format.meaning inside.format) inside.identity disk inside.kept c.self.invariant.1)
