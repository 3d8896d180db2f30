use Rattle.std.proofs.Common.{refl}
use Rattle.dukpt.proofs.progress.watched_disk.count_records.Goals as goal

pub returns-in-Some : goal.returns-in-Some
returns-in-Some g c =
    rw c.in-Some.is (c.add.new.self, refl, c.add.ensures.length, c.add.ensures.records)
