use Rattle.std.proofs.Common.{refl}
use Rattle.duk_store.proofs.laws.new_disk_log.Goals as goal

pub returns : goal.returns
returns c = λ records some. c.new_disk_records.ensures refl records some
