use Rattle.duk_store.proofs.RecordsOnDisk.{new_records_are_new}
use Rattle.duk_store.proofs.laws.new_disk_records.Goals as goal

pub returns : goal.returns
returns g c = λ none records some. new_records_are_new (g.F.Format.meaning c.args.format.now) c.laws.ensures none records some
