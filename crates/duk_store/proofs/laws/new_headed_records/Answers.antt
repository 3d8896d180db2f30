use Rattle.duk_store.proofs.RecordsOnDisk.{headed_records_are_new}
use Rattle.duk_store.proofs.laws.new_headed_records.Goals as goal

pub returns : goal.returns
returns g c = λ header records is some. headed_records_are_new (g.F.Format.meaning c.args.format.now) c.laws.ensures header records is some
