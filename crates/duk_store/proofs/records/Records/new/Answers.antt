use Rattle.duk_store.proofs.RecordsOnDisk.{blank_is_new, empty_keeps_nothing, fresh_is_empty, zero_is_empty}
use Rattle.duk_store.proofs.records.Records.new.Goals as goal

pub returns-clause-new : goal.returns-clause-new
returns-clause-new g c = blank_is_new (g.F.Format.meaning c.args.format) c.laws.ensures (g.D.Disk.meaning.state_of c.args.disk)

pub returns-clause-empty : goal.returns-clause-empty
returns-clause-empty g c = empty_keeps_nothing (g.F.Format.meaning c.args.format) c.laws.ensures (g.D.Disk.meaning.state_of c.args.disk)

pub returns-clause-zeros : goal.returns-clause-zeros
returns-clause-zeros g c = zero_is_empty (g.F.Format.meaning c.args.format) c.laws.ensures (g.D.Disk.meaning.state_of c.args.disk)

pub returns-clause-fresh : goal.returns-clause-fresh
returns-clause-fresh g c = λ header fresh. fresh_is_empty (g.F.Format.meaning c.args.format) c.laws.ensures header (g.D.Disk.meaning.state_of c.args.disk) fresh
