use Rattle.duk_journal_host.proofs.NumbersTaken.{wider_if}
use Rattle.duk_journal_host.proofs.sets.insert.Goals as goal

pub returns-clause-wider : goal.returns-clause-wider
returns-clause-wider c = wider_if c.insert.result c.args.used.now c.insert.new.self c.args.number c.requires c.insert.ensures.added c.insert.ensures.fresh c.insert.ensures.same
