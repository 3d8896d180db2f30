use Rattle.duk_journal.proofs.disk_journal.DiskJournal.new.Goals as goal

pub returns-clause-new : goal.returns-clause-new
returns-clause-new g c = λ identity blank. c.new-records.ensures.new (record { honest = blank.honest; calm = blank.calm; empty = c.new-records.ensures.fresh _ blank.fresh.fresh })

pub returns-clause-empty : goal.returns-clause-empty
returns-clause-empty g c = λ identity fresh. c.new-records.ensures.empty (c.new-records.ensures.fresh _ fresh.fresh)
