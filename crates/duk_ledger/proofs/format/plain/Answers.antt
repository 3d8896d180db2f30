use Rattle.duk_ledger.proofs.format.plain.Goals as goal

pub returns-clause-fields : goal.returns-clause-fields
returns-clause-fields c = record { iksn = c.bytes.ensures.iksn; made = c.append_made.ensures.fields }
