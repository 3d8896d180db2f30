use Rattle.std.proofs.Common.{Some, ap}
use Rattle.duk_journal.specs.declared.record_format.Contents.{Contents}
use Rattle.duk_journal.proofs.FieldPlaces.{same_some}
use Rattle.duk_journal.proofs.record_format.EntryFormatFormat.read.Goals as goal

pub returns-in_err-said-clause-every : goal.returns-in_err-said-clause-every
returns-in_err-said-clause-every c = λ followers entry says.
    let found = c.in_err-said.ensures.every (record { followers = followers; entry = entry }) says in cc

pub returns-clause-every : goal.returns-clause-every
returns-clause-every c = λ followers entry says.
    let right : Contents = record { followers = followers; entry = entry } in
    ap (λ (said : Contents). Some (said.followers, said.entry)) (same_some c.in_ok-said.said right c.of_bytes.result c.in_ok-said.was (c.of_bytes.ensures.every right says))
