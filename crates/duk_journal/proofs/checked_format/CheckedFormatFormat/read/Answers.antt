use Rattle.std.proofs.Common.{List, ℕ, Some, ap, subst, sym}
use Rattle.duk_journal.specs.RecordFormat.{SaysEntry}
use Rattle.duk_journal.specs.declared.record_format.Contents.{Contents}
use Rattle.duk_journal.proofs.FieldPlaces.{same_some}
use Rattle.duk_journal.proofs.checked_format.CheckedFormatFormat.read.Goals as goal

pub returns-in_err-said-clause-every : goal.returns-in_err-said-clause-every
returns-in_err-said-clause-every c = λ followers entry says.
    let plain = subst (λ (l : List ℕ). SaysEntry followers entry l) (sym c.without_check.ensures.bytes) says.says in
    let found = c.in_err-said.ensures.every (record { followers = followers; entry = entry }) plain in cc

pub returns-clause-every : goal.returns-clause-every
returns-clause-every c = λ followers entry says.
    let right : Contents = record { followers = followers; entry = entry } in
    let plain = subst (λ (l : List ℕ). SaysEntry followers entry l) (sym c.without_check.ensures.bytes) says.says in
    ap (λ (said : Contents). Some (said.followers, said.entry)) (same_some c.in_ok-said.said right c.of_bytes.result c.in_ok-said.was (c.of_bytes.ensures.every right plain))
