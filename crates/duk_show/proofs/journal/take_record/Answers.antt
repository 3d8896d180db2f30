use Rattle.std.proofs.Common.{◌≡◌, ℕ, arith, length, subst}
use Rattle.std.proofs.lemmas.Result.{err_from_is_err_and}
use Rattle.duk_show.specs.inner.Journal.{IsNextIn}
use Rattle.duk_show.proofs.JournalRecords.{none_next, not_new}
use Rattle.duk_show.proofs.StoredRecords.{may_be_kept}
use Rattle.duk_show.proofs.journal.take_record.Goals as goal

pub returns-in_default-clause-refused : goal.returns-in_default-clause-refused
returns-in_default-clause-refused c =
    let size : c.len-place.result ≡ length c.args.entries.now.items = omega (arith, c.len-place.ensures, c.args.entries.now.ok.0) in
    none_next c.args.stored c.len-place.result c.args.left c.args.entries.now.items c.args.bytes.now size c.requires.first c.in_default.ensures

pub take_entry-requires-clause-usable : goal.take_entry-requires-clause-usable
take_entry-requires-clause-usable c = (may_be_kept c.args.stored.version c.args.stored.identity _ c.in-Some.followers c.in-Some.entry c.args.bytes.now c.in-Some.ensures.contents).usable

pub take_entry-requires-clause-stands : goal.take_entry-requires-clause-stands
take_entry-requires-clause-stands c = (may_be_kept c.args.stored.version c.args.stored.identity _ c.in-Some.followers c.in-Some.entry c.args.bytes.now c.in-Some.ensures.contents).stands

pub returns-in_err-take_entry-clause-refused : goal.returns-in_err-take_entry-clause-refused
returns-in_err-take_entry-clause-refused c =
    let size : c.len-place.result ≡ length c.args.entries.now.items = omega (arith, c.len-place.ensures, c.args.entries.now.ok.0) in
    let p = err_from_is_err_and c.from_residual.result c.from_residual.ensures.1 in
    rw (p.1, p.2) (not_new c.args.stored c.laws.ensures c.args.left c.in-Some.followers c.args.entries.now.items c.in-Some.entry c.args.bytes.now c.in_err-take_entry.field-0.0
    (subst (λ (n : ℕ). IsNextIn c.args.stored n c.args.left c.in-Some.followers c.in-Some.entry c.args.bytes.now) size c.in-Some.ensures) c.requires.first c.in_err-take_entry.ensures.refused)

pub returns-clause-taken : goal.returns-clause-taken
returns-clause-taken c =
    let size : c.len-place.result ≡ length c.args.entries.now.items = omega (arith, c.len-place.ensures, c.args.entries.now.ok.0) in
    record {
      entry = c.in-Some.entry;
      followers = c.in-Some.followers;
      next = subst (λ (n : ℕ). IsNextIn c.args.stored n c.args.left c.in-Some.followers c.in-Some.entry c.args.bytes.now) size c.in-Some.ensures;
      left_after = c.left_after.ensures;
      taken = c.in_ok-take_entry.ensures.taken;
    }
