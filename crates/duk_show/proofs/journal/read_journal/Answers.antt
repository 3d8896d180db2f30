use Rattle.std.proofs.Common.{◌≡◌, ◌≢◌, ◌∙◌, ◌/◌, ◌%◌, ◌==◌, ℕ, List, [], ap, eqb-true, length, subst, sym, arith}
use Rattle.std.proofs.lemmas.Bool.{false≢true}
use Rattle.std.proofs.lemmas.List.{nil_from_length}
use Rattle.std.proofs.lemmas.Result.{err_from_is_err_and}
use Rattle.duk_show.specs.inner.Journal.{AreClosedBetween, IsOpenAt}
use Rattle.duk_show.proofs.JournalRecords.{all_kept, cut_behind, no_groups, open_behind}
use Rattle.duk_show.proofs.journal.read_journal.Goals.{then-is_empty-via-then-is_empty, then-is_empty-via-else-is_empty+then-stored-ne0}
use Rattle.duk_show.proofs.journal.read_journal.Goals as goal

pub returns-in_err-entries-clause-refused : goal.returns-in_err-entries-clause-refused
returns-in_err-entries-clause-refused c =
    let p = err_from_is_err_and c.from_residual.result c.from_residual.ensures.1 in
    rw (p.1, p.2) (no_groups c.args.stored c.laws.ensures c.headed.ensures c.args.bytes.now c.requires c.in_err-entries.field-0.0 c.in_err-entries.ensures.refused)

pub returns-in-Some-clause-refused : goal.returns-in-Some-clause-refused
returns-in-Some-clause-refused c =
    let entries = c.in_ok-entries.entries.items in
    let size : c.len.result ≡ length entries = omega (arith, c.len.ensures, c.in_ok-entries.entries.ok.0) in
    open_behind c.args.stored c.laws.ensures c.headed.ensures c.args.bytes.now c.requires entries c.in-Some.place c.in_ok-entries.ensures.groups
    (subst (λ n. IsOpenAt n c.args.stored.records.now c.in-Some.place) size c.in-Some.ensures)

pub returns-then-is_empty-clause-refused : goal.returns-then-is_empty-clause-refused
returns-then-is_empty-clause-refused c =
    let stored = c.args.stored in
    let bytes = c.args.bytes.now in
    let entries = c.in_ok-entries.entries.items in
    let size : c.len.result ≡ length entries = omega (arith, c.len.ensures, c.in_ok-entries.entries.ok.0) in
    let closed = subst (λ n. AreClosedBetween n (length stored.records.now / 32) stored.records.now) size c.in_default.ensures in
    let none : length stored.records.now % 32 ≡ 0 → bytes ≡ [] = λ whole. elim c.then-is_empty.branch [
      | then-is_empty-via-then-is_empty w ↦ nil_from_length bytes (eqb-true (length bytes) 0 (sym c.is_empty.ensures ∙ w.if-is_empty.true))
      | then-is_empty-via-else-is_empty+then-stored-ne0 w ↦ absurd (omega (arith, w.if-stored-ne0.true, whole))
    ] in
    cut_behind stored c.laws.ensures c.headed.ensures bytes c.requires entries c.in_ok-entries.ensures.groups closed none

pub returns-clause-journal : goal.returns-clause-journal
returns-clause-journal c =
    let stored = c.args.stored in
    let bytes = c.args.bytes.now in
    let entries = c.in_ok-entries.entries.items in
    let size : c.len.result ≡ length entries = omega (arith, c.len.ensures, c.in_ok-entries.entries.ok.0) in
    let closed = subst (λ n. AreClosedBetween n (length stored.records.now / 32) stored.records.now) size c.in_default.ensures in
    let some : bytes ≢ [] = λ none. false≢true (sym c.if-is_empty.false ∙ c.is_empty.ensures ∙ ap (λ (l : List ℕ). length l == 0) none) in
    all_kept stored bytes c.requires entries c.in_ok-entries.ensures.groups closed some c.if-stored-ne0.false
