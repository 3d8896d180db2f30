use Rattle.std.proofs.Common.{◌∙◌, List, ℕ, ap, arith, string_bytes}
use Rattle.std.proofs.lemmas.List.{map_push}
use Rattle.duk_program.specs.CommandLine.{row_of}
use Rattle.duk_program.specs.References.{help_name}
use Rattle.duk_program.proofs.Entries.{their_name, their_texts}
use Rattle.duk_program.proofs.InputRead.{all_read, first_unread_at, none_read, reads_more}
use Rattle.duk_program.proofs.references.read_texts.Goals as goal

pub loop-place-init : goal.loop-place-init
loop-place-init g c = rw (c.new-texts.ensures.items) (none_read _ _)

pub returns-in-Err-read_secret-clause-refused : goal.returns-in-Err-read_secret-clause-refused
returns-in-Err-read_secret-clause-refused g c =
    let entries = c.in-Ok.references.items in
    let asked = c.args.request.now in
    first_unread_at (λ entry. entry.text.now) entries _ asked (their_texts entries asked c.in-Ok.ensures) _ _ _ _ _ _
    c.secret_at-secret.result c.in-Err-read_secret.why c.loop-place.place c.secret_at-secret.ensures.place (omega arith) c.loop-place.invariant
    (c.secret_at-secret.ensures.name ∙ (rw (c.command.ensures, c.index-in-loop-place.ensures) (ap (λ (name : List ℕ). help_name name (row_of asked.command)) (their_name entries asked c.in-Ok.ensures c.loop-place.place _ (omega arith)))))
    (rw c.index.ensures at c.in-Err-read_secret.ensures.refused)

pub loop-place-preserved : goal.loop-place-preserved
loop-place-preserved g c = rw (c.in-Ok-push.ensures.items, map_push string_bytes c.loop-place.texts.items c.in-Ok-read_secret.text)
    (reads_more (λ entry. entry.text.now) _ _ _ _ _ _ _ _ _ _ _ (omega arith) c.loop-place.invariant (rw c.index.ensures at c.in-Ok-read_secret.ensures.read))

pub returns : goal.returns
returns g c = record {
  read = all_read (λ entry. entry.text.now) c.in-Ok.references.items _ c.args.request.now (their_texts c.in-Ok.references.items c.args.request.now c.in-Ok.ensures) _ _ _ _ _ (omega arith) c.loop-place.invariant;
  refused = tt;
}
