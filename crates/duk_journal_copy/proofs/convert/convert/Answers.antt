use Rattle.std.proofs.Common.{◌≡◌, ◌∙◌, ◌-◌, ℕ, List, ap, arith, length, length-drop, refl, slice_set, subst, sym}
use Rattle.std.proofs.lemmas.List.{length-set}
use Rattle.std.proofs.lemmas.Slice.{between_to_end}
use Rattle.duk_journal.specs.CheckedFormat.{checked_format}
use Rattle.duk_journal_copy.specs.Version.{format_of}
use Rattle.duk_journal_copy.proofs.Converted.{behind_put, fits_in, gate_put, stands_in}
use Rattle.duk_journal_copy.proofs.convert.convert.Goals as goal
use Rattle.duk_journal_copy.proofs.convert.convert.Goals.{then-record-eq-OPEN, else-record-eq-OPEN}

pub write-requires-clause-fits : goal.write-requires-clause-fits
write-requires-clause-fits c = fits_in c.args.version c.args.from.identity c.args.from.place c.in-Some.followers c.in-Some.entry _ c.in-Some.ensures.found

pub write-requires-clause-stands : goal.write-requires-clause-stands
write-requires-clause-stands c = stands_in c.args.version c.args.from.identity c.args.from.place c.in-Some.followers c.in-Some.entry _ c.in-Some.ensures.found

pub returns-clause-converted : goal.returns-clause-converted
returns-clause-converted c =
    let gated : List ℕ = slice_set c.args.record.now 0 c.if-record-eq-OPEN.record in
    let rest : List ℕ = c.write.new.contents in
    let long : length gated ≡ 32 = length-set c.args.record.now 0 c.if-record-eq-OPEN.record ∙ c.requires.whole in
    let rest_long : length rest ≡ length gated - 1 =
    c.write.ensures.length ∙ ap length (between_to_end gated 1 (length gated) (omega arith)) ∙ length-drop 1 gated in
    let gate = gate_put c.args.record.now rest (length gated - 1) c.if-record-eq-OPEN.record (omega (arith, c.requires.whole)) in
    record {
      followers = c.in-Some.followers;
      entry = c.in-Some.entry;
      was = subst (λ (l : List ℕ). (format_of c.args.version).says c.args.from.identity c.args.from.place c.in-Some.followers c.in-Some.entry l)
          (between_to_end c.args.record.now 1 (length c.args.record.now) (omega arith)) c.in-Some.ensures.found;
      is = subst (λ (l : List ℕ). checked_format.says c.args.to.identity c.args.to.place c.in-Some.followers c.in-Some.entry l)
          (sym (behind_put gated rest (length gated - 1) (omega (arith, long)) refl rest_long)) c.write.ensures.written;
      gate = elim c.if-record-eq-OPEN.branch [
        | then-record-eq-OPEN w ↦ ((λ opened. omega (arith, w.if-record-eq-OPEN)), (λ opened. gate ∙ w.record-is))
        | else-record-eq-OPEN w ↦ ((λ opened. absurd (omega (arith, sym gate ∙ opened, w.record-is))), (λ opened. absurd (omega (arith, opened, w.if-record-eq-OPEN))))
      ];
    }
