use Rattle.std.proofs.Common.{◌++◌, length, sym, ap, ◌∙◌, arith, length-append}
use Rattle.duk_journal_host.proofs.Collecting.{joined_next}
use Rattle.duk_journal_host.proofs.service.joined.Goals as goal

pub loop-answer-preserved : goal.loop-answer-preserved
loop-answer-preserved g c =
    let next = joined_next (λ answer. answer.items) c.args.answers.now c.loop-answer.answer-index c.answer-item.result c.loop-answer-test.true (sym c.answer-item.is) in
    let fits = c.as_slice.ensures.fits in
    let longer = rw c.unwrap.ensures at c.try_extend_from_slice.ensures.ok in
    let whole = longer ∙ ap (λ text. c.loop-answer.text.items ++ text) c.as_slice.ensures.value ∙ ap (λ front. front ++ c.answer-item.result.items) c.loop-answer.invariant.text ∙ sym next in
    record {
      text = whole;
      short = omega (arith, ap length longer, length-append c.loop-answer.text.items c.as_slice.result.now, fits, c.loop-answer.invariant.short);
    }
