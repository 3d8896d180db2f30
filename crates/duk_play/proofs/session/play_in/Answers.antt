use Rattle.std.proofs.Common.{inl, inr, subst}
use Rattle.duk_books.specs.Books.{meanings_of}
use Rattle.duk_io.specs.Sink.{IsCut}
use Rattle.duk_play.specs.OutcomeText.{lines_of}
use Rattle.duk_play.specs.Play.{IsPlayed}
use Rattle.duk_play.specs.inner.Play.{HaveOutcomes}
use Rattle.duk_play.proofs.PlayedScripts.{cut_off, if_err, on_ok, run_done, run_up_to}
use Rattle.duk_play.proofs.session.play_in.Goals as goal

pub returns-in-Ok-clause-done : goal.returns-in-Ok-clause-done
returns-in-Ok-clause-done g c =
    let m = meanings_of g.C.Cell.meaning g.B.Cell.meaning g.J.Journal.meaning g.I.Issuer.decides in
    let all = run_done m c.args.books.now c.run.new.books c.args.events.now c.new-outcomes.result.items c.run.new.out.items c.new-outcomes.ensures.items c.in-Ok.ensures.run in
    on_ok _ (IsPlayed (HaveOutcomes m c.args.books.now c.run.new.books) c.args.events.now (g.W.Sink.known c.args.writer.now) (g.W.Sink.known c.write_lines.new.writer))
    (λ written. (c.run.new.out.items, all, rw (← c.as_slice.ensures.value) written)) c.write_lines.result c.write_lines.ensures.written

pub returns-in-Ok-clause-refused : goal.returns-in-Ok-clause-refused
returns-in-Ok-clause-refused g c =
    let m = meanings_of g.C.Cell.meaning g.B.Cell.meaning g.J.Journal.meaning g.I.Issuer.decides in
    let old = g.W.Sink.known c.args.writer.now in
    let new = g.W.Sink.known c.write_lines.new.writer in
    let all = run_done m c.args.books.now c.run.new.books c.args.events.now c.new-outcomes.result.items c.run.new.out.items c.new-outcomes.ensures.items c.in-Ok.ensures.run in
    if_err _ _ (λ why cut. cut_off m c.args.books.now c.run.new.books c.args.events.now old new c.run.new.out.items why (inl all)
    (cut.0, subst (λ outcomes. IsCut old new (lines_of outcomes)) c.as_slice.ensures.value cut.1)) c.write_lines.result c.write_lines.ensures.cut

pub returns-clause-refused : goal.returns-clause-refused
returns-clause-refused g c =
    let m = meanings_of g.C.Cell.meaning g.B.Cell.meaning g.J.Journal.meaning g.I.Issuer.decides in
    let old = g.W.Sink.known c.args.writer.now in
    let new = g.W.Sink.known c.write_done.new.writer in
    let lines = c.as_slice-in-Err.ensures.value in
    let part = run_up_to m c.args.books.now c.run.new.books c.args.events.now c.new-outcomes.result.items c.run.new.out.items c.in-Err.field-0 c.new-outcomes.ensures.items c.in-Err.ensures.refused in
    elim c.write_done.ensures [
      | inl whole ↦ rw whole.0 (record { outcomes = c.run.new.out.items; have = part; written = rw (← lines) whole.1 })
      | inr cut ↦ cut_off m c.args.books.now c.run.new.books c.args.events.now old new c.run.new.out.items c.write_done.result (inr part)
          (cut.0, subst (λ outcomes. IsCut old new (lines_of outcomes)) lines cut.1)
    ]
