use Rattle.std.proofs.Common.{◌∙◌, subst}
use Rattle.duk_io.specs.Sink.{IsTried}
use Rattle.duk_program.proofs.ShownText.{in_part}
use Rattle.duk_program.proofs.shown.show_help.Goals as goal

pub returns-in-Err-clause-not_shown : goal.returns-in-Err-clause-not_shown
returns-in-Err-clause-not_shown g c one = (
  in_part c.args.text.now (g.W.Sink.known c.args.output.now) (g.W.Sink.known c.write_text-ended.new.sink) (g.W.Sink.known c.hand_on.new.output)
      c.write_text-ended.result _ _ c.write_text-ended.ensures.written c.write_text-ended.ensures.cut c.in-Err.ensures.end,
  subst (λ text. IsTried (g.F.Sink.known c.args.fault.now) (g.F.Sink.known c.tell.new.fault) text) (c.as_slice.ensures.value ∙ c.line.ensures) c.tell.ensures,
)
