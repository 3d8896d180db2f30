use Rattle.std.proofs.Common.{Err, refl}
use Rattle.duk_commands.specs.Answer.{streams}
use Rattle.duk_commands.specs.declared.find_fault.FindFault.TheVariants.{WriteFailed}
use Rattle.duk_program.specs.Find.{HasFound, HasNotFound}
use Rattle.duk_program.proofs.Ends.{failed}
use Rattle.duk_program.proofs.commands.find.find_over.Goals as goal

pub returns-in-Err-clause-not_done : goal.returns-in-Err-clause-not_done
returns-in-Err-clause-not_done g c =
    let asked = c.args.request.now in
    let message = c.args.message.now in
    let before = g.W.Sink.known c.args.output.now in
    let told = g.F.Sink.known c.args.fault.now in
    let told' = g.F.Sink.known c.find_written-ended.new.fault in
    record {
      cause = c.in-Err.why;
      why_is = refl;
      failed = failed (λ written. HasFound asked message (streams before written told told')) (λ cause written. HasNotFound asked message cause (streams before written told told'))
          c.find_written-ended.result WriteFailed (Err c.in-Err.why) (g.W.Sink.known c.find_written-ended.new.output) (g.W.Sink.known c.hand_on.new.output)
          c.find_written-ended.ensures.done c.find_written-ended.ensures.failed c.in-Err.ensures.end;
    }
