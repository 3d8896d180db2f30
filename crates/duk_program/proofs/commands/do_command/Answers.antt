use Rattle.std.proofs.Common.{Err, refl}
use Rattle.duk_commands.specs.Answer.{IsDone, IsNotDone}
use Rattle.duk_commands.specs.declared.fault.Fault.TheVariants.{WriteFailed}
use Rattle.duk_program.specs.Commands.{command_for}
use Rattle.duk_program.proofs.Ends.{failed}
use Rattle.duk_program.proofs.commands.do_command.Goals as goal

pub returns-in-Err-clause-not_done : goal.returns-in-Err-clause-not_done
returns-in-Err-clause-not_done g c =
    let command = command_for c.args.request.now in
    let before = g.W.Sink.known c.args.output.now in
    record {
      cause = c.in-Err.why;
      why_is = refl;
      failed = failed (IsDone command before) (λ cause written. IsNotDone command cause before written) c.write_command-ended.result WriteFailed (Err c.in-Err.why)
          (g.W.Sink.known c.write_command-ended.new.output) (g.W.Sink.known c.hand_on.new.output) c.write_command-ended.ensures.done c.write_command-ended.ensures.not_done
          c.in-Err.ensures.end;
    }
