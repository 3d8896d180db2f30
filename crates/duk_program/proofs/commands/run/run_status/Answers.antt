use Rattle.std.proofs.Common.{Err}
use Rattle.duk_config.specs.declared.fault.ScriptFault.TheVariants.{WriteFailed}
use Rattle.duk_script.specs.Session.{IsRunDone, IsRunRefused, session}
use Rattle.duk_program.proofs.Ends.{failed}
use Rattle.duk_program.proofs.commands.run.run_status.Goals as goal

pub returns-in-Err-clause-not_done : goal.returns-in-Err-clause-not_done
returns-in-Err-clause-not_done g c one =
    let over = session (g.R.Source.known c.args.reader.now) (g.R.Source.known c.run_script-ended.new.reader) (g.W.Sink.known c.args.output.now) in
    record {
      why = c.in-Err.why;
      not_played = failed (λ after. IsRunDone c.args.config.now (over after)) (λ why after. IsRunRefused c.args.config.now (over after) why)
          c.run_script-ended.result WriteFailed (Err c.in-Err.why) (g.W.Sink.known c.run_script-ended.new.writer) (g.W.Sink.known c.hand_on.new.output)
          c.run_script-ended.ensures.done c.run_script-ended.ensures.refused c.in-Err.ensures.end;
      line = c.print_fault.ensures.line;
    }
