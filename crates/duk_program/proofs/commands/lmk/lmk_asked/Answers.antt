use Rattle.duk_commands.specs.declared.fault.Fault.TheVariants.{WriteFailed}
use Rattle.duk_program.specs.Lmk.{IsLmkNotPrinted, IsLmkPrinted}
use Rattle.duk_program.specs.declared.fault.Fault.TheVariants as fault
use Rattle.duk_program.proofs.Ends.{failed}
use Rattle.duk_program.proofs.commands.lmk.lmk_asked.Goals as goal

pub returns-clause-not_done : goal.returns-clause-not_done
returns-clause-not_done g c =
    let asked = c.args.request.now in
    let before = g.W.Sink.known c.args.output.now in
    failed (IsLmkPrinted asked before) (IsLmkNotPrinted asked before) c.print_lmk-ended.result (fault.Command WriteFailed) c.hand_on.result
    (g.W.Sink.known c.print_lmk-ended.new.output) (g.W.Sink.known c.hand_on.new.output) c.print_lmk-ended.ensures.done c.print_lmk-ended.ensures.not_done
    c.hand_on.ensures.end
