use Rattle.duk_commands.specs.declared.fault.Fault.TheVariants.{WriteFailed}
use Rattle.duk_program.specs.Show.{IsNotShown, IsShown, show_arguments}
use Rattle.duk_program.specs.declared.fault.Fault.TheVariants as fault
use Rattle.duk_program.proofs.Ends.{failed}
use Rattle.duk_program.proofs.commands.show.show_text.Goals as goal

pub returns-clause-not_done : goal.returns-clause-not_done
returns-clause-not_done g c =
    let arguments = show_arguments c.args.kind.now c.args.what.now c.args.show c.args.key (g.S.FileSystem.held c.args.files.now c.args.what.now) in
    let before = g.W.Sink.known c.args.output.now in
    failed (IsShown arguments before) (IsNotShown arguments before) c.print_text-ended.result (fault.Command WriteFailed) c.hand_on.result
    (g.W.Sink.known c.print_text-ended.new.output) (g.W.Sink.known c.hand_on.new.output) c.print_text-ended.ensures.done c.print_text-ended.ensures.not_done
    c.hand_on.ensures.end
