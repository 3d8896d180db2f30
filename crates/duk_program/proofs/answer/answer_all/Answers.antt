use Rattle.duk_commands.specs.Batch.{IsBatchDone, IsBatchNotDone}
use Rattle.duk_commands.specs.declared.batch.fault.BatchFault.TheVariants.{WriteFailed}
use Rattle.duk_program.specs.Items.{command_of_line}
use Rattle.duk_program.specs.Scene.{input_in}
use Rattle.duk_program.specs.inner.Items.{items_in}
use Rattle.duk_service.specs.Serve.{serving_of}
use Rattle.duk_program.proofs.Ends.{failed}
use Rattle.duk_program.proofs.answer.answer_all.Goals as goal

pub returns-clause-not_done : goal.returns-clause-not_done
returns-clause-not_done g c =
    let items = c.args.items.now in
    let command = command_of_line items.explain (items_in items.command) in
    let s = serving_of g.R.Source.known g.R.Source.reads g.W.Sink.known c.args.input.now c.do_batch-ended.new.input c.args.output.now c.hand_on.new.output in
    let before = g.W.Sink.known c.args.output.now in
    failed (IsBatchDone command (input_in s) before) (λ cause written. IsBatchNotDone command (input_in s) cause before written) c.do_batch-ended.result
    WriteFailed c.hand_on.result (g.W.Sink.known c.do_batch-ended.new.output) (g.W.Sink.known c.hand_on.new.output) c.do_batch-ended.ensures.done
    c.do_batch-ended.ensures.not_done c.hand_on.ensures.end
