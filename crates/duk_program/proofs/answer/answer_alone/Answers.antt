use Rattle.std.proofs.Common.{subst}
use Rattle.duk_program.specs.Meant.{IsDoneAlone, IsDoneUntold, IsNotDoneAlone, IsNotDoneUntold}
use Rattle.duk_program.specs.Scene.{scene}
use Rattle.duk_program.specs.inner.Commands.{TellsNothing}
use Rattle.duk_service.specs.Serve.{serving_of}
use Rattle.duk_program.proofs.ByRequest.{if_err, on_ok, tells_nothing, untold_done, untold_not_done}
use Rattle.duk_program.proofs.answer.answer_alone.Goals as goal

pub answer_untold-requires : goal.answer_untold-requires
answer_untold-requires g c = record {
  own = c.requires;
  untold = subst TellsNothing c.command.ensures (tells_nothing c.command.result c.in_default.not-Find c.in_default.not-Issue);
}

pub returns-in_default : goal.returns-in_default
returns-in_default g c =
    let asked = c.args.request.now in
    let meaning = g.S.Disk.Disk.meaning in
    let fault = g.F.Sink.known c.args.fault.now in
    let streams = serving_of g.R.Source.known g.R.Source.reads g.W.Sink.known c.args.input.now c.answer_untold.new.input c.args.output.now c.answer_untold.new.output in
    let s = scene (g.S.FileSystem.held c.args.files.now) (g.S.LogFiles.disks c.args.files.now) (g.S.LogFiles.making c.args.files.now) streams fault fault in
    let untold = subst TellsNothing c.command.ensures (tells_nothing c.command.result c.in_default.not-Find c.in_default.not-Issue) in
    record {
      done = on_ok (IsDoneUntold meaning s asked.command asked) (IsDoneAlone meaning s asked) c.answer_untold.result
          (λ is. untold_done meaning s asked.command asked untold (record { came = is; no_note = c.writes.ensures.untouched fault })) (c.answer_untold.ensures.done fault fault);
      handed_on = c.answer_untold.ensures.handed_on;
      not_done = if_err (IsNotDoneUntold meaning s asked.command asked) (IsNotDoneAlone meaning s asked) c.answer_untold.result
          (λ why is. untold_not_done meaning s asked.command asked why untold (record { came = is; no_note = c.writes.ensures.untouched fault }))
          (c.answer_untold.ensures.not_done fault fault);
    }
