use Rattle.std.proofs.Common.{refl, subst, sym}
use Rattle.duk_program.specs.Commands.{IsCommandDone, IsCommandNotDone}
use Rattle.duk_program.specs.Meant.{IsDoneUntold, IsNotDoneUntold}
use Rattle.duk_program.specs.Scene.{scene}
use Rattle.duk_program.specs.inner.Commands.{HasNoMessage, IsOverArguments, TellsNothing}
use Rattle.duk_service.specs.Serve.{serving_of}
use Rattle.duk_program.proofs.ByRequest.{command_done, command_not_done, if_err, no_message, on_ok, over_arguments}
use Rattle.duk_program.proofs.answer.answer_untold.Goals as goal

pub do_command-requires : goal.do_command-requires
do_command-requires g c = subst IsOverArguments c.command.ensures (over_arguments c.command.result (subst TellsNothing (sym c.command.ensures) c.requires.untold)
    c.in_default.not-Run c.in_default.not-Serve c.in_default.not-NewLog c.in_default.not-NewJournal c.in_default.not-NewLedger c.in_default.not-GrowJournal c.in_default.not-CopyJournal c.in_default.not-CopyLedger c.in_default.not-Show c.in_default.not-Lmk)

pub returns-in_default : goal.returns-in_default
returns-in_default g c =
    let asked = c.args.request.now in
    let meaning = g.S.Disk.Disk.meaning in
    let before = g.W.Sink.known c.args.output.now in
    let after = g.W.Sink.known c.do_command.new.output in
    let streams = serving_of g.R.Source.known g.R.Source.reads g.W.Sink.known c.args.input.now c.args.input.now c.args.output.now c.do_command.new.output in
    let s = scene (g.S.FileSystem.held c.args.files.now) (g.S.LogFiles.disks c.args.files.now) (g.S.LogFiles.making c.args.files.now) streams in
    let over = subst IsOverArguments c.command.ensures (over_arguments c.command.result (subst TellsNothing (sym c.command.ensures) c.requires.untold)
    c.in_default.not-Run c.in_default.not-Serve c.in_default.not-NewLog c.in_default.not-NewJournal c.in_default.not-NewLedger c.in_default.not-GrowJournal c.in_default.not-CopyJournal c.in_default.not-CopyLedger c.in_default.not-Show c.in_default.not-Lmk) in
    let none = subst HasNoMessage c.command.ensures (no_message c.command.result c.in_default.not-Mac c.in_default.not-Data) in
    record {
      done = λ old new. on_ok (IsCommandDone asked before after) (IsDoneUntold meaning (s old new) asked.command asked) c.do_command.result
          (λ done. command_done meaning (s old new) asked.command asked over none (record { came = done; left = refl })) c.do_command.ensures.done;
      handed_on = on_ok _ _ c.do_command.result (λ handed before. handed) c.do_command.ensures.handed_on;
      not_done = λ old new. if_err (λ why. IsCommandNotDone asked before why after) (IsNotDoneUntold meaning (s old new) asked.command asked) c.do_command.result
          (λ why not_done. command_not_done meaning (s old new) asked.command asked why over none (record { came = not_done; left = refl })) c.do_command.ensures.not_done;
    }
