use Rattle.std.proofs.lemmas.Result.{IfErr-weaker}
use Rattle.duk_commands.specs.Find.{find_arguments}
use Rattle.std.specs.Option.{option_copied}
use Rattle.duk_program.specs.Find.{AreFindArguments}
use Rattle.duk_program.proofs.Ends.{on_ok}
use Rattle.duk_program.proofs.commands.find.find_written.Goals as goal

pub returns : goal.returns
returns g c =
    let arguments = find_arguments c.key_of.result c.text.result.now c.clue_of.result (option_copied c.value.result) (option_copied c.value-2.result) in
    let are : AreFindArguments c.args.request.now c.args.message.now arguments = record {
      key = c.key_of.ensures;
      what = c.text.ensures;
      clue = c.clue_of.ensures;
      from = c.value.ensures;
      window = c.value-2.ensures;
    } in
    record {
      done = on_ok _ c.find_command.result (λ is. (arguments, are, c.find_command.ensures.done is));
      failed = IfErr-weaker c.find_command.result _ _ (λ why is. (arguments, are, is)) c.find_command.ensures.failed;
    }
