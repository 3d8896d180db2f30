use Rattle.std.proofs.Common.{inr, refl, rules}
use Rattle.duk_program.specs.Show.{IsShownInPart, show_arguments}
use Rattle.duk_program.proofs.commands.show.print_text.Goals as goal

pub returns-clause-not_done : goal.returns-clause-not_done
returns-clause-not_done g c =
    let arguments = show_arguments c.args.kind.now c.args.what.now c.args.show c.args.key (g.S.FileSystem.held c.args.files.now c.args.what.now) in
    let in_part : IsShownInPart arguments (g.W.Sink.known c.args.output.now) (g.W.Sink.known c.write_text.new.sink) =
    record { text = c.in-Ok.text.items; asked = c.in-Ok.ensures.text; cut = search rules } in
    inr (refl, in_part)
