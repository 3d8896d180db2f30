use Rattle.std.specs.Prelude.{codes}
use Rattle.duk_commands.specs.PinBlocks.{translate_arguments, translate_of}
use Rattle.duk_arguments.specs.Request.{text_in}
use Rattle.duk_program.proofs.CommandLines.{refused}
use Rattle.duk_program.proofs.commands.translate.lines.Goals as goal

pub returns-clause-refused : goal.returns-clause-refused
returns-clause-refused c =
    let asked = c.args.request.now in
    refused _ _ (λ key. translate_of (translate_arguments (text_in (codes "BLOCK") asked) (text_in (codes "PAN") asked) key (text_in (codes "KSN") asked) (text_in (codes "ZONE") asked))) c.key_of.result c.key_of.ensures c.translate_lines.result
    (rw (← c.text.ensures, ← c.text-2.ensures, ← c.text-3.ensures, ← c.text-4.ensures) c.translate_lines.ensures.refused)
