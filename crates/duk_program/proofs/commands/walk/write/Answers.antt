use Rattle.std.proofs.lemmas.Result.{IfErr-weaker}
use Rattle.std.specs.Prelude.{codes}
use Rattle.duk_arguments.specs.Request.{flag_in, text_in, value_in}
use Rattle.duk_commands.specs.Walk.{walk_arguments, walk_of}
use Rattle.duk_program.proofs.CommandLines.{not_done}
use Rattle.duk_program.proofs.commands.walk.write.Goals as goal

pub returns-clause-not_done : goal.returns-clause-not_done
returns-clause-not_done g c =
    let asked = c.args.request.now in
    IfErr-weaker c.walk_command.result _ _
    (λ why it. not_done _ _ (λ key. walk_of (walk_arguments key (text_in (codes "IKSN") asked) (text_in (codes "COUNT") asked) (value_in (codes "skip") asked) (flag_in (codes "ksn") asked)))
    c.key_of.result c.key_of.ensures why _ _ it)
    (rw (← c.text.ensures, ← c.text-2.ensures, ← c.value.ensures, ← c.flag.ensures) c.walk_command.ensures.not_done)
