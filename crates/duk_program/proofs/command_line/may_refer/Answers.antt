use Rattle.std.proofs.Common.{◌∙◌, ◌&&◌, ap, bytes_eq, sym}
use Rattle.std.proofs.lemmas.Bool.{and_from}
use Rattle.std.specs.List.{list_any}
use Rattle.clap.specs.Words.{Text}
use Rattle.duk_program.specs.CommandLine.{CommandRow, Parameter}
use Rattle.duk_program.specs.inner.CommandLine.{parameter_of}
use Rattle.duk_program.proofs.Loops.{any_mapped}
use Rattle.duk_program.proofs.command_line.may_refer.Goals as goal

pub returns-then-eq : goal.returns-then-eq
returns-then-eq c =
    let test = λ (p : Parameter). p.may_refer && bytes_eq p.name c.args.name.now in
    sym (any_mapped parameter_of test c.usage_of.result.arguments.now c.loop-argument.argument-index _
    c.loop-argument-test.true (and_from _ _ (sym c.may_refer.ensures ∙ c.if-may_refer.true)
    (ap (λ (name : Text). bytes_eq name c.args.name.now) (sym c.name.ensures) ∙ sym c.eq.ensures ∙ c.if-eq.true)))
    ∙ ap (λ (row : CommandRow). list_any test row.parameters) c.usage_of.ensures
