use Rattle.std.proofs.Common.{◌∙◌, List, ap, bytes_eq, filter, map, slice_get, sym, unwrap_or}
use Rattle.clap.specs.Words.{Text}
use Rattle.duk_program.specs.CommandLine.{CommandRow, Parameter}
use Rattle.duk_program.specs.inner.CommandLine.{parameter_of}
use Rattle.duk_program.proofs.Loops.{first_mapped}
use Rattle.duk_program.proofs.command_line.help_name.Goals as goal

pub returns-then-eq : goal.returns-then-eq
returns-then-eq c =
    let test = λ (p : Parameter). bytes_eq p.name c.args.name.now in
    let shown_in = λ (ps : List Parameter).
    unwrap_or (slice_get (map (λ (p : Parameter). p.shown) ps) 0) c.args.name.now in
    let first = first_mapped parameter_of test c.usage_of.result.arguments.now c.loop-argument.argument-index _
    c.loop-argument-test.true c.loop-argument.invariant
    (ap (λ (name : Text). bytes_eq name c.args.name.now) (sym c.name.ensures) ∙ sym c.eq.ensures ∙ c.if-eq.true) in
    c.shown.ensures ∙ sym (ap shown_in first)
    ∙ ap (λ (row : CommandRow). shown_in (filter test row.parameters)) c.usage_of.ensures
