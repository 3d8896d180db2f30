use Rattle.std.proofs.Common.{append_assoc, codes, ap, ◌++◌, ◌∙◌}
use Rattle.duk_commands.proofs.check_values.push_component.Goals as goal
use Rattle.duk_commands.specs.Lines.{named_line}
use Rattle.duk_mac.specs.CheckValue.{check_value_of, cmac_check_value_of}
use Rattle.duk_tdes.specs.KeyBytes.{bytes_of}

pub returns-clause-lines : goal.returns-clause-lines
returns-clause-lines c =
    let first = named_line (codes "component-kcv") (check_value_of (bytes_of c.args.component.now)) in
    let second = named_line (codes "component-cmac") (cmac_check_value_of (bytes_of c.args.component.now)) in
    c.push_line-2.ensures.line ∙ ap (λ bytes. c.push_line.new.lines.items ++ named_line (codes "component-cmac") bytes) c.both_values.ensures.by_cmac
    ∙ ap (λ front. front ++ second) (c.push_line.ensures.line ∙ ap (λ bytes. c.args.lines.now.items ++ named_line (codes "component-kcv") bytes) c.both_values.ensures.value)
    ∙ append_assoc c.args.lines.now.items first second
