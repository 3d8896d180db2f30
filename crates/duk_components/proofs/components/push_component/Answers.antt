use Rattle.std.proofs.Common.{List, ap₂, ◌++◌, ◌∙◌, ℕ}
use Rattle.duk_commands.specs.Lines.{named_line}
use Rattle.duk_components.proofs.components.push_component.Goals as goal

pub returns-clause-line : goal.returns-clause-line
returns-clause-line c = c.push_line.ensures.line
    ∙ ap₂ (λ (name value : List ℕ). c.args.lines.now.items ++ named_line name value) c.numbered.ensures c.value_of.ensures
