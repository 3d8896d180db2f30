use Rattle.std.proofs.Common.{◌≡◌, arith, rules}
use Rattle.std.proofs.lemmas.Grind.{common_steps}
use Rattle.duk_program.specs.References.{without_references}
use Rattle.duk_program.proofs.WithReferences.{same_flags, same_texts}
use Rattle.duk_program.proofs.command_line.references.with_references.Goals as goal

pub returns-clause-others : goal.returns-clause-others
returns-clause-others c =
    let command : c.new.result.command ≡ c.args.request.now.command = search rules in
    let rest : without_references c.new.result ≡ without_references c.args.request.now = grind (arith, common_steps) in
    same_texts c.new.result c.args.request.now rest command

pub returns-clause-there : goal.returns-clause-there
returns-clause-there c =
    let rest : without_references c.new.result ≡ without_references c.args.request.now = grind (arith, common_steps) in
    same_flags c.new.result c.args.request.now rest
