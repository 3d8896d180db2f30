use Rattle.std.proofs.Common.{append_assoc, codes, ap, ◌++◌, ◌∙◌, rules}
use Rattle.duk_commands.specs.Lines.{named_line}
use Rattle.duk_tree.specs.Derivation.{request_key_of, response_key_of}
use Rattle.duk_commands.proofs.keys.push_macs.Goals as goal

pub returns-clause-lines : goal.returns-clause-lines
returns-clause-lines c =
    let first = named_line (codes "mac-request") (request_key_of c.args.key.now) in
    let second = named_line (codes "mac-response") (response_key_of c.args.key.now) in
    c.push_line-2.ensures.line ∙ ap (λ bytes. c.push_line.new.lines.items ++ named_line (codes "mac-response") bytes) (search rules)
    ∙ ap (λ front. front ++ second) (c.push_line.ensures.line ∙ ap (λ bytes. c.args.lines.now.items ++ named_line (codes "mac-request") bytes) (search rules))
    ∙ append_assoc c.args.lines.now.items first second
