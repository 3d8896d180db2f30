use Rattle.std.proofs.Common.{append_assoc, codes, ap, ◌++◌, ◌∙◌, rules}
use Rattle.duk_commands.proofs.keys.push_data_keys.Goals as goal
use Rattle.duk_commands.specs.Lines.{named_line}
use Rattle.duk_data.specs.DataKeys.{request_data_key_of, response_data_key_of}

pub returns : goal.returns
returns c =
    let first = named_line (codes "data-request") (request_data_key_of c.args.key.now) in
    let second = named_line (codes "data-response") (response_data_key_of c.args.key.now) in
    c.push_line-2.ensures.line ∙ ap (λ bytes. c.push_line.new.lines.items ++ named_line (codes "data-response") bytes) (search rules)
    ∙ ap (λ front. front ++ second) (c.push_line.ensures.line ∙ ap (λ bytes. c.args.lines.now.items ++ named_line (codes "data-request") bytes) (search rules))
    ∙ append_assoc c.args.lines.now.items first second
