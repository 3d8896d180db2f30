use Rattle.std.proofs.Common.{append_assoc, ap, ◌++◌, ◌∙◌}
use Rattle.duk_commands.specs.Keys.{data_key_lines, mac_lines}
use Rattle.duk_commands.proofs.keys.push_others.Goals as goal

pub returns : goal.returns
returns c =
    let key = c.args.key.now in
    c.push_data_keys.ensures ∙ ap (λ front. front ++ data_key_lines key) c.push_macs.ensures.lines
    ∙ append_assoc c.args.lines.now.items (mac_lines key) (data_key_lines key)
