use Rattle.std.proofs.Common.{◌+◌, ap, subst, ◌∙◌}
use Rattle.duk_block.specs.KeyBlock.{IsWrittenKeyBlock}
use Rattle.duk_block.specs.KeyUse.{header_for}
use Rattle.duk_block.specs.declared.key_use.KeyUse.TheVariants.{InitialKey}
use Rattle.duk_group.specs.Numbers.{bytes_at}
use Rattle.duk_mac.specs.CheckValue.{check_value_of}
use Rattle.duk_tdes.specs.KeyBytes.{bytes_of}
use Rattle.duk_tree.specs.Derivation.{initial_key_of}
use Rattle.duk_commands.specs.inner.IssueGroup.{initial_key_at}
use Rattle.duk_commands.proofs.issue.group.group_from.Goals as goal

pub returns-clause-group : goal.returns-clause-group
returns-clause-group c = λ i h inside.
    let order = c.args.order.now in
    let block = bytes_at c.wrap_group.result i in
    let protection = bytes_of order.loading in
    let padding = bytes_at c.paddings_from-paddings.result i in
    let place = c.args.base + i in
    let key = c.initial_group-keys.ensures i h ∙ ap (initial_key_of order.bdk) (c.numbers_from.ensures i h inside) in
    let of_header = subst (λ header. IsWrittenKeyBlock block protection header (bytes_at c.initial_group-keys.result i) padding) c.header-header.ensures.header (c.wrap_group.ensures i h) in
    let of_key = subst (λ key. IsWrittenKeyBlock block protection (header_for InitialKey) key padding) key of_header in
    record {
      is_block = subst (λ padding. IsWrittenKeyBlock block protection (header_for InitialKey) (initial_key_at order place) padding) (c.paddings_from-paddings.ensures i h inside) of_key;
      is_value = c.check_values.ensures i h ∙ ap check_value_of key;
    }
