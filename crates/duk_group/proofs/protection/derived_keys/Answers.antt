use Rattle.std.proofs.Common.{arith}
use Rattle.duk_block.specs.Derived.{encryption_usage, mac_usage}
use Rattle.duk_tdes.specs.KeyBytes.{bytes_of}
use Rattle.duk_group.specs.Numbers.{bytes_at}
use Rattle.duk_group.proofs.DerivationBlocks.{joined_steps}
use Rattle.duk_group.proofs.protection.derived_keys.Goals as goal

pub returns-clause-encryption : goal.returns-clause-encryption
returns-clause-encryption c =
    let key = bytes_of c.args.protection.now in
    let steps = c.derivation_steps-steps.result in
    let each = c.derivation_steps-steps.ensures.encryption in
    let made = c.key_of_steps.ensures in
    let law = c.derived_in_steps.ensures in
    joined_steps encryption_usage key (bytes_of c.key_of_steps.result) (bytes_at steps 0) (bytes_at steps 1) (bytes_at steps 2) c.key_size-size.result
    c.key_size-size.ensures.size c.key_size-size.ensures.key.length_is made.double made.triple (each 0 (omega arith)) (each 1 (omega arith)) (each 2 (omega arith))
    (law.double encryption_usage key) (law.triple encryption_usage key)

pub returns-clause-mac : goal.returns-clause-mac
returns-clause-mac c =
    let key = bytes_of c.args.protection.now in
    let steps = c.derivation_steps-steps.result in
    let each = c.derivation_steps-steps.ensures.mac in
    let made = c.key_of_steps-2.ensures in
    let law = c.derived_in_steps.ensures in
    joined_steps mac_usage key (bytes_of c.key_of_steps-2.result) (bytes_at steps 3) (bytes_at steps 4) (bytes_at steps 5) c.key_size-size.result
    c.key_size-size.ensures.size c.key_size-size.ensures.key.length_is made.double made.triple (each 0 (omega arith)) (each 1 (omega arith)) (each 2 (omega arith))
    (law.double mac_usage key) (law.triple mac_usage key)
