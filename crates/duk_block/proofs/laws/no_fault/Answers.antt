use Rattle.duk_block.proofs.NoFaultInKeyBlock.{all_met}
use Rattle.duk_block.proofs.TextPlaces.{payload_at}
use Rattle.duk_block.proofs.laws.no_fault.Goals as goal

pub returns : goal.returns
returns c = λ protection_key text header key fault is_key wraps first.
    let derived = c.derived_keys.ensures.encryption protection_key is_key in
    let opened = payload_at c.cbc_inverse.ensures.cipher_length text protection_key header key wraps.block derived in
    first.fails (all_met text protection_key header key wraps.limits wraps.block opened fault)
