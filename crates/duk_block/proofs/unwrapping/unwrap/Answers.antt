use Rattle.duk_block.proofs.NoFaultInKeyBlock.{all_met}
use Rattle.duk_block.proofs.TextPlaces.{payload_at}
use Rattle.duk_block.proofs.UnwrapExact.{reads, refuses}
use Rattle.duk_block.proofs.unwrapping.unwrap.Goals as goal

pub returns-clause-only : goal.returns-clause-only
returns-clause-only g c =
    let text = c.args.text.now in
    let key = c.args.kbpk.now in
    let is_key = c.tdes_key.ensures.key in
    let derived = c.derived_keys.ensures.encryption key is_key in
    reads text key c.read.result
    (record {
      one_reading = λ header other k l one two. c.one_reading.ensures text key header other k l is_key one two;
      no_fault = λ header k wraps.
          all_met text key header k wraps.limits wraps.block (payload_at c.cbc_inverse.ensures.cipher_length text key header k wraps.block derived);
    })
    (record { found = c.read.ensures.found; kind = c.read.ensures.length; refused = c.read.ensures.refused })

pub returns-clause-refused : goal.returns-clause-refused
returns-clause-refused g c =
    let text = c.args.text.now in
    let key = c.args.kbpk.now in
    let is_key = c.tdes_key.ensures.key in
    let derived = c.derived_keys.ensures.encryption key is_key in
    refuses text key c.read.result
    (record {
      one_reading = λ header other k l one two. c.one_reading.ensures text key header other k l is_key one two;
      no_fault = λ header k wraps.
          all_met text key header k wraps.limits wraps.block (payload_at c.cbc_inverse.ensures.cipher_length text key header k wraps.block derived);
    })
    (record { found = c.read.ensures.found; kind = c.read.ensures.length; refused = c.read.ensures.refused })
