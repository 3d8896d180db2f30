use Rattle.std.proofs.Common.{inl}
use Rattle.duk_pin.specs.PinBlock.{pin_block}
use Rattle.duk_stations.proofs.laws.keys.Goals as goal

pub returns : goal.returns
returns g c = record {
  readable = c.requests.ensures.pin_block;
  taken = c.transactions.ensures.key;
  prefixes = c.prefixes.ensures;
  node = c.keys.ensures.node;
  pin_key = c.keys.ensures.pin;
  deciphered = λ key pin pan is_key is.
      let block = c.eight_bytes.ensures pin pan (pin_block pin pan) is in
      c.inverse.ensures.deciphered key (pin_block pin pan) (record { length_is = inl is_key.size_is; bytes_fit = is_key.bytes_fit }) (record { eight = block.0; bytes_fit = block.1 });
}
