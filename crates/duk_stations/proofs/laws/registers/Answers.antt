use Rattle.duk_stations.proofs.laws.registers.Goals as goal

pub returns : goal.returns
returns c = record {
  left = c.found_again.ensures.left;
  of_key = c.found_again.ensures.of_key;
  fits = c.bits.ensures.usable;
  set = c.transactions.ensures.set;
  future_keys = c.transactions.ensures.future_keys;
}
