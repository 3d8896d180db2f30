use Rattle.std.proofs.Common.{refl}
use Rattle.duk_tree.proofs.KeysOfSixteenBytes.{Below, IsKey-literal, IsKey-initial_key_of, IsKey-step_of, IsKey-node_key}
use Rattle.duk_tree.proofs.laws.keys.Goals as goal
use Rattle.duk_tree.proofs.laws.keys.Goals.{After-keys}

below : After-keys → Below
below c = record {
  cipher_block = c.inverse.ensures.cipher_block;
  tdes_block = c.inverse-2.ensures.cipher_block;
  masked = c.keys.ensures.masked;
  double = c.keys.ensures.double;
  first = c.keys.ensures.first;
  second = c.keys.ensures.second;
  joined = c.keys.ensures.joined;
}

pub returns-clause-initial : goal.returns-clause-initial
returns-clause-initial c = IsKey-initial_key_of (below c)

pub returns-clause-child : goal.returns-clause-child
returns-clause-child c = IsKey-step_of (below c)

pub returns-clause-node : goal.returns-clause-node
returns-clause-node c = IsKey-node_key (below c)

pub returns-clause-pin : goal.returns-clause-pin
returns-clause-pin c key is_key = c.keys.ensures.masked 16 key _ is_key (IsKey-literal _ refl refl)

pub returns-clause-request : goal.returns-clause-request
returns-clause-request c key is_key = c.keys.ensures.masked 16 key _ is_key (IsKey-literal _ refl refl)

pub returns-clause-response : goal.returns-clause-response
returns-clause-response c key is_key = c.keys.ensures.masked 16 key _ is_key (IsKey-literal _ refl refl)
