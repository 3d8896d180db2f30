use Rattle.duk_net.specs.World.{meanings_of}
use Rattle.duk_net.proofs.own_key.OwnKey.{KeyLaws, leads_refuses, reached_own}
use Rattle.duk_net.proofs.laws.own_key.Goals as goal
use Rattle.duk_net.proofs.laws.own_key.Goals.{After-keys}

laws_of : (g : _) → After-keys g → KeyLaws (meanings_of g.C.Cell.meaning g.L.UsedLog.meaning g.I.Issuer.decides)
laws_of g c = record {
  future_keys = c.no_used_key.ensures.above_used;
  one_request = c.one_reading.ensures.request;
  one_answer = c.one_reading.ensures.answer;
  refusals = c.refusals.ensures.request;
  replies = c.replies.ensures;
  exchanges = record { given = c.exchanges.ensures.given; others = c.exchanges.ensures.others };
  request = c.requests.ensures.request;
  keys = c.keys.ensures;
}

pub returns-clause-own_key_of_requests : goal.returns-clause-own_key_of_requests
returns-clause-own_key_of_requests g c = λ world reached. (reached_own _ (laws_of g c) world reached).0

pub returns-clause-own_key_of_replies : goal.returns-clause-own_key_of_replies
returns-clause-own_key_of_replies g c = λ world reached. (reached_own _ (laws_of g c) world reached).1

pub returns-clause-refused_as_used_or_full : goal.returns-clause-refused_as_used_or_full
returns-clause-refused_as_used_or_full g c = leads_refuses _ (laws_of g c)
