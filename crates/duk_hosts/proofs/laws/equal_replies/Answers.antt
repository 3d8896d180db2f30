use Rattle.std.proofs.Common.{[], ◌++◌, sym, subst}
use Rattle.std.proofs.lemmas.List.{append-nil}
use Rattle.duk_hosts.specs.Events.{IsHistory, all_answers, kept_after}
use Rattle.duk_hosts.proofs.Standing.{EqualReplies, alike, of_one_kind}
use Rattle.duk_hosts.proofs.laws.equal_replies.Goals as goal
use Rattle.duk_hosts.proofs.laws.equal_replies.Goals.{After-one_reply}

module _ (c : After-one_reply) where
  laws : EqualReplies
  laws = record { equal = c.one_reply.ensures.equal; reversal_equal = c.one_reply.ensures.reversal_equal; one_kind = c.one_reply.ensures.one_kind }

pub returns-clause-equal : goal.returns-clause-equal
returns-clause-equal c = λ hosts book events history first.
    let whole = subst (λ events. IsHistory hosts book events) (sym (append-nil events)) history in
    let has = c.kept.ensures hosts book events [] whole in
    let new = c.at_most_once.ensures hosts book (events ++ []) whole first in
    alike (laws c) hosts.keys (kept_after book (events ++ [])) (all_answers events) new has.0 has.1

pub returns-clause-one_kind : goal.returns-clause-one_kind
returns-clause-one_kind c = λ hosts book events number one other history first.
    let whole = subst (λ events. IsHistory hosts book events) (sym (append-nil events)) history in
    let has = c.kept.ensures hosts book events [] whole in
    let new = c.at_most_once.ensures hosts book (events ++ []) whole first in
    of_one_kind (laws c) hosts.keys (kept_after book (events ++ [])) (all_answers events) number one other new has.0 has.1
