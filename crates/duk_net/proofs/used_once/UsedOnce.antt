-- Whoever sends owns the number, and who owns one owns it for good.
use Rattle.std.proofs.Common.{refl, ◌≡◌, ◌⊎◌, ◌++◌, ◌∷◌, [], ℕ, List, All, get_or, inl, inr, sym, ap, subst, ◌∙◌}
use Rattle.std.proofs.lemmas.List.Elements.{All-nil, All-push}
use Rattle.duk_tree.specs.Serial.{Serial}
use Rattle.duk_stations.specs.Owner.{IsOwner, Owns}
use Rattle.duk_stations.specs.declared.owner.Owner.{Owner}
use Rattle.duk_stations.proofs.Owners.{HaveOneOwner, OwnersGo, one_owner_stays, owner_stays}
use Rattle.duk_stations.proofs.Safe.{taken_from}
use Rattle.duk_net.specs.UsedOnce.{IsSentByOwner}
use Rattle.duk_net.specs.Reached.{CallLeads, Moves, Reached}
use Rattle.duk_net.specs.Sent.{SentByOwners}
use Rattle.duk_net.specs.World.{Frame, Meanings, WorldOf}
use Rattle.duk_net.specs.declared.outcome.Outcome.{Outcome}
use Rattle.duk_net.specs.declared.outcome.Outcome.TheVariants as came
use Rattle.duk_net.proofs.worlds.ReachedByMoves.{leads_all, reached_all, reached_run}
use Rattle.duk_net.proofs.worlds.StepChanges.{IsQuiet, View, accept, done, host, left_touches, load, nothing, refuse, repeat, send, step_view, terminal, touched_keys}
use Rattle.duk_net.proofs.used_once.WorldSafe.{WorldLaws, WorldSafe, in_none, itself, owners_go, reached_is_safe, rest_of, takes_next}

-- ---- what a step leaves

-- the keys stay, the owners go as a load changes them, and one request more is sent, or none
pub record Leaves {C L I : Type 0} (old new : WorldOf C L I) : Type 0 where
  pub keys : new.host.keys ≡ old.host.keys
  pub owners : OwnersGo old.owners new.owners
  pub requests : (new.requests ≡ old.requests) ⊎ ((frame : Frame) × (new.requests ≡ old.requests ++ frame ∷ []))

module _ {C L I : Type 0} (m : Meanings C L I) (old new : WorldOf C L I) where
  leaves_all : new.host.keys ≡ old.host.keys → new.owners ≡ old.owners → new.requests ≡ old.requests → Leaves old new
  leaves_all keys owners requests = record { keys = keys; owners = inl owners; requests = inl requests }

  pub step_leaves : (outcome : Outcome) → View m old outcome new → Leaves old new
  step_leaves outcome (nothing same quiet) = leaves_all (ap (λ world. world.host.keys) same) (ap (λ world. world.owners) same) (ap (λ world. world.requests) same)
  step_leaves outcome (host touches rest quiet) = leaves_all (touched_keys m old.host new.host touches) (ap (λ world. world.owners) rest) (ap (λ world. world.requests) rest)
  step_leaves outcome (accept k n ksn code is up) = leaves_all up.accepted.kept.ends.keys (ap (λ world. world.owners) up.answered.rest) (ap (λ world. world.requests) up.answered.rest)
  step_leaves outcome (repeat k n ksn code is up) = leaves_all (ap (λ host. host.keys) up.repeated.same) (ap (λ world. world.owners) up.answered.rest) (ap (λ world. world.requests) up.answered.rest)
  step_leaves outcome (refuse k n ksn reason is up) = leaves_all (ap (λ host. host.keys) up.refused.same) (ap (λ world. world.owners) up.answered.rest) (ap (λ world. world.requests) up.answered.rest)
  step_leaves outcome (terminal t change quiet) = leaves_all (ap (λ world. world.host.keys) change.rest) (ap (λ world. world.owners) change.rest) (ap (λ world. world.requests) change.rest)
  step_leaves outcome (done k t frame ksn code is sent change) = leaves_all (ap (λ world. world.host.keys) change.rest) (ap (λ world. world.owners) change.rest) (ap (λ world. world.requests) change.rest)
  step_leaves outcome (load t iksn given quiet) = record {
    keys = ap (λ world. world.host.keys) given.rest;
    owners = owners_go outcome old.owners iksn t new.owners given.owners;
    requests = inl (ap (λ world. world.requests) given.rest);
  }
  step_leaves outcome (send t k purchase ksn is sent) = record {
    keys = ap (λ world. world.host.keys) sent.rest;
    owners = inl (ap (λ world. world.owners) sent.rest);
    requests = inr (sent.frame, ap (λ world. world.requests) sent.rest);
  }

  pub move_leaves : Moves m old new → Leaves old new
  move_leaves moves = elim moves [
    | inl happens ↦ step_leaves happens.outcome (step_view m old happens.event happens.outcome new happens.step)
    | inr left ↦ step_leaves came.NoSuchFrame (host (left_touches m old new left) left.rest tt)
  ]

-- ---- what is sent

-- of a quiet outcome nothing is owed
quiet_by_owner : (owners : List Owner) (outcome : Outcome) → IsQuiet outcome → IsSentByOwner owners outcome
quiet_by_owner owners (came.Sent t k ksn) quiet = absurd quiet
quiet_by_owner owners _ quiet = tt

-- what was sent by an owner stays so
sent_stays : (before after : List Owner) → OwnersGo before after → (outcome : Outcome) → IsSentByOwner before outcome → IsSentByOwner after outcome
sent_stays before after go (came.Sent t k ksn) owned = owner_stays before after go ksn.iksn t owned
sent_stays before after go _ owned = tt

-- what a step sends is sent by one who was an owner before
step_by_owner : {C L I : Type 0} (m : Meanings C L I) (laws : WorldLaws m.cell) (old new : WorldOf C L I) (outcome : Outcome) → WorldSafe m old → View m old outcome new → IsSentByOwner old.owners outcome
step_by_owner m laws old new outcome safe (nothing same quiet) = quiet_by_owner old.owners outcome quiet
step_by_owner m laws old new outcome safe (host touches rest quiet) = quiet_by_owner old.owners outcome quiet
step_by_owner m laws old new outcome safe (accept k n ksn code is up) = rw is tt
step_by_owner m laws old new outcome safe (repeat k n ksn code is up) = rw is tt
step_by_owner m laws old new outcome safe (refuse k n ksn reason is up) = rw is tt
step_by_owner m laws old new outcome safe (terminal t change quiet) = quiet_by_owner old.owners outcome quiet
step_by_owner m laws old new outcome safe (done k t frame ksn code is sent change) = rw is tt
step_by_owner m laws old new outcome safe (load t iksn given quiet) = quiet_by_owner old.owners outcome quiet
step_by_owner m laws old new outcome safe (send t k purchase ksn is sent) =
    let set = taken_from itself m.cell laws.registers (rest_of old) old.terminals safe.stations t _ new.terminals sent.terminal (takes_next m laws old safe t k purchase ksn new sent) in
    rw is (subst (λ (it : Serial). IsOwner old.owners it.iksn t) (sym sent.terminal.changed.ksn_is) set.numbers.owned)

-- ---- calls

-- what a call sends is sent by owners
pub leads_by_owner : {C L I : Type 0} (m : Meanings C L I) (old new : WorldOf C L I) (outcomes : List Outcome) → WorldLaws m.cell → Reached m old → CallLeads m old outcomes new → All (IsSentByOwner new.owners) outcomes
leads_by_owner m old new outcomes laws reached leads =
    leads_all m (λ outcomes world. All (IsSentByOwner world.owners) outcomes)
    (λ outcomes old new event outcome reached holds step.
    let view = step_view m old event outcome new step in
    let stays = sent_stays old.owners new.owners (step_leaves m old new outcome view).owners in
    All-push (IsSentByOwner new.owners) outcomes outcome (λ k d within. stays (get_or outcomes k d) (holds k d within))
    (stays outcome (step_by_owner m laws old new outcome (reached_is_safe m old laws reached) view)))
    (λ outcomes old new reached holds left. subst (λ owners. All (IsSentByOwner owners) outcomes) (sym (ap (λ world. world.owners) left.rest)) holds)
    old new outcomes reached (All-nil (IsSentByOwner old.owners)) leads

-- whatever runs lead to a world just before a terminal's request is sent, that terminal owns its
-- initial key serial number there
pub sent_by_owners : {C L I : Type 0} (m : Meanings C L I) (old : WorldOf C L I) (outcomes : List Outcome) → WorldLaws m.cell → Reached m old → SentByOwners m old outcomes
sent_by_owners m old outcomes laws reached earlier later t k ksn is events event before after run step =
    step_by_owner m laws before after (came.Sent t k ksn) (reached_is_safe m before laws (reached_run m old before events earlier reached run)) (step_view m before event (came.Sent t k ksn) after step)

-- in every world that is reached each initial key serial number that is owned has one owner
reached_one_owner : {C L I : Type 0} (m : Meanings C L I) (world : WorldOf C L I) → Reached m world → HaveOneOwner world.owners
reached_one_owner m world reached =
    reached_all m (λ world. HaveOneOwner world.owners)
    (λ world first iksn t owns. absurd (in_none _ (subst (λ owners. Owns owners iksn t) first.no_owners owns)))
    (λ old new reached one moves. one_owner_stays old.owners new.owners (move_leaves m old new moves).owners one) world reached

-- a call takes no owner away, gives no initial key serial number a second one, and leaves the security
-- module its keys
module _ {C L I : Type 0} (m : Meanings C L I) (old new : WorldOf C L I) (outcomes : List Outcome) (reached : Reached m old) (leads : CallLeads m old outcomes new) where
  pub leads_owners_stay : (iksn t : ℕ) → Owns old.owners iksn t → IsOwner new.owners iksn t
  leads_owners_stay iksn t owns =
      leads_all m (λ outcomes world. IsOwner world.owners iksn t)
      (λ outcomes before after event outcome reached was step. owner_stays before.owners after.owners (step_leaves m before after outcome (step_view m before event outcome after step)).owners iksn t was)
      (λ outcomes before after reached was left. owner_stays before.owners after.owners (move_leaves m before after (inr left)).owners iksn t was)
      old new outcomes reached (reached_one_owner m old reached iksn t owns) leads

  pub leads_keys_stay : new.host.keys ≡ old.host.keys
  leads_keys_stay =
      leads_all m (λ outcomes world. world.host.keys ≡ old.host.keys)
      (λ outcomes before after event outcome reached was step. (step_leaves m before after outcome (step_view m before event outcome after step)).keys ∙ was)
      (λ outcomes before after reached was left. (move_leaves m before after (inr left)).keys ∙ was)
      old new outcomes reached refl leads
