-- Every world that is reached is safe: what its terminals keep is above every used number, and no two
-- requests have one number. Its steps are moves of stations.
use Rattle.std.proofs.Common.{◌≡◌, ◌⊎◌, ◌++◌, ◌∷◌, [], ℕ, List, Contains, get_or, inl, inr, refl, sym, ap, subst, ◌∙◌, arith}
use Rattle.std.proofs.lemmas.List.Elements.{All-contains, All-nil, All-push, Contains-get_or, Contains-push_cases}
use Rattle.std.proofs.lemmas.List.Quantifiers.{all_pairs_push}
use Rattle.duk_frame.specs.Payment.{request_of}
use Rattle.duk_frame.specs.Request.{IsRequest}
use Rattle.duk_frame.specs.declared.request.Request.{Request}
use Rattle.duk_host.specs.Host.{HostOf}
use Rattle.duk_hsm.specs.Keys.{HsmKeys}
use Rattle.duk_store.specs.Cell.{CellMeaning}
use Rattle.duk_term.specs.Load.{Loading}
use Rattle.duk_term.specs.Terminal.{TerminalOf, serial_of}
use Rattle.duk_term.specs.declared.fault.TermFault.TheVariants as fault
use Rattle.duk_term.specs.declared.purchase.Purchase.{Purchase}
use Rattle.duk_tree.specs.Serial.{Serial}
use Rattle.duk_stations.specs.inner.Moves.{GoesLoaded, TakesNext, is_loaded, waits_no_more}
use Rattle.duk_stations.specs.Owner.{IsElsewhere, IsOwner}
use Rattle.duk_stations.specs.Registers.{RegisterLaws}
use Rattle.duk_stations.specs.declared.owner.Owner.{Owner}
use Rattle.duk_stations.proofs.IssuedKeys.{IssuedIsOwnKey, issued_own}
use Rattle.duk_stations.proofs.OwnKey.{BegunIsRequest}
use Rattle.duk_stations.proofs.Owners.{OwnersGo, owns_loaded}
use Rattle.duk_stations.proofs.PlacesInLists.{at_contains}
use Rattle.duk_stations.proofs.Safe.{AllSafe, RegistersSafe, Rest, goes_safe, is_fresh, load_safe, sent_safe}
use Rattle.duk_stations.proofs.Terminals.{load_goes, new_has, request_takes}
use Rattle.duk_net.specs.Begin.{IsSent}
use Rattle.duk_net.specs.First.{IsFirstWorld, IsNewTerminal}
use Rattle.duk_net.specs.Load.{ChangesOwners, IsGiven, TakesLoad}
use Rattle.duk_net.specs.Reached.{Reached}
use Rattle.duk_net.specs.UsedOnce.{HasNumber, HasUsableNumber, HaveDifferentNumbers, IsUsedNumber, UsedOnce}
use Rattle.duk_net.specs.World.{Frame, Meanings, WorldOf}
use Rattle.duk_net.specs.declared.outcome.Outcome.{Outcome}
use Rattle.duk_net.specs.declared.outcome.Outcome.TheVariants as came
use Rattle.duk_net.proofs.worlds.ReachedByMoves.{reached_all}
use Rattle.duk_net.proofs.worlds.StepChanges.{View, accept, done, host, left_touches, load, nothing, refuse, repeat, send, step_view, terminal, touched_keys}

-- what the rest of a world is to a terminal
abbrev pub rest_of : {C L I : Type 0} → WorldOf C L I → Rest
rest_of world = record { keys = world.host.keys; used = IsUsedNumber world.requests; owners = world.owners }

-- a terminal is a station
abbrev pub itself : {C : Type 0} → TerminalOf C → TerminalOf C
itself it = it

-- a frame has one number at most
abbrev pub OneRequest : Type 0
OneRequest = (bytes : List ℕ) (request other : Request) → IsRequest bytes request → IsRequest bytes other → request ≡ other

-- what the laws of the crates below say of registers, of requests and of what is issued
pub record WorldLaws {C : Type 0} (cell : CellMeaning C) : Type 0 where
  pub registers : RegisterLaws
  pub reading : OneRequest
  pub request : BegunIsRequest cell
  pub own_key : IssuedIsOwnKey

pub record WorldSafe {C L I : Type 0} (m : Meanings C L I) (world : WorldOf C L I) : Type 0 where
  pub stations : AllSafe itself m.cell (rest_of world) world.terminals
  pub used_once : UsedOnce world.requests

-- ---- a request is sent

one_number : OneRequest → (frame : Frame) (one other : Serial) → HasNumber frame one → HasNumber frame other → one ≡ other
one_number reading frame one other a b = a.ksn_is ∙ ap (λ request. request.ksn) (reading frame.items a.request b.request a.is_request b.is_request) ∙ sym b.ksn_is

module _ (reading : OneRequest) (requests : List Frame) (frame : Frame) (number : Serial) (has : HasNumber frame number) where
  -- a number that is used then was used before, or is that of the new one
  used_cases : (ksn : Serial) → IsUsedNumber (requests ++ frame ∷ []) ksn → IsUsedNumber requests ksn ⊎ (ksn ≡ number)
  used_cases ksn used = elim (Contains-push_cases requests frame used.frame used.sent) [
    | inl sent ↦ inl (record { frame = used.frame; sent = sent; number = used.number })
    | inr is ↦ inr (one_number reading frame ksn number (subst (λ frame. HasNumber frame ksn) (sym is) used.number) has)
  ]

  once_more : HasUsableNumber frame → ¬ IsUsedNumber requests number → UsedOnce requests → UsedOnce (requests ++ frame ∷ [])
  once_more usable fresh once = record {
    usable = All-push HasUsableNumber requests frame once.usable usable;
    different = all_pairs_push HaveDifferentNumbers requests frame once.different (λ k d within ksn one other.
        fresh (subst (λ it. IsUsedNumber requests it) (one_number reading frame ksn number other has) (record { frame = get_or requests k d; sent = Contains-get_or requests k d within; number = one })));
  }

-- ---- owners and loads

-- owners go as a load changes them
pub owners_go : (outcome : Outcome) (old : List Owner) (iksn t : ℕ) (new : List Owner) → ChangesOwners outcome old iksn t new → OwnersGo old new
owners_go (came.Loaded v number) old iksn t new changes = inr (iksn, t, changes)
owners_go (came.TermFaulted v (fault.Store why)) old iksn t new changes = inr (iksn, t, changes)
owners_go (came.TermFaulted v _) old iksn t new changes = inl changes
owners_go _ old iksn t new changes = inl changes

load_move : {C : Type 0} (cell : CellMeaning C) (t iksn : ℕ) (asked : Loading) (outcome : Outcome) (old new : List Owner) (before after : TerminalOf C) → asked.iksn ≡ iksn → ¬ IsElsewhere old iksn t → ChangesOwners outcome old iksn t new
    → TakesLoad cell t asked outcome before after → GoesLoaded cell (IsOwner new asked.iksn t) asked before after
load_move cell t iksn asked (came.Loaded u number) old new before after iksn_is free changes takes = is_loaded (subst (λ it. IsOwner new it t) (sym iksn_is) (owns_loaded old iksn t new free changes)) takes.2
load_move cell t iksn asked (came.TermFaulted u why) old new before after iksn_is free changes takes =
    load_goes cell before after (IsOwner new asked.iksn t) asked why
    (λ store same. subst (λ it. IsOwner new it t) (sym iksn_is) (owns_loaded old iksn t new free (subst (λ it. ChangesOwners (came.TermFaulted u it) old iksn t new) same changes))) takes.1
load_move cell t iksn asked _ old new before after iksn_is free changes takes = absurd takes

-- ---- each step

module _ {C L I : Type 0} (m : Meanings C L I) (laws : WorldLaws m.cell) (old : WorldOf C L I) (safe : WorldSafe m old) where
  with_terminals : (terminals : List (TerminalOf C)) → AllSafe itself m.cell (rest_of old) terminals → WorldSafe m (record old { terminals = terminals })
  with_terminals terminals stations = record { stations = stations; used_once = safe.used_once }

  with_host : (at : HostOf L I) (answers : List Frame) → at.keys ≡ old.host.keys → WorldSafe m (record old { host = at; answers = answers })
  with_host at answers same = record {
    stations = subst (λ (keys : HsmKeys). AllSafe itself m.cell (record { keys = keys; used = IsUsedNumber old.requests; owners = old.owners }) old.terminals) (sym same) safe.stations;
    used_once = safe.used_once;
  }

  module _ (t k : ℕ) (purchase : Purchase) (ksn : Serial) (new : WorldOf C L I) (sent : IsSent m old t purchase k ksn new) where
    abbrev pub takes_next : TakesNext m.cell sent.terminal.before sent.terminal.after
    takes_next = request_takes m.cell sent.terminal.before sent.terminal.after purchase sent.frame.items sent.terminal.changed.begun

    sent_number : HasNumber sent.frame (serial_of takes_next.set)
    sent_number =
        let begun = sent.terminal.changed.begun in
        record {
          request = request_of begun.key (serial_of begun.set) purchase.pan purchase.pin purchase.amount;
          is_request = laws.request purchase sent.terminal.before sent.terminal.after sent.frame.items begun;
          ksn_is = refl;
        }

    with_request : WorldSafe m (record old { terminals = new.terminals; requests = old.requests ++ sent.frame ∷ [] })
    with_request =
        let cases = used_cases laws.reading old.requests sent.frame (serial_of takes_next.set) sent_number in
        record {
          stations = sent_safe itself m.cell laws.registers (rest_of old) old.terminals safe.stations t _ new.terminals sent.terminal takes_next (IsUsedNumber (old.requests ++ sent.frame ∷ [])) cases;
          used_once = once_more laws.reading old.requests sent.frame (serial_of takes_next.set) sent_number
              (record { ksn = serial_of takes_next.set; number = sent_number; usable = takes_next.takes.takes.usable })
              (is_fresh itself m.cell laws.registers (rest_of old) old.terminals safe.stations t _ new.terminals sent.terminal takes_next) safe.used_once;
        }

  with_load : (t iksn : ℕ) (outcome : Outcome) (new : WorldOf C L I) → IsGiven m old t iksn outcome new → WorldSafe m (record old { terminals = new.terminals; owners = new.owners })
  with_load t iksn outcome new given = record {
    stations = load_safe itself m.cell laws.registers (rest_of old) old.terminals safe.stations t _ new.terminals given.terminal new.owners (owners_go outcome old.owners iksn t new.owners given.owners) given.asked
        (issued_own laws.own_key old.host.keys iksn old.loading _ given.issued.block given.asked given.issued.loading_is given.issued.issued given.issued.asked_is)
        (load_move m.cell t iksn given.asked outcome old.owners new.owners given.terminal.before given.terminal.after (ap (λ (it : Loading). it.iksn) given.issued.asked_is) given.may.not_elsewhere given.owners given.terminal.changed);
    used_once = safe.used_once;
  }

  -- a step leaves a safe world safe
  pub step_is_safe : (new : WorldOf C L I) (outcome : Outcome) → View m old outcome new → WorldSafe m new
  step_is_safe new outcome (nothing same quiet) = subst (WorldSafe m) (sym same) safe
  step_is_safe new outcome (host touches rest quiet) = subst (WorldSafe m) (sym rest) (with_host new.host old.answers (touched_keys m old.host new.host touches))
  step_is_safe new outcome (accept k n ksn code is up) = subst (WorldSafe m) (sym up.answered.rest) (with_host new.host (old.answers ++ up.frame ∷ []) up.accepted.kept.ends.keys)
  step_is_safe new outcome (repeat k n ksn code is up) = subst (WorldSafe m) (sym up.answered.rest) (with_host new.host (old.answers ++ up.frame ∷ []) (ap (λ (it : HostOf L I). it.keys) up.repeated.same))
  step_is_safe new outcome (refuse k n ksn reason is up) = subst (WorldSafe m) (sym up.answered.rest) (with_host new.host (old.answers ++ up.frame ∷ []) (ap (λ (it : HostOf L I). it.keys) up.refused.same))
  step_is_safe new outcome (terminal t change quiet) = subst (WorldSafe m) (sym change.rest)
      (with_terminals new.terminals (goes_safe itself m.cell laws.registers (rest_of old) old.terminals safe.stations t _ new.terminals change.terminal (inl change.terminal.changed)))
  step_is_safe new outcome (done k t frame ksn code is sent change) = subst (WorldSafe m) (sym change.rest)
      (with_terminals new.terminals (goes_safe itself m.cell laws.registers (rest_of old) old.terminals safe.stations t _ new.terminals change.terminal (inl (waits_no_more change.terminal.changed.after_is))))
  step_is_safe new outcome (load t iksn given quiet) = subst (WorldSafe m) (sym given.rest) (with_load t iksn outcome new given)
  step_is_safe new outcome (send t k purchase ksn is sent) = subst (WorldSafe m) (sym sent.rest) (with_request t k purchase ksn new sent)

-- ---- every world that is reached

pub in_none : {A : Type 0} (thing : A) → ¬ Contains [] thing
in_none thing there = omega (arith, there.1)

-- a new world is safe: nothing was sent, and no cell keeps anything
first_is_safe : {C L I : Type 0} (m : Meanings C L I) (world : WorldOf C L I) → IsFirstWorld m world → WorldSafe m world
first_is_safe m world first =
    let nobody : (ksn : Serial) → ¬ IsUsedNumber world.requests ksn = λ ksn used. in_none used.frame (subst (λ list. Contains list used.frame) first.no_requests used.sent) in
    record {
      stations = record {
        each = λ t it at.
            let new = All-contains (IsNewTerminal m) world.terminals it first.terminals (at_contains world.terminals t it at) in
            new_has m.cell (RegistersSafe (rest_of world) t) it new.cell.honest (λ kept found. (new.cell.finds kept).0 found) new.stopped (λ ksn used owned. nobody ksn used);
        owned = λ ksn used. absurd (nobody ksn used);
      };
      used_once = subst UsedOnce (sym first.no_requests) (record { usable = All-nil HasUsableNumber; different = λ i j d before within. absurd (omega (arith, before, within)) });
    }

pub reached_is_safe : {C L I : Type 0} (m : Meanings C L I) (world : WorldOf C L I) → WorldLaws m.cell → Reached m world → WorldSafe m world
reached_is_safe m world laws reached =
    reached_all m (WorldSafe m) (first_is_safe m) (λ old new reached safe moves. elim moves [
      | inl happens ↦ step_is_safe m laws old safe new happens.outcome (step_view m old happens.event happens.outcome new happens.step)
      | inr left ↦ step_is_safe m laws old safe new came.NoSuchFrame (host (left_touches m old new left) left.rest tt)
    ]) world reached
