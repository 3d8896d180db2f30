-- The keys of the requests and the accepted replies that were sent, and why a host refuses a
-- request.
use Rattle.std.proofs.Common.{◌≡◌, ◌⊎◌, ℕ, List, All, inl, inr, refl, subst, arith}
use Rattle.std.proofs.lemmas.List.Elements.{All-contains, All-nil, All-push}
use Rattle.duk_frame.specs.Answer.{IsAnswer, IsRefusal, IsReply}
use Rattle.duk_frame.specs.Payment.{request_of}
use Rattle.duk_frame.specs.Request.{IsRequest}
use Rattle.duk_frame.specs.declared.answer.AnswerFrame.{AnswerFrame}
use Rattle.duk_frame.specs.declared.answer.AnswerFrame.TheVariants.{Refusal, Reply}
use Rattle.duk_frame.specs.declared.code.Code.{Code}
use Rattle.duk_frame.specs.declared.request.Request.{Request}
use Rattle.duk_host.specs.Host.{basis_of}
use Rattle.duk_host.specs.Judgement.{JudgementBasis, IsAuthentic, IsReplyWith, IsReasonAgainst, IsRefusedRequest, reason_number}
use Rattle.duk_hsm.specs.Keys.{HsmKeys}
use Rattle.duk_term.specs.Begin.{IsBegun}
use Rattle.duk_term.specs.Terminal.{TerminalOf, serial_of}
use Rattle.duk_term.specs.declared.purchase.Purchase.{Purchase}
use Rattle.duk_tree.specs.Serial.{Serial}
use Rattle.duk_net.specs.OwnKey.{IsOwnKeyReply, IsOwnKeyRequest, IsRefusedAsUsedOrFull}
use Rattle.duk_net.specs.Reached.{CallLeads, Moves, Reached}
use Rattle.duk_net.specs.NoUsedKey.{IfLoaded, InEachTerminal, OwnsAboveUsed, AreRegistersAboveUsed}
use Rattle.duk_net.specs.Up.{UpRefused}
use Rattle.duk_net.specs.World.{Frame, Meanings, WorldOf}
use Rattle.duk_net.specs.declared.outcome.Outcome.{Outcome}
use Rattle.duk_net.specs.declared.outcome.Outcome.TheVariants as came
use Rattle.duk_stations.proofs.OwnKey.{BegunIsRequest, own_transaction_key, pin_found}
use Rattle.duk_stations.specs.Keys.{KeyLaws as StationKeyLaws}
use Rattle.duk_stations.proofs.PlacesInLists.{at_contains, before_at}
use Rattle.duk_stations.proofs.Safe.{HasOwnKeys}
use Rattle.duk_net.proofs.accepted_once.AcceptedOnce.{RepliesAreRead}
use Rattle.duk_net.proofs.worlds.ReachedByMoves.{leads_all, reached_all}
use Rattle.duk_net.proofs.accepted_once.RepeatsWereSent.{ExchangeLaws, WasSent, reached_gives, repeat_was_sent}
use Rattle.duk_net.proofs.worlds.StepChanges.{IsQuiet, View, left_touches, step_view, touched_keys}
use Rattle.duk_net.proofs.worlds.StepChanges as shape

-- what the laws of the crates below say of keys and frames, and that the registers of each terminal
-- stand for its own initial key
pub record KeyLaws {C L I : Type 0} (m : Meanings C L I) : Type 0 where
  pub future_keys : (world : WorldOf C L I) → Reached m world → InEachTerminal m (OwnsAboveUsed world.host.keys world.requests world.owners) world.terminals
  pub one_request : (bytes : List ℕ) (request other : Request) → IsRequest bytes request → IsRequest bytes other → request ≡ other
  pub one_answer : (bytes : List ℕ) (answer other : AnswerFrame) → IsAnswer bytes answer → IsAnswer bytes other → answer ≡ other
  pub replies : RepliesAreRead
  pub exchanges : ExchangeLaws
  pub request : BegunIsRequest m.cell
  pub keys : StationKeyLaws m.cell
  pub refusals : (basis : JudgementBasis) (bytes frame : List ℕ) (refused : IsRefusedRequest basis bytes frame) → IsRefusal frame refused.request.ksn (reason_number refused.reason)

-- against an authentic request there is no reason but that its number is used or that the log is
-- full
used_or_full : (basis : JudgementBasis) (request : Request) (why : _) → IsAuthentic basis.keys request → IsReasonAgainst basis request why → (reason_number why ≡ 5) ⊎ (reason_number why ≡ 6)
used_or_full basis request why authentic first = grind (arith, first.fails, authentic.key_is.held, authentic.key_is.usable, authentic)

-- a quiet outcome is no refusal
quiet_refusal : (outcome : Outcome) → IsQuiet outcome → IsRefusedAsUsedOrFull outcome
quiet_refusal outcome quiet = grind arith

-- where the frame of an answer is an accepted reply, it is the one under the transaction key of its
-- number
abbrev IsOwnAnswer : HsmKeys → List ℕ → AnswerFrame → Type 0
IsOwnAnswer keys bytes (Reply ksn code mac) = IsReplyWith keys ksn code bytes
IsOwnAnswer keys bytes (Refusal ksn reason) = Unit {0}

-- where an answer is a refusal, it says that the number is used or that the log is full
abbrev SaysUsedOrFull : AnswerFrame → Type 0
SaysUsedOrFull (Reply ksn code mac) = Unit {0}
SaysUsedOrFull (Refusal ksn reason) = (reason ≡ 5) ⊎ (reason ≡ 6)

-- all requests and all accepted replies that were sent are made under the transaction keys of their
-- numbers
abbrev IsOwn : {C L I : Type 0} → WorldOf C L I → Type 0
IsOwn world = All (IsOwnKeyRequest world.host.keys) world.requests × All (IsOwnKeyReply world.host.keys) world.answers

module _ {C L I : Type 0} (m : Meanings C L I) (laws : KeyLaws m) where
  -- registers with the future keys of the terminal's own initial key give a request under the
  -- transaction key of its number
  own_request : (keys : HsmKeys) (requests : List Frame) (purchase : Purchase) (before after : TerminalOf C) (frame : Frame) (begun : IsBegun m.cell purchase before after frame.items)
      → AreRegistersAboveUsed keys requests begun.set → IsOwnKeyRequest keys frame
  own_request keys requests purchase before after frame begun above =
      let is_request = laws.request purchase before after frame.items begun in
      let own : HasOwnKeys keys begun.set = record { initial = above.initial; initial_is = above.initial_is; future_keys = above.future_keys } in
      record {
        request = request_of begun.key (serial_of begun.set) purchase.pan purchase.pin purchase.amount;
        pin = purchase.pin;
        is_request = is_request;
        authentic = record { key = begun.key; key_is = own_transaction_key m.cell laws.keys keys begun.set begun.left begun.key begun.takes.takes is_request.fields.ksn_is own; mac_is = refl };
        frame_is = begun.frame_is;
        pin_is_found = pin_found m.cell laws.keys keys purchase before after frame.items begun own;
      }

  -- an accepted reply under the transaction key of its number has no other reading, and a refusal
  -- none as an accepted reply
  own_reply : (keys : HsmKeys) (frame : Frame) (answer : AnswerFrame) → IsAnswer frame.items answer → IsOwnAnswer keys frame.items answer → IsOwnKeyReply keys frame
  own_reply keys frame answer reported own ksn code mac is = subst (IsOwnAnswer keys frame.items) (laws.one_answer frame.items answer (Reply ksn code mac) reported is) own

  -- what is given again is made so too, since it was sent
  own_again : (keys : HsmKeys) (answers : List Frame) (bytes : List ℕ) → All (IsOwnKeyReply keys) answers → WasSent answers bytes
      → (ksn : Serial) (code : Code) (mac : List ℕ) → IsReply bytes ksn code mac → IsReplyWith keys ksn code bytes
  own_again keys answers bytes all was =
      subst (λ bytes. (ksn : Serial) (code : Code) (mac : List ℕ) → IsReply bytes ksn code mac → IsReplyWith keys ksn code bytes) was.bytes_are
      (All-contains (IsOwnKeyReply keys) answers was.frame all was.sent)

  -- what a step sends is made under the transaction key of its number, and the host keeps its keys
  step_own : (old new : WorldOf C L I) (outcome : Outcome) → Reached m old → IsOwn old → View m old outcome new → IsOwn new
  step_own old new outcome reached own (shape.nothing same quiet) = rw same own
  step_own old new outcome reached own (shape.load t iksn given quiet) = rw given.rest own
  step_own old new outcome reached own (shape.send t k purchase ksn is sent) =
      let acts = sent.terminal in
      let begun = acts.changed.begun in
      let holds = laws.future_keys old reached t acts.before (before_at t _ old.terminals new.terminals acts) in
      let future_keys = (subst (IfLoaded (OwnsAboveUsed old.host.keys old.requests old.owners t)) begun.takes.had holds.registers).above in
      rw sent.rest (All-push (IsOwnKeyRequest old.host.keys) old.requests sent.frame own.0 (own_request old.host.keys old.requests purchase acts.before acts.after sent.frame begun future_keys), own.1)
  step_own old new outcome reached own (shape.terminal t change quiet) = rw change.rest own
  step_own old new outcome reached own (shape.accept k n ksn code is up) =
      let reply = up.accepted.accepted.reply.reply in
      rw (up.answered.rest, up.accepted.kept.ends.keys) (own.0, All-push (IsOwnKeyReply old.host.keys) old.answers up.frame own.1 (own_reply old.host.keys up.frame (Reply _ _ _) (laws.replies _ up.request.items up.accepted.request up.frame.items up.accepted.accepted) reply))
  step_own old new outcome reached own (shape.repeat k n ksn code is up) =
      let was = repeat_was_sent m old k n ksn code new laws.exchanges (reached_gives m laws.exchanges old reached) up in
      rw (up.answered.rest, up.repeated.same) (own.0, All-push (IsOwnKeyReply old.host.keys) old.answers up.frame own.1 (own_again old.host.keys old.answers up.frame.items own.1 was))
  step_own old new outcome reached own (shape.refuse k n ksn reason is up) =
      rw (up.answered.rest, up.refused.same) (own.0, All-push (IsOwnKeyReply old.host.keys) old.answers up.frame own.1 (own_reply old.host.keys up.frame (Refusal ksn reason) up.reported tt))
  step_own old new outcome reached own (shape.done k t frame ksn code is at change) = rw change.rest own
  step_own old new outcome reached own (shape.host touches same quiet) = rw (same, touched_keys m old.host new.host touches) own

  -- a move leaves all that was sent made under the transaction keys of its numbers
  moves_own : (old new : WorldOf C L I) → Reached m old → IsOwn old → Moves m old new → IsOwn new
  moves_own old new reached own (inl happens) = step_own old new happens.outcome reached own (step_view m old happens.event happens.outcome new happens.step)
  moves_own old new reached own (inr left) = rw (left.rest, touched_keys m old.host new.host (left_touches m old new left)) own

  -- in every world that is reached all that was sent is made under the transaction keys of its
  -- numbers
  pub reached_own : (world : WorldOf C L I) → Reached m world → IsOwn world
  reached_own world reached =
      reached_all m (λ world. IsOwn world)
      (λ world first. rw (first.no_requests, first.no_answers) (All-nil _, All-nil _))
      moves_own world reached

  -- a request that was sent is refused only because its number is used or the log is full
  request_refused : (old new : WorldOf C L I) (k n : ℕ) (ksn : Serial) (reason : ℕ) → Reached m old → UpRefused m old k n ksn reason new → IsRefusedAsUsedOrFull (came.Refused n ksn reason)
  request_refused old new k n ksn reason reached up =
      let own = All-contains (IsOwnKeyRequest old.host.keys) old.requests up.request (reached_own old reached).0 (at_contains old.requests k up.request up.sent) in
      elim up.refused.refused [
        | inl malformed ↦ absurd (malformed.no_request own.request own.is_request)
        | inr refused ↦
            let same = laws.one_request up.request.items own.request refused.request own.is_request refused.is_request in
            let reason_is = used_or_full (basis_of m.host old.host up.refused.running) refused.request refused.reason (subst (IsAuthentic old.host.keys) same own.authentic) refused.refuses in
            subst SaysUsedOrFull (laws.one_answer up.frame.items (Refusal _ _) (Refusal ksn reason) (laws.refusals _ up.request.items up.frame.items refused) up.reported) reason_is
      ]

  -- a step refuses no request that was sent but because its number is used or the log is full
  step_refuses : (old new : WorldOf C L I) (outcome : Outcome) → Reached m old → View m old outcome new → IsRefusedAsUsedOrFull outcome
  step_refuses old new outcome reached (shape.nothing same quiet) = quiet_refusal outcome quiet
  step_refuses old new outcome reached (shape.load t iksn given quiet) = quiet_refusal outcome quiet
  step_refuses old new outcome reached (shape.send t k purchase ksn is sent) = rw is tt
  step_refuses old new outcome reached (shape.terminal t change quiet) = quiet_refusal outcome quiet
  step_refuses old new outcome reached (shape.accept k n ksn code is up) = rw is tt
  step_refuses old new outcome reached (shape.repeat k n ksn code is up) = rw is tt
  step_refuses old new outcome reached (shape.refuse k n ksn reason is up) = rw is (request_refused old new k n ksn reason reached up)
  step_refuses old new outcome reached (shape.done k t frame ksn code is at change) = rw is tt
  step_refuses old new outcome reached (shape.host touches same quiet) = quiet_refusal outcome quiet

  -- a call refuses no request that was sent but because its number is used or the log is full
  pub leads_refuses : (old new : WorldOf C L I) (outcomes : List Outcome) → Reached m old → CallLeads m old outcomes new → All IsRefusedAsUsedOrFull outcomes
  leads_refuses old new outcomes reached leads =
      leads_all m (λ outcomes world. All IsRefusedAsUsedOrFull outcomes)
      (λ outcomes old new event outcome reached refused step. All-push IsRefusedAsUsedOrFull outcomes outcome refused (step_refuses old new outcome reached (step_view m old event outcome new step)))
      (λ outcomes old new reached refused left. refused)
      old new outcomes reached (All-nil _) leads
