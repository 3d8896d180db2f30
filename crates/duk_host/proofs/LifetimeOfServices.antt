-- What the services of a service accept, all together.
use Rattle.std.proofs.Common.{◌≡◌, ◌-◌, ◌<◌, ◌⊎◌, inl, inr, ℕ, zero, suc, List, [], ◌∷◌, ◌++◌, Contains, Some, length, get_or, refl, sym, ◌∙◌, ap, subst, arith, append_assoc}
use Rattle.std.specs.List.{All, AllPairs}
use Rattle.std.proofs.lemmas.List.{append-nil}
use Rattle.std.proofs.lemmas.List.Elements.{All-append, All-cons, All-nil, Contains-append_cases, Contains-append_left, Contains-append_right, Contains-push}
use Rattle.std.proofs.lemmas.List.Kept.{AllPairs-cons}
use Rattle.duk_frame.specs.Request.{request_bytes}
use Rattle.duk_frame.specs.declared.request.Request.{Request}
use Rattle.duk_hsm.specs.Keys.{HsmKeys}
use Rattle.duk_store.specs.Log.{AppendFailed, Numbers}
use Rattle.duk_store.specs.Restart.{Restarted}
use Rattle.duk_store.specs.StoreState.{FindsOnly}
use Rattle.duk_store.specs.declared.fault.StoreFault.{StoreFault}
use Rattle.duk_store.specs.declared.fault.StoreFault.TheVariants as store
use Rattle.duk_tree.specs.Serial.{Serial}
use Rattle.duk_host.specs.Handle.{HandleRefused}
use Rattle.duk_host.specs.Host.{HostMeaning, HostOf}
use Rattle.duk_host.specs.Judgement.{Decision, IsAccepted, IsRefusalFor, IsRepeated, IsReplyTo, JudgementBasis, basis_with}
use Rattle.duk_host.specs.Lifetime.{ServicesAcceptDifferentNumbers, AcceptsAlike, AcceptsNumber, EndsAt, IsServiceBroughtUp, IsLifetime, IsMadeOver, IsService, IsUnderOwnKey, all_answers}
use Rattle.duk_host.specs.Recent.{Exchange, exchange, reply_given, with_exchange}
use Rattle.duk_host.specs.Restart.{HostRestartRefused, IsHostRestarted}
use Rattle.duk_host.specs.Serve.{Serves}
use Rattle.duk_host.specs.Served.{AreJudged, JudgesBy}
use Rattle.duk_host.specs.Used.{IsUsed}
use Rattle.duk_host.specs.declared.fault.HostFault.{HostFault}
use Rattle.duk_host.specs.declared.fault.HostFault.TheVariants as fault

-- what is known of answers: each accepts one number at most, a refusal none, and a reply that of
-- its request; and of lists of exchanges: what is given again is on the list, and what is on the
-- list with one more was before, or is that one
pub record AnswerLaws : Type 0 where
  pub one_number : (frame : List ℕ) (ksn other : Serial) → AcceptsNumber ksn frame → AcceptsNumber other frame → ksn ≡ other
  pub refused : (basis : JudgementBasis) (bytes frame : List ℕ) (ksn : Serial) → IsRefusalFor basis bytes frame → ¬ AcceptsNumber ksn frame
  pub accepted : (basis : JudgementBasis) (bytes : List ℕ) (request : Request) (frame : List ℕ) → IsAccepted basis bytes request frame → AcceptsNumber request.ksn frame
  pub given : (recent : List Exchange) (bytes frame : List ℕ) → reply_given recent bytes ≡ Some frame → Contains recent (exchange bytes frame)
  pub others : (recent : List Exchange) (last other : Exchange) → Contains (with_exchange recent last) other → Contains recent other ⊎ (other ≡ last)

-- ---- members of lists

none_in : {A : Type 0} (thing : A) → ¬ Contains [] thing
none_in thing (k, within, is) = omega (arith, within)

the_only : {A : Type 0} (thing other : A) → Contains (thing ∷ []) other → other ≡ thing
the_only thing other (zero, within, is) = sym is
the_only thing other (suc k, within, is) = absurd (omega (arith, within))

-- a member of a list with one thing more was one before, or is that thing
pushed : {A : Type 0} (things : List A) (last other : A) → Contains (things ++ last ∷ []) other → Contains things other ⊎ (other ≡ last)
pushed things last other contains = elim (Contains-append_cases things (last ∷ []) other contains) [
  | inl before ↦ inl before
  | inr only ↦ inr (the_only last other only)
]

member_at : {A : Type 0} (things : List A) (k : ℕ) (d : A) → k < length things → Contains things (get_or things k d)
member_at [] k d within = absurd (omega (arith, within))
member_at (thing ∷ things) zero d within = (0, omega arith, refl)
member_at (thing ∷ things) (suc k) d within = let rest = member_at things k d (omega (arith, within)) in (suc rest.0, omega (arith, rest.1), rest.2)

-- ---- the answers of one service

-- all that these answers accept is among these numbers
abbrev AreAmong : List (List ℕ) → Numbers → Type 0
AreAmong answers used = (answer : List ℕ) → Contains answers answer → (ksn : Serial) → AcceptsNumber ksn answer → IsUsed used ksn

-- what a service answers after the answers of earlier services: those that accept one number are equal,
-- none of them accepts a number that was accepted before, and each is made under its own key
pub record IsSoundService (keys : HsmKeys) (decides : Decision) (before here : List (List ℕ)) : Type 0 where
  pub alike : AcceptsAlike here
  pub apart : ServicesAcceptDifferentNumbers before here
  pub own : (answer : List ℕ) → Contains here answer → IsUnderOwnKey keys decides answer

-- what is known while a service goes on: its answers are sound, and all numbers that were accepted are
-- used
record AreSound (keys : HsmKeys) (decides : Decision) (before here : List (List ℕ)) (used : Numbers) : Type 0 where
  run : IsSoundService keys decides before here
  earlier : AreAmong before used
  among : AreAmong here used

-- the replies of the latest exchanges are answers of this service
abbrev AreGiven : List Exchange → List (List ℕ) → Type 0
AreGiven recent here = (given : Exchange) → Contains recent given → Contains here given.reply

sound_start : (keys : HsmKeys) (decides : Decision) (before : List (List ℕ)) → IsSoundService keys decides before []
sound_start keys decides before = record {
  alike = λ ksn one other in_one. absurd (none_in one in_one);
  apart = λ ksn one other in_one in_other. absurd (none_in other in_other);
  own = λ answer in_here. absurd (none_in answer in_here);
}

module _ (laws : AnswerLaws) (keys : HsmKeys) (decides : Decision) (before : List (List ℕ)) where
  -- one more answer
  one_more : (here : List (List ℕ)) (answer : List ℕ) (used more : Numbers)
      → AreSound keys decides before here used
      → ((ksn : Serial) (one : List ℕ) → Contains here one → AcceptsNumber ksn one → AcceptsNumber ksn answer → one ≡ answer)
      → ((ksn : Serial) (one : List ℕ) → Contains before one → AcceptsNumber ksn one → ¬ AcceptsNumber ksn answer)
      → IsUnderOwnKey keys decides answer
      → ((ksn : Serial) → IsUsed used ksn → IsUsed more ksn)
      → ((ksn : Serial) → AcceptsNumber ksn answer → IsUsed more ksn)
      → AreSound keys decides before (here ++ answer ∷ []) more
  one_more here answer used more sound alike apart own wider new = record {
    run = record {
      alike = λ ksn one other in_one in_other a b. elim (pushed here answer one in_one) [
        | inl was ↦ elim (pushed here answer other in_other) [
          | inl also ↦ sound.run.alike ksn one other was also a b
          | inr is ↦ alike ksn one was a (subst (λ frame. AcceptsNumber ksn frame) is b) ∙ sym is
        ]
        | inr is ↦ elim (pushed here answer other in_other) [
          | inl also ↦ is ∙ sym (alike ksn other also b (subst (λ frame. AcceptsNumber ksn frame) is a))
          | inr same ↦ is ∙ sym same
        ]
      ];
      apart = λ ksn one other in_one in_other a b. elim (pushed here answer other in_other) [
        | inl was ↦ sound.run.apart ksn one other in_one was a b
        | inr is ↦ apart ksn one in_one a (subst (λ frame. AcceptsNumber ksn frame) is b)
      ];
      own = λ other in_other. elim (pushed here answer other in_other) [
        | inl was ↦ sound.run.own other was
        | inr is ↦ subst (λ frame. IsUnderOwnKey keys decides frame) (sym is) own
      ];
    };
    earlier = λ one in_one ksn a. wider ksn (sound.earlier one in_one ksn a);
    among = λ other in_other ksn a. elim (pushed here answer other in_other) [
      | inl was ↦ wider ksn (sound.among other was ksn a)
      | inr is ↦ new ksn (subst (λ frame. AcceptsNumber ksn frame) is a)
    ];
  }

  given_still : (recent : List Exchange) (here : List (List ℕ)) (answer : List ℕ) → AreGiven recent here → AreGiven recent (here ++ answer ∷ [])
  given_still recent here answer given known on_list = Contains-append_left here (answer ∷ []) known.reply (given known on_list)

  -- a refusal accepts nothing
  refused_on : (basis : JudgementBasis) (here : List (List ℕ)) (frame answer : List ℕ) → AreSound keys decides before here basis.used → IsRefusalFor basis frame answer
      → AreSound keys decides before (here ++ answer ∷ []) basis.used
  refused_on basis here frame answer sound refused =
      let none : (ksn : Serial) → ¬ AcceptsNumber ksn answer = λ ksn. laws.refused basis frame answer ksn refused in
      one_more here answer basis.used basis.used sound (λ ksn one was a b. absurd (none ksn b)) (λ ksn one was a b. none ksn b) (λ ksn b. absurd (none ksn b))
      (λ ksn used. used) (λ ksn b. absurd (none ksn b))

  -- an accepted reply accepts a number that is new
  accepted_on : (basis : JudgementBasis) (here : List (List ℕ)) (frame answer : List ℕ) (request : Request) → basis.keys ≡ keys → basis.decides ≡ decides → AreSound keys decides before here basis.used → IsAccepted basis frame request answer
      → AreSound keys decides before (here ++ answer ∷ []) (basis.used ++ request.ksn ∷ [])
  accepted_on basis here frame answer request keys_are decides_are sound accepted =
      let number : AcceptsNumber request.ksn answer = laws.accepted basis frame request answer accepted in
      let is_number : (ksn : Serial) → AcceptsNumber ksn answer → ksn ≡ request.ksn = λ ksn b. laws.one_number answer ksn request.ksn b number in
      let fresh : (ksn : Serial) → AcceptsNumber ksn answer → ¬ IsUsed basis.used ksn = λ ksn b used. accepted.acceptable.fresh (subst (λ ksn. IsUsed basis.used ksn) (is_number ksn b) used) in
      let own : IsUnderOwnKey keys decides answer = λ ksn b. (
        request,
        sym (is_number ksn b),
        subst (λ decides. IsReplyTo keys decides request answer) decides_are (subst (λ keys. IsReplyTo keys basis.decides request answer) keys_are accepted.reply),
      ) in
      one_more here answer basis.used (basis.used ++ request.ksn ∷ []) sound
      (λ ksn one was a b. absurd (fresh ksn b (sound.among one was ksn a))) (λ ksn one was a b. fresh ksn b (sound.earlier one was ksn a)) own
      (λ ksn used. Contains-append_left basis.used (request.ksn ∷ []) ksn used)
      (λ ksn b. subst (λ ksn. IsUsed (basis.used ++ request.ksn ∷ []) ksn) (sym (is_number ksn b)) (Contains-push basis.used request.ksn))

  -- a reply that is given again is an earlier answer of the service
  repeated_on : (basis : JudgementBasis) (here : List (List ℕ)) (frame answer : List ℕ) → AreSound keys decides before here basis.used → AreGiven basis.recent here → IsRepeated basis frame answer
      → AreSound keys decides before (here ++ answer ∷ []) basis.used
  repeated_on basis here frame answer sound given repeated =
      let is_here : Contains here answer = given (exchange (request_bytes repeated.request) answer) (laws.given basis.recent (request_bytes repeated.request) answer repeated.given) in
      one_more here answer basis.used basis.used sound (λ ksn one was a b. sound.run.alike ksn one answer was is_here a b) (λ ksn one was a b. sound.run.apart ksn one answer was is_here a b) (sound.run.own answer is_here)
      (λ ksn used. used) (λ ksn b. sound.among answer is_here ksn b)

  -- frames that are judged in turn
  judged : (basis after : JudgementBasis) (here frames answers : List (List ℕ)) → basis.keys ≡ keys → basis.decides ≡ decides → AreSound keys decides before here basis.used → AreGiven basis.recent here → AreJudged basis frames answers after
      → AreSound keys decides before (here ++ answers) after.used
  judged basis after here [] [] keys_are decides_are sound given is =
      subst (λ all. AreSound keys decides before all after.used) (sym (append-nil here)) (subst (λ (basis : JudgementBasis). AreSound keys decides before here basis.used) (sym is) sound)
  judged basis after here [] (answer ∷ answers) keys_are decides_are sound given is = absurd is
  judged basis after here (frame ∷ frames) [] keys_are decides_are sound given is = absurd is
  judged basis after here (frame ∷ frames) (answer ∷ answers) keys_are decides_are sound given (mid, inl refused, rest) =
      let step : AreSound keys decides before (here ++ answer ∷ []) mid.used = subst (λ (basis : JudgementBasis). AreSound keys decides before (here ++ answer ∷ []) basis.used) (sym refused.same) (refused_on basis here frame answer sound refused.refused) in
      let known : AreGiven mid.recent (here ++ answer ∷ []) = subst (λ (basis : JudgementBasis). AreGiven basis.recent (here ++ answer ∷ [])) (sym refused.same) (given_still basis.recent here answer given) in
      let all = judged mid after (here ++ answer ∷ []) frames answers (ap (λ (b : JudgementBasis). b.keys) refused.same ∙ keys_are) (ap (λ (b : JudgementBasis). b.decides) refused.same ∙ decides_are) step known rest in
      subst (λ list. AreSound keys decides before list after.used) (append_assoc here (answer ∷ []) answers) all
  judged basis after here (frame ∷ frames) (answer ∷ answers) keys_are decides_are sound given (mid, inr (inl accepted), rest) =
      let request = accepted.request in
      let last = exchange frame answer in
      let step : AreSound keys decides before (here ++ answer ∷ []) mid.used =
      subst (λ (basis : JudgementBasis). AreSound keys decides before (here ++ answer ∷ []) basis.used) (sym accepted.used) (accepted_on basis here frame answer request keys_are decides_are sound accepted.accepted) in
      let with_last : AreGiven (with_exchange basis.recent last) (here ++ answer ∷ []) = λ known on_list. elim (laws.others basis.recent last known on_list) [
        | inl was ↦ given_still basis.recent here answer given known was
        | inr is ↦ subst (λ (known : Exchange). Contains (here ++ answer ∷ []) known.reply) (sym is) (Contains-push here answer)
      ] in
      let known : AreGiven mid.recent (here ++ answer ∷ []) = subst (λ (basis : JudgementBasis). AreGiven basis.recent (here ++ answer ∷ [])) (sym accepted.used) with_last in
      let all = judged mid after (here ++ answer ∷ []) frames answers (ap (λ (b : JudgementBasis). b.keys) accepted.used ∙ keys_are) (ap (λ (b : JudgementBasis). b.decides) accepted.used ∙ decides_are) step known rest in
      subst (λ list. AreSound keys decides before list after.used) (append_assoc here (answer ∷ []) answers) all
  judged basis after here (frame ∷ frames) (answer ∷ answers) keys_are decides_are sound given (mid, inr (inr repeated), rest) =
      let step : AreSound keys decides before (here ++ answer ∷ []) mid.used = subst (λ (basis : JudgementBasis). AreSound keys decides before (here ++ answer ∷ []) basis.used) (sym repeated.same) (repeated_on basis here frame answer sound given repeated.repeated) in
      let known : AreGiven mid.recent (here ++ answer ∷ []) = subst (λ (basis : JudgementBasis). AreGiven basis.recent (here ++ answer ∷ [])) (sym repeated.same) (given_still basis.recent here answer given) in
      let all = judged mid after (here ++ answer ∷ []) frames answers (ap (λ (b : JudgementBasis). b.keys) repeated.same ∙ keys_are) (ap (λ (b : JudgementBasis). b.decides) repeated.same ∙ decides_are) step known rest in
      subst (λ list. AreSound keys decides before list after.used) (append_assoc here (answer ∷ []) answers) all

-- a log that is read anew, and appended to, stays honest
serves_honest : {L I : Type 0} (meaning : HostMeaning L I) (old new : HostOf L I) (frames answers : List (List ℕ)) → Serves meaning old frames answers new → (meaning.log.state_of old.log).honest → (meaning.log.state_of new.log).honest
serves_honest meaning old new [] [] is h = rw is h
serves_honest meaning old new [] (answer ∷ answers) is h = absurd is
serves_honest meaning old new (frame ∷ frames) [] is h = absurd is
serves_honest meaning old new (frame ∷ frames) (answer ∷ answers) (mid, inl refused, rest) h = serves_honest meaning mid new frames answers rest (rw refused.same h)
serves_honest meaning old new (frame ∷ frames) (answer ∷ answers) (mid, inr (inl replied), rest) h = serves_honest meaning mid new frames answers rest (replied.kept.appended.nature.honest.0 h)
serves_honest meaning old new (frame ∷ frames) (answer ∷ answers) (mid, inr (inr repeated), rest) h = serves_honest meaning mid new frames answers rest (rw repeated.same h)

-- each list that may be left has all that was accepted
abbrev LeavesAll : List (List ℕ) → (Numbers → Type 0) → Type 0
LeavesAll answers left = (numbers : Numbers) → left numbers → AreAmong answers numbers

module _ {L I : Type 0} (meaning : HostMeaning L I) where
  abbrev found_of : HostOf L I → Numbers → Type 0
  found_of host = (meaning.log.state_of host.log).found

  leaves_only : (answers : List (List ℕ)) (used : Numbers) (mid : HostOf L I) → FindsOnly (meaning.log.state_of mid.log) used → AreAmong answers used → LeavesAll answers (found_of mid)
  leaves_only answers used mid only among numbers found = subst (λ numbers. AreAmong answers numbers) (sym ((only numbers).0 found)) among

  -- what an append that failed leaves
  left_by_append : (answers : List (List ℕ)) (mid last : HostOf L I) (ksn : Serial) (why : StoreFault) → (meaning.log.state_of mid.log).honest → LeavesAll answers (found_of mid) → AppendFailed meaning.log mid.log last.log ksn why → LeavesAll answers (found_of last)
  left_by_append answers mid last ksn store.Device h leaves failed numbers found = elim (failed.stops.within h numbers found) [
    | inl old ↦ leaves numbers old
    | inr more ↦ λ answer is_in other accepts. rw more.2 (Contains-append_left more.0 (ksn ∷ []) other (leaves more.0 more.1 answer is_in other accepts))
  ]
  left_by_append answers mid last ksn store.Stopped h leaves failed numbers found = leaves numbers ((failed.stays.found h numbers).0 found)
  left_by_append answers mid last ksn store.Damaged h leaves failed numbers found = absurd failed
  left_by_append answers mid last ksn store.Worn h leaves failed numbers found = absurd failed
  left_by_append answers mid last ksn store.NoMemory h leaves failed numbers found = absurd failed

  -- what a service that failed at a frame leaves
  left_at_frame : (answers : List (List ℕ)) (mid last : HostOf L I) (frame : List ℕ) (why : HostFault) → (meaning.log.state_of mid.log).honest → LeavesAll answers (found_of mid) → HandleRefused meaning frame mid last why → LeavesAll answers (found_of last)
  left_at_frame answers mid last frame fault.Stopped h leaves refused = subst (λ host. LeavesAll answers (found_of host)) (sym refused.1) leaves
  left_at_frame answers mid last frame fault.NoMemory h leaves refused = subst (λ host. LeavesAll answers (found_of host)) (sym refused.not_kept) leaves
  left_at_frame answers mid last frame (fault.Store why) h leaves refused = left_by_append answers mid last refused.request.ksn why h leaves refused.not_kept.not_appended
  left_at_frame answers mid last frame fault.Read h leaves refused = absurd refused
  left_at_frame answers mid last frame fault.Write h leaves refused = absurd refused
  left_at_frame answers mid last frame fault.Truncated h leaves refused = absurd refused
  left_at_frame answers mid last frame fault.TooLong h leaves refused = absurd refused

  left_at_end : (answers : List (List ℕ)) (mid last : HostOf L I) → (meaning.log.state_of mid.log).honest → LeavesAll answers (found_of mid) → EndsAt meaning mid last → LeavesAll answers (found_of last)
  left_at_end answers mid last h leaves (inl is) = subst (λ host. LeavesAll answers (found_of host)) (sym is) leaves
  left_at_end answers mid last h leaves (inr failed) = left_at_frame answers mid last failed.0 failed.1 h leaves failed.2

  -- what a log's restart leaves
  left_by_restart : (answers : List (List ℕ)) (old new : L) (numbers : Numbers) → (meaning.log.state_of old).honest → LeavesAll answers (meaning.log.state_of old).found → Restarted (meaning.log.state_of old) (meaning.log.state_of new) numbers → LeavesAll answers (meaning.log.state_of new).found
  left_by_restart answers old new numbers h leaves restarted other found =
      subst (λ numbers. AreAmong answers numbers) (sym ((restarted.settles.finds h other).0 found)) (leaves numbers (restarted.was_found h))

  left_by_refusal : (answers : List (List ℕ)) (made last : HostOf L I) (why : HostFault) → (meaning.log.state_of made.log).honest → LeavesAll answers (found_of made) → HostRestartRefused meaning.log made last why → LeavesAll answers (found_of last)
  left_by_refusal answers made last (fault.Store why) h leaves refused = elim refused.cause [
    | inl failed ↦ λ numbers found. leaves numbers (failed.stops.within h numbers found)
    | inr bad ↦ left_by_restart answers made.log last.log bad.1.numbers h leaves bad.1.log
  ]
  left_by_refusal answers made last fault.NoMemory h leaves refused = left_by_restart answers made.log last.log refused.numbers h leaves refused.log
  left_by_refusal answers made last fault.Stopped h leaves refused = absurd refused
  left_by_refusal answers made last fault.Read h leaves refused = absurd refused
  left_by_refusal answers made last fault.Write h leaves refused = absurd refused
  left_by_refusal answers made last fault.Truncated h leaves refused = absurd refused
  left_by_refusal answers made last fault.TooLong h leaves refused = absurd refused

  -- what services are known to do
  pub record ServiceLaws : Type 0 where
    pub judged : (old new : HostOf L I) (basis : JudgementBasis) (frames answers : List (List ℕ)) → JudgesBy meaning old basis → Serves meaning old frames answers new → (after : JudgementBasis) × AreJudged basis frames answers after × JudgesBy meaning new after
    pub restarted : (old new : HostOf L I) (found : ℕ) → (restarted : IsHostRestarted meaning.log old new found) → (meaning.log.state_of old.log).honest
        → JudgesBy meaning new (basis_with new.keys restarted.numbers [] (meaning.log.capacity new.log - meaning.log.count new.log) (meaning.decides new.issuer))

  module _ (answer_laws : AnswerLaws) (laws : ServiceLaws) (keys : HsmKeys) (decides : Decision) where
    -- what a service answers, and what it leaves
    abbrev Sound : List (List ℕ) → List (List ℕ) → HostOf L I → Type 0
    Sound before answers last = IsSoundService keys decides before answers × LeavesAll (before ++ answers) (found_of last)

    both_among : (before answers : List (List ℕ)) (used : Numbers) → AreAmong before used → AreAmong answers used → AreAmong (before ++ answers) used
    both_among before answers used first second answer is_in ksn accepts = elim (Contains-append_cases before answers answer is_in) [
      | inl earlier ↦ first answer earlier ksn accepts
      | inr here ↦ second answer here ksn accepts
    ]

    -- one service that was brought up
    run_up : (before : List (List ℕ)) (left : Numbers → Type 0) (made last : HostOf L I) (answers : List (List ℕ)) → LeavesAll before left → IsMadeOver meaning keys decides left made → IsServiceBroughtUp meaning made answers last → Sound before answers last
    run_up before left made last answers leaves is_made run =
        let h = is_made.honest in
        let numbers = run.restarted.numbers in
        let among : AreAmong before numbers = leaves numbers (is_made.within numbers (run.restarted.log.was_found h)) in
        let start = laws.restarted made run.up run.found run.restarted h in
        let service = laws.judged run.up run.mid _ run.frames answers start run.serves in
        let keys_are : run.up.keys ≡ keys = run.restarted.ends.keys ∙ is_made.keys_are in
        let decides_are : meaning.decides run.up.issuer ≡ decides = ap meaning.decides run.restarted.ends.issuer ∙ is_made.decides_are in
        let sound : AreSound keys decides before [] numbers = record { run = sound_start keys decides before; earlier = among; among = λ answer is_in. absurd (none_in answer is_in) } in
        let all = judged answer_laws keys decides before _ service.0 [] run.frames answers keys_are decides_are sound (λ given on_list. absurd (none_in given on_list)) service.1 in
        let honest = serves_honest meaning run.up run.mid run.frames answers run.serves (run.restarted.log.settles.nature.honest.0 h) in
        let left_by_last = leaves_only (before ++ answers) service.0.used run.mid (service.2.finds honest) (both_among before answers service.0.used all.earlier all.among) in
        (all.run, left_at_end (before ++ answers) run.mid last honest left_by_last run.ends)

    run_of : (before : List (List ℕ)) (left : Numbers → Type 0) (made last : HostOf L I) (answers : List (List ℕ)) → LeavesAll before left → IsMadeOver meaning keys decides left made → IsService meaning made answers last → Sound before answers last
    run_of before left made last answers leaves is_made (inl refused) =
        let none : before ≡ before ++ answers = sym (ap (λ (l : List (List ℕ)). before ++ l) refused.no_answers ∙ append-nil before) in (
          subst (λ answers. IsSoundService keys decides before answers) (sym refused.no_answers) (sound_start keys decides before),
          subst (λ all. LeavesAll all (found_of last)) none (left_by_refusal before made last refused.why is_made.honest (λ numbers found. leaves numbers (is_made.within numbers found)) refused.refused),
        )
    run_of before left made last answers leaves is_made (inr up) = run_up before left made last answers leaves is_made up

    -- what is known of services after earlier ones
    pub record AreSoundServices (before : List (List ℕ)) (runs : List (List (List ℕ))) : Type 0 where
      pub alike : All AcceptsAlike runs
      pub following : All (λ run. ServicesAcceptDifferentNumbers before run) runs
      pub apart : AllPairs ServicesAcceptDifferentNumbers runs
      pub own : All (IsUnderOwnKey keys decides) (all_answers runs)

    -- all of them
    runs_of : (before : List (List ℕ)) (left : Numbers → Type 0) (runs : List (List (List ℕ))) → LeavesAll before left → IsLifetime meaning keys decides left runs → AreSoundServices before runs
    runs_of before left [] leaves life = record {
      alike = All-nil AcceptsAlike;
      following = All-nil (λ run. ServicesAcceptDifferentNumbers before run);
      apart = λ i j d before less. absurd (omega (arith, less));
      own = All-nil (IsUnderOwnKey keys decides);
    }
    runs_of before left (answers ∷ later) leaves (made, last, is_made, run, rest) =
        let here = run_of before left made last answers leaves is_made run in
        let more = runs_of (before ++ answers) (found_of last) later here.1 rest in
        record {
          alike = All-cons AcceptsAlike answers later here.0.alike more.alike;
          following =
              All-cons (λ run. ServicesAcceptDifferentNumbers before run) answers later here.0.apart
              (λ k d less ksn one other is_in. more.following k d less ksn one other (Contains-append_left before answers one is_in));
          apart =
              AllPairs-cons ServicesAcceptDifferentNumbers answers later
              (λ k d less ksn one other is_in. more.following k d less ksn one other (Contains-append_right before answers one is_in)) more.apart;
          own = All-append (IsUnderOwnKey keys decides) answers (all_answers later) (λ k d less. here.0.own (get_or answers k d) (member_at answers k d less)) more.own;
        }

    pub lifetime_sound : (left : Numbers → Type 0) (runs : List (List (List ℕ))) → IsLifetime meaning keys decides left runs → AreSoundServices [] runs
    lifetime_sound left runs life = runs_of [] left runs (λ numbers found answer is_in. absurd (none_in answer is_in)) life
