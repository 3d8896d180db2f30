-- Frames that are judged one after the other.
use Rattle.std.proofs.Common.{◌≡◌, ◌↔◌, ℕ, ◌-◌, ◌⊎◌, List, [], ◌∷◌, ◌++◌, Some, length, inl, inr, refl, sym, ap, subst, ◌∙◌, arith}
use Rattle.duk_frame.specs.Stream.{BeginsTooLong, BeginsWith, IsPart, Splits}
use Rattle.duk_frame.specs.Request.{request_bytes}
use Rattle.duk_frame.specs.declared.request.Request.{Request}
use Rattle.duk_store.specs.Log.{Numbers}
use Rattle.duk_tree.specs.Serial.{Serial}
use Rattle.duk_host.specs.Handle.{AnswersRefusal, AnswersRepeat, AnswersReply, IsNumberKept}
use Rattle.duk_host.specs.Host.{HostMeaning, HostOf, basis_of}
use Rattle.duk_host.specs.Judgement.{IsAcceptable, IsAccepted, IsAnswerTo, IsNoRepeat, IsRefusalFor, IsRepeated, JudgementBasis, basis_with}
use Rattle.duk_host.specs.Recent.{Exchange, exchange, reply_given, with_exchange}
use Rattle.duk_host.specs.Restart.{IsHostRestarted}
use Rattle.duk_host.specs.Serve.{IsServed, Serves, Service}
use Rattle.duk_host.specs.Served.{AreJudged, IsAcceptedOn, IsJudgedOn, IsRefusedOn, IsRepeatedOn, IsServedStream, JudgesBy, WroteAllOf, WroteFirstOf, with_accepted}
use Rattle.duk_host.specs.Used.{AreUsable, IsUsed}
use Rattle.duk_host.specs.declared.reason.Reason.{Reason}
use Rattle.duk_host.specs.declared.reason.Reason.TheVariants as reason
use Rattle.duk_host.specs.declared.running.Running.{Running}
use Rattle.duk_host.proofs.OneAnswer.{OnePin, OneRequest, not_accepted_too, not_new_too, one_answer}
use Rattle.duk_host.proofs.OneNumberMore.{contains_more, usable_more}
use Rattle.duk_host.proofs.Reasons.{Case, case_of, reason_of}

-- ---- one judgement

-- what a frame is judged to is an answer to it
judged_answer : (basis mid : JudgementBasis) (frame answer : List ℕ) → IsJudgedOn basis frame answer mid → IsAnswerTo basis frame answer
judged_answer basis mid frame answer (inl refused) = inl refused.refused
judged_answer basis mid frame answer (inr (inl accepted)) = inr (inl (accepted.request, accepted.accepted))
judged_answer basis mid frame answer (inr (inr repeated)) = inr (inr repeated.repeated)

module _ (one_request : OneRequest) (one_pin : OnePin) where
  -- a frame leaves one thing
  one_left : (basis mid other : JudgementBasis) (frame answer again : List ℕ) → answer ≡ again → IsJudgedOn basis frame answer mid → IsJudgedOn basis frame again other → mid ≡ other
  one_left basis mid other frame answer again equal (inl one) (inl two) = one.same ∙ sym two.same
  one_left basis mid other frame answer again equal (inl one) (inr (inl two)) = absurd (not_accepted_too basis one_request one_pin frame answer again two.request one.refused two.accepted)
  one_left basis mid other frame answer again equal (inl one) (inr (inr two)) = one.same ∙ sym two.same
  one_left basis mid other frame answer again equal (inr (inl one)) (inl two) = absurd (not_accepted_too basis one_request one_pin frame again answer one.request two.refused one.accepted)
  one_left basis mid other frame answer again equal (inr (inl one)) (inr (inl two)) =
      let same : one.request ≡ two.request = one_request frame one.request two.request one.accepted.is_request two.accepted.is_request in
      one.used ∙ ap (λ request. with_accepted basis request.ksn (exchange frame answer)) same ∙ ap (λ answer. with_accepted basis two.request.ksn (exchange frame answer)) equal ∙ sym two.used
  one_left basis mid other frame answer again equal (inr (inl one)) (inr (inr two)) = absurd (not_new_too basis one_request one_pin frame answer again one.request one.accepted two.repeated)
  one_left basis mid other frame answer again equal (inr (inr one)) (inl two) = one.same ∙ sym two.same
  one_left basis mid other frame answer again equal (inr (inr one)) (inr (inl two)) = absurd (not_new_too basis one_request one_pin frame again answer two.request two.accepted one.repeated)
  one_left basis mid other frame answer again equal (inr (inr one)) (inr (inr two)) = one.same ∙ sym two.same

-- a frame is judged in one way
one_step :
    (basis mid other : JudgementBasis) (frame answer again : List ℕ) → OneRequest → OnePin
    → IsJudgedOn basis frame answer mid → IsJudgedOn basis frame again other
    → (answer ≡ again) × (mid ≡ other)
one_step basis mid other frame answer again one_request one_pin one two =
    let equal : answer ≡ again = one_answer basis one_request one_pin frame answer again (judged_answer basis mid frame answer one) (judged_answer basis other frame again two) in
    (equal, one_left one_request one_pin basis mid other frame answer again equal one two)

-- frames are judged in one way
one_judgement :
    OneRequest → OnePin → (basis after other : JudgementBasis) (frames answers others : List (List ℕ))
    → AreJudged basis frames answers after → AreJudged basis frames others other → (answers ≡ others) × (after ≡ other)
one_judgement one_request one_pin basis after other [] [] [] one two = (refl, one ∙ sym two)
one_judgement one_request one_pin basis after other [] [] (again ∷ others) one two = absurd two
one_judgement one_request one_pin basis after other [] (answer ∷ answers) others one two = absurd one
one_judgement one_request one_pin basis after other (frame ∷ frames) [] others one two = absurd one
one_judgement one_request one_pin basis after other (frame ∷ frames) (answer ∷ answers) [] one two = absurd two
one_judgement one_request one_pin basis after other (frame ∷ frames) (answer ∷ answers) (again ∷ others) one two =
    let step = one_step basis one.0 two.0 frame answer again one_request one_pin one.1 two.1 in
    let rest = one_judgement one_request one_pin two.0 after other frames answers others (subst (λ mid. AreJudged mid frames answers after) step.1 one.2) two.2 in
    (ap (λ answer. answer ∷ answers) step.0 ∙ ap (λ answers. again ∷ answers) rest.0, rest.1)

-- ---- no number is taken in twice

usable_after_one : (basis mid : JudgementBasis) (frame answer : List ℕ) → IsJudgedOn basis frame answer mid → AreUsable basis.used → AreUsable mid.used
usable_after_one basis mid frame answer (inl refused) are = subst (λ left. AreUsable left.used) (sym refused.same) are
usable_after_one basis mid frame answer (inr (inl one)) are =
    let acceptable = one.accepted.acceptable in
    let more = usable_more basis.used one.request.ksn are acceptable.authentic.key_is.usable acceptable.fresh in
    subst (λ left. AreUsable left.used) (sym one.used) more
usable_after_one basis mid frame answer (inr (inr repeated)) are = subst (λ left. AreUsable left.used) (sym repeated.same) are

pub usable_after : (basis after : JudgementBasis) (frames answers : List (List ℕ)) → AreJudged basis frames answers after → AreUsable basis.used → AreUsable after.used
usable_after basis after [] [] judged are = subst (λ left. AreUsable left.used) (sym judged) are
usable_after basis after [] (answer ∷ answers) judged are = absurd judged
usable_after basis after (frame ∷ frames) [] judged are = absurd judged
usable_after basis after (frame ∷ frames) (answer ∷ answers) judged are =
    usable_after judged.0 after frames answers judged.2 (usable_after_one basis judged.0 frame answer judged.1 are)

-- ---- a host judges by its list

-- two lists have the same numbers
abbrev pub SameNumbers : Numbers → Numbers → Type 0
SameNumbers used other = (ksn : Serial) → IsUsed used ksn ↔ IsUsed other ksn

-- what was given by one list of exchanges was by an equal one
same_no_repeat : (basis other : JudgementBasis) (request : Request) → basis.recent ≡ other.recent → IsNoRepeat basis request → IsNoRepeat other request
same_no_repeat basis other request recent new = ap (λ recent. reply_given recent (request_bytes request)) (sym recent) ∙ new

-- reasons are the same by lists with the same numbers
same_reason :
    (basis other : JudgementBasis) (request : Request) (why : Reason)
    → basis.keys ≡ other.keys → basis.room ≡ other.room → SameNumbers basis.used other.used → basis.recent ≡ other.recent
    → Case basis request why → Case other request why
same_reason basis other request reason.Malformed keys room same recent against = absurd against
same_reason basis other request reason.UnknownKeySet keys room same recent against = rw keys at against
same_reason basis other request reason.BadCounter keys room same recent against = rw keys at against
same_reason basis other request reason.BadMac keys room same recent against = rw keys at against
same_reason basis other request reason.Used keys room same recent against = record {
  authentic = rw keys at against.authentic;
  no_repeat = same_no_repeat basis other request recent against.no_repeat;
  used = (same request.ksn).0 against.used;
}
same_reason basis other request reason.LogFull keys room same recent against = record {
  authentic = rw keys at against.authentic;
  no_repeat = same_no_repeat basis other request recent against.no_repeat;
  fresh = λ is_used. against.fresh ((same request.ksn).1 is_used);
  full = sym room ∙ against.full;
}

same_refusal :
    (basis other : JudgementBasis) (bytes frame : List ℕ)
    → basis.keys ≡ other.keys → basis.room ≡ other.room → SameNumbers basis.used other.used → basis.recent ≡ other.recent
    → IsRefusalFor basis bytes frame → IsRefusalFor other bytes frame
same_refusal basis other bytes frame keys room same recent (inl malformed) = inl malformed
same_refusal basis other bytes frame keys room same recent (inr refused) = inr (record {
  request = refused.request;
  reason = refused.reason;
  is_request = refused.is_request;
  refuses = reason_of other refused.request refused.reason (same_reason basis other refused.request refused.reason keys room same recent (case_of basis refused.request refused.reason refused.refuses));
  frame_is = refused.frame_is;
})

pub same_acceptable :
    (basis other : JudgementBasis) (request : Request)
    → basis.keys ≡ other.keys → basis.room ≡ other.room → SameNumbers basis.used other.used → basis.recent ≡ other.recent
    → IsAcceptable basis request → IsAcceptable other request
same_acceptable basis other request keys room same recent acceptable = record {
  authentic = rw keys at acceptable.authentic;
  no_repeat = same_no_repeat basis other request recent acceptable.no_repeat;
  fresh = λ is_used. acceptable.fresh ((same request.ksn).1 is_used);
  room = rw room at acceptable.room;
}

same_acceptance :
    (basis other : JudgementBasis) (bytes : List ℕ) (request : Request) (frame : List ℕ)
    → basis.keys ≡ other.keys → basis.room ≡ other.room → basis.decides ≡ other.decides → SameNumbers basis.used other.used → basis.recent ≡ other.recent
    → IsAccepted basis bytes request frame → IsAccepted other bytes request frame
same_acceptance basis other bytes request frame keys room decides same recent accepted = record {
  is_request = accepted.is_request;
  acceptable = same_acceptable basis other request keys room same recent accepted.acceptable;
  reply = rw (keys, decides) at accepted.reply;
}

same_repeat : (basis other : JudgementBasis) (bytes frame : List ℕ) → basis.keys ≡ other.keys → basis.recent ≡ other.recent → IsRepeated basis bytes frame → IsRepeated other bytes frame
same_repeat basis other bytes frame keys recent repeated = record {
  request = repeated.request;
  is_request = repeated.is_request;
  authentic = rw keys at repeated.authentic;
  given = ap (λ recent. reply_given recent (request_bytes repeated.request)) (sym recent) ∙ repeated.given;
}

same_running : (one two : Running) (state : _) → state ≡ Some one → state ≡ Some two → one ≡ two
same_running one two state is same = cc

-- the used numbers of a host are those of the list by which it judges
pub same_numbers :
    {L I : Type 0} (meaning : HostMeaning L I) (host : HostOf L I) (basis : JudgementBasis) (running : Running)
    → JudgesBy meaning host basis → host.state ≡ Some running → SameNumbers running.used basis.used
same_numbers meaning host basis running judges runs =
    let is : judges.running ≡ running = same_running judges.running running host.state judges.runs runs in
    let flipped : SameNumbers judges.running.used basis.used = λ ksn. (λ is_used. (judges.used ksn).1 is_used, λ is_used. (judges.used ksn).0 is_used) in
    subst (λ running. SameNumbers running.used basis.used) is flipped

-- the latest exchanges of a host are those by which it judges
pub same_recent :
    {L I : Type 0} (meaning : HostMeaning L I) (host : HostOf L I) (basis : JudgementBasis) (running : Running)
    → JudgesBy meaning host basis → host.state ≡ Some running → running.recent ≡ basis.recent
same_recent meaning host basis running judges runs =
    ap (λ (running : Running). running.recent) (same_running running judges.running host.state runs judges.runs) ∙ sym judges.recent

-- a refusal is that of the list
judged_refusal :
    {L I : Type 0} (meaning : HostMeaning L I) (old new : HostOf L I) (basis : JudgementBasis) (frame answer : List ℕ)
    → JudgesBy meaning old basis → AnswersRefusal meaning frame old new answer → IsRefusedOn basis frame answer basis × JudgesBy meaning new basis
judged_refusal meaning old new basis frame answer judges answers =
    let same = same_numbers meaning old basis answers.running judges answers.was_running in (
      record {
        refused = same_refusal (basis_of meaning old answers.running) basis frame answer (sym judges.keys) (sym judges.room) same (same_recent meaning old basis answers.running judges answers.was_running) answers.refused;
        same = refl;
      },
      subst (λ host. JudgesBy meaning host basis) (sym answers.same) judges,
    )

-- a reply that is given again is that of the list
judged_repeat :
    {L I : Type 0} (meaning : HostMeaning L I) (old new : HostOf L I) (basis : JudgementBasis) (frame answer : List ℕ)
    → JudgesBy meaning old basis → AnswersRepeat meaning frame old new answer → IsRepeatedOn basis frame answer basis × JudgesBy meaning new basis
judged_repeat meaning old new basis frame answer judges answers = (
  record {
    repeated = same_repeat (basis_of meaning old answers.running) basis frame answer (sym judges.keys) (same_recent meaning old basis answers.running judges answers.was_running) answers.repeated;
    same = refl;
  },
  subst (λ host. JudgesBy meaning host basis) (sym answers.same) judges,
)

-- a host that kept a number judges by the list with it
judges_more :
    {L I : Type 0} (meaning : HostMeaning L I) (old new : HostOf L I) (basis : JudgementBasis) (ksn : Serial) (last : Exchange)
    → JudgesBy meaning old basis → (kept : IsNumberKept meaning old new ksn) → kept.after.recent ≡ with_exchange kept.before.recent last → JudgesBy meaning new (with_accepted basis ksn last)
judges_more meaning old new basis ksn last judges kept recent =
    let was : judges.running ≡ kept.before = same_running judges.running kept.before old.state judges.runs kept.was_running in
    let members : SameNumbers basis.used kept.before.used = subst (λ running. SameNumbers basis.used running.used) was judges.used in
    record {
      running = kept.after;
      runs = kept.runs;
      keys = judges.keys ∙ sym kept.ends.keys;
      decides = judges.decides ∙ ap meaning.decides (sym kept.ends.issuer);
      room = omega (arith, judges.room, kept.counted, kept.capacity);
      used = contains_more basis.used kept.before.used kept.after.used ksn members kept.one_more;
      recent = ap (λ recent. with_exchange recent last) (judges.recent ∙ ap (λ (running : Running). running.recent) was) ∙ sym recent;
      finds = λ honest.
          let was_honest = kept.appended.nature.honest.1 honest in
          kept.appended.finds was_honest basis.used (judges.finds was_honest);
    }

-- an accepted reply is that of the list
judged_reply :
    {L I : Type 0} (meaning : HostMeaning L I) (old new : HostOf L I) (basis : JudgementBasis) (frame answer : List ℕ)
    → JudgesBy meaning old basis → (answers : AnswersReply meaning frame old new answer)
    → IsAcceptedOn basis frame answer (with_accepted basis answers.request.ksn (exchange frame answer)) × JudgesBy meaning new (with_accepted basis answers.request.ksn (exchange frame answer))
judged_reply meaning old new basis frame answer judges answers =
    let same = same_numbers meaning old basis answers.running judges answers.was_running in (
      record {
        request = answers.request;
        accepted = same_acceptance (basis_of meaning old answers.running) basis frame answers.request answer (sym judges.keys) (sym judges.room) (sym judges.decides) same (same_recent meaning old basis answers.running judges answers.was_running) answers.accepted;
        used = refl;
      },
      judges_more meaning old new basis answers.request.ksn (exchange frame answer) judges answers.kept answers.recent,
    )

-- what a host answers to frames in turn is their judgement by the list
pub judged :
    {L I : Type 0} (meaning : HostMeaning L I) (old new : HostOf L I) (basis : JudgementBasis) (frames answers : List (List ℕ))
    → JudgesBy meaning old basis → Serves meaning old frames answers new
    → (after : JudgementBasis) × AreJudged basis frames answers after × JudgesBy meaning new after
judged meaning old new basis [] [] judges serves = (basis, refl, subst (λ host. JudgesBy meaning host basis) (sym serves) judges)
judged meaning old new basis [] (answer ∷ answers) judges serves = absurd serves
judged meaning old new basis (frame ∷ frames) [] judges serves = absurd serves
judged meaning old new basis (frame ∷ frames) (answer ∷ answers) judges serves = elim serves.1 [
  | inl refusal ↦
      let step = judged_refusal meaning old serves.0 basis frame answer judges refusal in
      let rest = judged meaning serves.0 new basis frames answers step.1 serves.2 in
      (rest.0, (basis, inl step.0, rest.1), rest.2)
  | inr (inl reply) ↦
      let step = judged_reply meaning old serves.0 basis frame answer judges reply in
      let mid = with_accepted basis reply.request.ksn (exchange frame answer) in
      let rest = judged meaning serves.0 new mid frames answers step.1 serves.2 in
      (rest.0, (mid, inr (inl step.0), rest.1), rest.2)
  | inr (inr repeat) ↦
      let step = judged_repeat meaning old serves.0 basis frame answer judges repeat in
      let rest = judged meaning serves.0 new basis frames answers step.1 serves.2 in
      (rest.0, (basis, inr (inr step.0), rest.1), rest.2)
]

-- a restarted host judges by the list that its log found
pub restarted_judges :
    {L I : Type 0} (meaning : HostMeaning L I) (old new : HostOf L I) (found : ℕ)
    → (restarted : IsHostRestarted meaning.log old new found) → (meaning.log.state_of old.log).honest
    → JudgesBy meaning new (basis_with new.keys restarted.numbers [] (meaning.log.capacity new.log - meaning.log.count new.log) (meaning.decides new.issuer))
restarted_judges meaning old new found restarted honest = record {
  running = restarted.running;
  runs = restarted.runs;
  keys = refl;
  decides = refl;
  room = refl;
  used = (restarted.lists honest).members;
  recent = sym restarted.forgets;
  finds = λ _. restarted.log.settles.finds honest;
}

-- ---- streams

-- bytes are split in one way
abbrev pub OneSplitting : Type 0
OneSplitting = (bytes : List ℕ) (frames : List (List ℕ)) (rest : List ℕ) (others : List (List ℕ)) (last : List ℕ)
    → Splits bytes frames rest → Splits bytes others last → (frames ≡ others) × (rest ≡ last)

-- the frames that bytes begin with are the first of those that they are split into
abbrev pub FirstFrames : Type 0
FirstFrames = (bytes : List ℕ) (frames : List (List ℕ)) (rest : List ℕ) (all : List (List ℕ)) (last : List ℕ)
    → BeginsWith bytes frames rest → Splits bytes all last → (others : List (List ℕ)) × (all ≡ frames ++ others) × Splits rest others last

-- a stream has one list of answers
pub one_service :
    OneRequest → OnePin → OneSplitting → (basis after other : JudgementBasis) (bytes : List ℕ) (answers others : List (List ℕ))
    → IsServedStream basis bytes answers after → IsServedStream basis bytes others other → (answers ≡ others) × (after ≡ other)
one_service one_request one_pin one_splitting basis after other bytes answers others one two =
    let same = one_splitting bytes one.frames one.rest two.frames two.rest one.splits two.splits in
    one_judgement one_request one_pin basis after other two.frames answers others (subst (λ frames. AreJudged basis frames answers after) same.0 one.judged) two.judged

-- as many answers as there are frames
pub answers_counted : {L I : Type 0} (meaning : HostMeaning L I) (old new : HostOf L I) (frames answers : List (List ℕ)) → Serves meaning old frames answers new → length answers ≡ length frames
answers_counted meaning old new [] [] serves = refl
answers_counted meaning old new [] (answer ∷ answers) serves = absurd serves
answers_counted meaning old new (frame ∷ frames) [] serves = absurd serves
answers_counted meaning old new (frame ∷ frames) (answer ∷ answers) serves = omega (arith, answers_counted meaning serves.0 new frames answers serves.2)

-- the first frames have the first answers, and the others are judged by what these left
pub first_answers :
    OneRequest → OnePin → (basis mid after : JudgementBasis) (frames others answers all : List (List ℕ))
    → AreJudged basis frames answers mid → AreJudged basis (frames ++ others) all after → (more : List (List ℕ)) × (all ≡ answers ++ more) × AreJudged mid others more after
first_answers one_request one_pin basis mid after [] others [] all one two = (all, refl, subst (λ basis. AreJudged basis others all after) (sym one) two)
first_answers one_request one_pin basis mid after [] others (answer ∷ answers) all one two = absurd one
first_answers one_request one_pin basis mid after (frame ∷ frames) others [] all one two = absurd one
first_answers one_request one_pin basis mid after (frame ∷ frames) others (answer ∷ answers) [] one two = absurd two
first_answers one_request one_pin basis mid after (frame ∷ frames) others (answer ∷ answers) (again ∷ all) one two =
    let step = one_step basis one.0 two.0 frame answer again one_request one_pin one.1 two.1 in
    let rest = first_answers one_request one_pin two.0 mid after frames others answers all (subst (λ basis. AreJudged basis frames answers mid) step.1 one.2) two.2 in
    (rest.0, ap (λ answer. answer ∷ all) (sym step.0) ∙ ap (λ all. answer ∷ all) rest.1, rest.2)

-- all frames of a stream are served
pub wrote_all :
    {L I : Type 0} (meaning : HostMeaning L I) (old new : Service L I) (basis : JudgementBasis) (bytes rest : List ℕ) (count : ℕ)
    → JudgesBy meaning old.host basis → IsServed meaning old new bytes rest count → IsPart rest ⊎ BeginsTooLong rest → WroteAllOf meaning basis old new bytes
wrote_all meaning old new basis bytes rest count judges served ends =
    let found = judged meaning old.host new.host basis served.frames served.answers judges served.serves in
    record {
      answers = served.answers;
      after = found.0;
      served = record { frames = served.frames; rest = rest; splits = record { begins = served.begins; ends = ends }; judged = found.1 };
      written = served.written;
      judges = found.2;
    }

-- the first frames of a stream are served
pub wrote_first :
    {L I : Type 0} (meaning : HostMeaning L I) → OneRequest → OnePin → FirstFrames → (old new : Service L I) (basis after : JudgementBasis) (bytes rest : List ℕ) (count : ℕ) (answers : List (List ℕ))
    → JudgesBy meaning old.host basis → IsServed meaning old new bytes rest count → IsServedStream basis bytes answers after → WroteFirstOf meaning basis old new bytes answers count
wrote_first meaning one_request one_pin first_frames old new basis after bytes rest count answers judges served all =
    let found = judged meaning old.host new.host basis served.frames served.answers judges served.serves in
    let more = first_frames bytes served.frames rest all.frames all.rest served.begins all.splits in
    let first = first_answers one_request one_pin basis found.0 after served.frames more.0 served.answers answers found.1 (subst (λ frames. AreJudged basis frames answers after) more.1 all.judged) in
    record {
      frames = served.frames;
      rest = rest;
      first = served.answers;
      others = first.0;
      after = found.0;
      begins = served.begins;
      judged = found.1;
      counted = answers_counted meaning old.host new.host served.frames served.answers served.serves ∙ served.counted;
      all_are = first.1;
      written = served.written;
      judges = found.2;
    }
