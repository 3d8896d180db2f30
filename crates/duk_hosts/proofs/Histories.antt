-- The events of a history, as turns that follow one another.
use Rattle.std.proofs.Common.{◌≡◌, ◌≤◌, ℕ, List, [], ◌∷◌, ◌++◌, Contains, length, map, inl, inr, refl, sym, ap, subst, ◌∙◌, append_assoc, arith, length-append}
use Rattle.std.proofs.lemmas.List.{append-nil}
use Rattle.std.proofs.lemmas.List.Concat.{flat_map-append}
use Rattle.std.proofs.lemmas.List.Elements.{Contains-append_cases, Contains-append_left, Contains-append_right}
use Rattle.duk_journal.specs.Groups.{Entries}
use Rattle.duk_journal_host.specs.Steps.{IsAnswerOf, IsDismissed, added_by}
use Rattle.duk_journal_host.specs.declared.settlement.Settled.{Settled}
use Rattle.duk_journal_host.specs.declared.candidate.Candidate.{Candidate}
use Rattle.duk_hosts.specs.Book.{Book, IsSettledIn}
use Rattle.duk_hosts.specs.Events.{Answers, AreSettledIn, Ask, Event, Hosts, IsCandidateOf, IsHistory, IsHistoryFrom, Judged, Judges, MayHappen, Outcome, Refuses, Settles, Turn, all_given, all_outcomes, entries_of, given_in, kept_after, outcomes_of, turn}
use Rattle.duk_hosts.specs.OneHost.{InTurn, all_asks, asks_in}
use Rattle.duk_hosts.proofs.Members.{end_or, first_in, flat_end, front_or, later_in, map_join, none_in, the_only}
use Rattle.duk_hosts.proofs.Settling.{answer_of, asked_of, one_answer}
use Rattle.duk_hosts.proofs.Turns.{joined}

-- ---- what is kept

pub entries_join : (outcomes more : List Outcome) → entries_of (outcomes ++ more) ≡ entries_of outcomes ++ entries_of more
entries_join outcomes more = flat_map-append (λ (outcome : Outcome). added_by outcome.settled) outcomes more

pub kept_more : (book : Book) (before more : List Event) → kept_after book (before ++ more) ≡ kept_after book before ++ entries_of (all_outcomes more)
kept_more book before more =
    ap (λ outcomes. book.first ++ entries_of outcomes) (flat_map-append outcomes_of before more)
    ∙ ap (λ entries. book.first ++ entries) (entries_join (all_outcomes before) (all_outcomes more))
    ∙ sym (append_assoc book.first (entries_of (all_outcomes before)) (entries_of (all_outcomes more)))

entries_end : (before : List Event) (event : Event) → entries_of (all_outcomes (before ++ event ∷ [])) ≡ entries_of (all_outcomes before) ++ entries_of (outcomes_of event)
entries_end before event = ap entries_of (flat_end outcomes_of before event) ∙ entries_join (all_outcomes before) (outcomes_of event)

-- ---- events are told apart

refuses_not : (ask : Ask) (answer : List ℕ) (judged : Judged) → Refuses ask answer ≡ Judges judged → ⊥
refuses_not ask answer judged same = cc

settles_not : (group : List Outcome) (judged : Judged) → Settles group ≡ Judges judged → ⊥
settles_not group judged same = cc

answers_not : (outcome : Outcome) (answer : List ℕ) (judged : Judged) → Answers outcome answer ≡ Judges judged → ⊥
answers_not outcome answer judged same = cc

one_judged : (judged other : Judged) → Judges judged ≡ Judges other → judged ≡ other
one_judged judged other same = cc

module _ (hosts : Hosts) (book : Book) (most : ℕ) (follows : Entries → Turn → Entries → Type 0) where
  -- while no more than so many entries are kept, what is refused and what is settled follows
  pub record StepsFollow : Type 0 where
    pub refused : (entries : Entries) (ask : Ask) (answer : List ℕ) → length entries ≤ most → IsDismissed hosts.keys ask.frame answer → follows entries (turn ask answer) []
    pub settled : (entries : Entries) (ask : Ask) (candidate : Candidate) (done : Settled) (answer : List ℕ) → length entries ≤ most → IsCandidateOf hosts ask candidate → IsSettledIn book.bound entries candidate done
        → IsAnswerOf hosts.keys done answer → follows entries (turn ask answer) (added_by done)

  -- a group as turns: each answer to one of it is that of its turn
  record GroupRun (entries : Entries) (group : List Outcome) : Type 0 where
    turns : List Turn
    asked : map (λ (one : Turn). one.ask) turns ≡ map (λ (outcome : Outcome). outcome.judged.ask) group
    judged : InTurn follows entries turns (entries_of group)
    answered : (outcome : Outcome) (answer : List ℕ) → Contains group outcome → IsAnswerOf hosts.keys outcome.settled answer → Contains turns (turn outcome.judged.ask answer)

  group_run : StepsFollow → (entries : Entries) (group : List Outcome) → ((outcome : Outcome) → Contains group outcome → IsCandidateOf hosts outcome.judged.ask outcome.judged.candidate)
      → AreSettledIn book.bound entries group → length (entries ++ entries_of group) ≤ most → GroupRun entries group
  group_run laws entries [] are settles few = record { turns = []; asked = refl; judged = refl; answered = λ outcome answer is_in. absurd (none_in outcome is_in) }
  group_run laws entries (outcome ∷ others) are settles few =
      let ask = outcome.judged.ask in
      let candidate = outcome.judged.candidate in
      let done = outcome.settled in
      let is = are outcome (first_in outcome others) in
      let given = answer_of hosts.keys ask.frame done (asked_of hosts book.bound entries ask candidate done is settles.0) in
      let small : length entries ≤ most = omega (arith, length-append entries (entries_of (outcome ∷ others)), few) in
      let fewer = subst (λ (entries : Entries). length entries ≤ most) (sym (append_assoc entries (added_by done) (entries_of others))) few in
      let rest = group_run laws (entries ++ added_by done) others (λ other is_in. are other (later_in outcome others other is_in)) settles.1 fewer in
      let turns = turn ask given.0 ∷ rest.turns in
      record {
        turns = turns;
        asked = ap (λ asks. ask ∷ asks) rest.asked;
        judged = (added_by done, entries_of others, laws.settled entries ask candidate done given.0 small is settles.0 given.1, rest.judged, refl);
        answered = λ other answer is_in answers. elim (front_or outcome others other is_in) [
          | inl same ↦
              let own : answer ≡ given.0 = one_answer hosts.keys done answer given.0 (subst (λ (outcome : Outcome). IsAnswerOf hosts.keys outcome.settled answer) same answers) given.1 in
              let here = subst (λ answer. Contains turns (turn ask answer)) (sym own) (first_in (turn ask given.0) rest.turns) in
              subst (λ (outcome : Outcome). Contains turns (turn outcome.judged.ask answer)) (sym same) here
          | inr later ↦ later_in (turn ask given.0) rest.turns (turn other.judged.ask answer) (rest.answered other answer later answers)
        ];
      }

  -- events as turns
  pub record Run (events : List Event) : Type 0 where
    pub turns : List Turn
    pub asked : map (λ (one : Turn). one.ask) turns ≡ all_asks events
    pub judged : InTurn follows book.first turns (entries_of (all_outcomes events))
    pub candidates : (judged : Judged) → Contains events (Judges judged) → IsCandidateOf hosts judged.ask judged.candidate
    pub were : (outcome : Outcome) → Contains (all_outcomes events) outcome → IsCandidateOf hosts outcome.judged.ask outcome.judged.candidate
    pub answered : (outcome : Outcome) (answer : List ℕ) → Contains (all_outcomes events) outcome → IsAnswerOf hosts.keys outcome.settled answer → Contains turns (turn outcome.judged.ask answer)
    pub given : (one : Turn) → Contains (all_given events) one → Contains turns one

  extended : (before : List Event) (event : Event) (run : Run before) (more : List Turn) → map (λ (one : Turn). one.ask) more ≡ asks_in event → InTurn follows (kept_after book before) more (entries_of (outcomes_of event))
      → ((judged : Judged) → event ≡ Judges judged → IsCandidateOf hosts judged.ask judged.candidate)
      → ((outcome : Outcome) → Contains (outcomes_of event) outcome → IsCandidateOf hosts outcome.judged.ask outcome.judged.candidate)
      → ((outcome : Outcome) (answer : List ℕ) → Contains (outcomes_of event) outcome → IsAnswerOf hosts.keys outcome.settled answer → Contains (run.turns ++ more) (turn outcome.judged.ask answer))
      → ((one : Turn) → Contains (given_in event) one → Contains (run.turns ++ more) one)
      → Run (before ++ event ∷ [])
  extended before event run more asked judged candidates were answered given = record {
    turns = run.turns ++ more;
    asked = map_join (λ (one : Turn). one.ask) run.turns more
        ∙ ap (λ asks. asks ++ map (λ (one : Turn). one.ask) more) run.asked
        ∙ ap (λ asks. all_asks before ++ asks) asked
        ∙ sym (flat_end asks_in before event);
    judged = subst (λ added. InTurn follows book.first (run.turns ++ more) added) (sym (entries_end before event))
        (joined follows book.first run.turns more (entries_of (all_outcomes before)) (entries_of (outcomes_of event)) run.judged judged);
    candidates = λ one is_in. elim (end_or before event (Judges one) is_in) [
      | inl was ↦ run.candidates one was
      | inr same ↦ candidates one (sym same)
    ];
    were = λ outcome is_in. elim (Contains-append_cases (all_outcomes before) (outcomes_of event) outcome (subst (λ all. Contains all outcome) (flat_end outcomes_of before event) is_in)) [
      | inl was ↦ run.were outcome was
      | inr now ↦ were outcome now
    ];
    answered = λ outcome answer is_in answers. elim (Contains-append_cases (all_outcomes before) (outcomes_of event) outcome (subst (λ all. Contains all outcome) (flat_end outcomes_of before event) is_in)) [
      | inl was ↦ Contains-append_left run.turns more (turn outcome.judged.ask answer) (run.answered outcome answer was answers)
      | inr now ↦ answered outcome answer now answers
    ];
    given = λ one is_in. elim (Contains-append_cases (all_given before) (given_in event) one (subst (λ all. Contains all one) (flat_end given_in before event) is_in)) [
      | inl was ↦ Contains-append_left run.turns more one (run.given one was)
      | inr now ↦ given one now
    ];
  }

  step : StepsFollow → (before : List Event) (event : Event) → Run before → MayHappen hosts book before event → length (kept_after book (before ++ event ∷ [])) ≤ most → Run (before ++ event ∷ [])
  step laws before (Refuses ask answer) run may few =
      let small : length (kept_after book before) ≤ most = omega (arith, ap length (kept_more book before (Refuses ask answer ∷ [])), length-append (kept_after book before) [], few) in
      extended before (Refuses ask answer) run (turn ask answer ∷ []) refl ([], [], laws.refused (kept_after book before) ask answer small may, refl, refl)
      (λ judged same. absurd (refuses_not ask answer judged same))
      (λ outcome is_in. absurd (none_in outcome is_in))
      (λ outcome other is_in. absurd (none_in outcome is_in))
      (λ one is_in. Contains-append_right run.turns (turn ask answer ∷ []) one is_in)
  step laws before (Judges judged) run may few =
      extended before (Judges judged) run [] refl refl
      (λ other same. subst (λ (judged : Judged). IsCandidateOf hosts judged.ask judged.candidate) (one_judged judged other same) may)
      (λ outcome is_in. absurd (none_in outcome is_in))
      (λ outcome other is_in. absurd (none_in outcome is_in))
      (λ one is_in. absurd (none_in one is_in))
  step laws before (Settles group) run may few =
      let all : kept_after book (before ++ Settles group ∷ []) ≡ kept_after book before ++ entries_of group =
      kept_more book before (Settles group ∷ []) ∙ ap (λ outcomes. kept_after book before ++ entries_of outcomes) (append-nil group) in
      let were : (outcome : Outcome) → Contains group outcome → IsCandidateOf hosts outcome.judged.ask outcome.judged.candidate = λ outcome is_in. run.candidates outcome.judged (may.0 outcome is_in) in
      let more = group_run laws (kept_after book before) group were may.1 (subst (λ (entries : Entries). length entries ≤ most) all few) in
      extended before (Settles group) run more.turns more.asked more.judged
      (λ judged same. absurd (settles_not group judged same))
      were
      (λ outcome answer is_in answers. Contains-append_right run.turns more.turns (turn outcome.judged.ask answer) (more.answered outcome answer is_in answers))
      (λ one is_in. absurd (none_in one is_in))
  step laws before (Answers outcome answer) run may few =
      extended before (Answers outcome answer) run [] refl refl
      (λ judged same. absurd (answers_not outcome answer judged same))
      (λ other is_in. absurd (none_in other is_in))
      (λ other more is_in. absurd (none_in other is_in))
      (λ one is_in. Contains-append_left run.turns [] one
      (subst (λ one. Contains run.turns one) (sym (the_only (turn outcome.judged.ask answer) one is_in)) (run.answered outcome answer may.0 may.1)))

  all_steps : StepsFollow → (before events : List Event) → Run before → IsHistoryFrom hosts book before events → length (kept_after book (before ++ events)) ≤ most → Run (before ++ events)
  all_steps laws before [] run history few = subst (λ events. Run events) (sym (append-nil before)) run
  all_steps laws before (event ∷ events) run history few =
      let whole : (before ++ event ∷ []) ++ events ≡ before ++ event ∷ events = append_assoc before (event ∷ []) events in
      let fewer : length (kept_after book ((before ++ event ∷ []) ++ events)) ≤ most = subst (λ events. length (kept_after book events) ≤ most) (sym whole) few in
      let small : length (kept_after book (before ++ event ∷ [])) ≤ most =
      omega (arith, ap length (kept_more book (before ++ event ∷ []) events), length-append (kept_after book (before ++ event ∷ [])) (entries_of (all_outcomes events)), fewer) in
      subst (λ events. Run events) whole (all_steps laws (before ++ event ∷ []) events (step laws before event run history.0 small) history.1 fewer)

  pub run_of : StepsFollow → (events : List Event) → IsHistory hosts book events → length (kept_after book events) ≤ most → Run events
  run_of laws events history few = all_steps laws [] events (record {
    turns = [];
    asked = refl;
    judged = refl;
    candidates = λ judged is_in. absurd (none_in (Judges judged) is_in);
    were = λ outcome is_in. absurd (none_in outcome is_in);
    answered = λ outcome answer is_in. absurd (none_in outcome is_in);
    given = λ one is_in. absurd (none_in one is_in);
  }) history few
