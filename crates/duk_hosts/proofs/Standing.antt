-- What the book keeps, what replies are replies to, and what they tell.
use Rattle.std.proofs.Common.{◌≡◌, ℕ, List, [], ◌∷◌, ◌++◌, Contains, length, inl, inr, sym, ap, subst, ◌∙◌, append_assoc, arith}
use Rattle.std.proofs.lemmas.List.{append-nil}
use Rattle.std.proofs.lemmas.List.Concat.{flat_map-append}
use Rattle.std.proofs.lemmas.List.Elements.{Contains-append_cases, Contains-append_left, Contains-append_right}
use Rattle.duk_host.specs.Lifetime.{AcceptsAlike, AcceptsNumber}
use Rattle.duk_hsm.specs.Keys.{HsmKeys}
use Rattle.duk_journal.specs.Groups.{Entries}
use Rattle.duk_journal.specs.Standing.{UseNewNumbers, payment_entry}
use Rattle.duk_journal.specs.declared.entry.Entry.{Entry}
use Rattle.duk_reversal.specs.Numbers.{Numbers}
use Rattle.duk_reversal.specs.declared.state.ReversalState.{ReversalState}
use Rattle.duk_tree.specs.Serial.{Serial}
use Rattle.duk_journal_host.specs.Judged.{AreJudged, AreRepliesOf, AreReversalRepliesOf, IsReplyOf, IsReversalReplyOf, TellsAlike, TellsNumber}
use Rattle.duk_journal_host.specs.Judgement.{LineBasis, reversal_entry}
use Rattle.duk_hosts.specs.Book.{Book}
use Rattle.duk_hosts.specs.Events.{Event, Hosts, IsHistory, Turn, all_answers, all_given, entries_of, all_outcomes, given_in, kept_after}
use Rattle.duk_hosts.specs.OneHost.{InTurn}
use Rattle.duk_hosts.proofs.Histories.{Run, StepsFollow, run_of}
use Rattle.duk_hosts.proofs.Members.{front_or, made_of, none_in, the_one}
use Rattle.duk_hosts.proofs.Turns.{IsFounded, StepLaws, alone, refused_founded, settled_founded, through}

-- what a list of entries has, whatever frames are judged by it
abbrev pub IsLeftBy : (Entries → Type 0) → Type 0
IsLeftBy Holds = (basis : LineBasis) (frames answers : List (List ℕ)) (added : Entries) → AreJudged basis frames answers added → Holds basis.entries → Holds (basis.entries ++ added)

-- what is known of replies
abbrev pub KeepsReplies : Type 0
KeepsReplies = (basis : LineBasis) (frames answers : List (List ℕ)) (added : Entries) → AreJudged basis frames answers added
    → AreRepliesOf basis.keys (basis.entries ++ added) answers × AreReversalRepliesOf basis.keys (basis.entries ++ added) answers

pub founded_run : (laws : StepLaws) (hosts : Hosts) (book : Book) (events : List Event) → IsHistory hosts book events → Run hosts book (length (kept_after book events)) (IsFounded hosts) events
founded_run laws hosts book events history =
    let most = length (kept_after book events) in
    let follow : StepsFollow hosts book most (IsFounded hosts) = record {
      refused = λ entries ask answer few is. refused_founded laws hosts entries ask answer is;
      settled = λ entries ask candidate done answer few is settles answers. settled_founded laws hosts book.bound entries ask candidate done answer is settles answers;
    } in
    run_of hosts book most (IsFounded hosts) follow events history (omega arith)

-- ---- what is kept

left_by_one : (hosts : Hosts) (Holds : Entries → Type 0) → IsLeftBy Holds → (entries : Entries) (one : Turn) (added : Entries) → IsFounded hosts entries one added → Holds entries → Holds (entries ++ added)
left_by_one hosts Holds law entries one added is holds = elim is.founded [
  | inl same ↦ subst (λ entries. Holds entries → Holds (entries ++ added)) same (law is.basis (one.ask.frame ∷ []) (one.answer ∷ []) added (alone is.basis one.ask.frame one.answer added is.judged)) holds
  | inr part ↦ subst Holds (sym (append-nil entries) ∙ ap (λ added. entries ++ added) (sym part.0)) holds
]

pub left_by_all : (laws : StepLaws) (hosts : Hosts) (book : Book) (events : List Event) (Holds : Entries → Type 0) → IsLeftBy Holds → IsHistory hosts book events → Holds book.first → Holds (kept_after book events)
left_by_all laws hosts book events Holds law history holds =
    let run = founded_run laws hosts book events history in
    through (IsFounded hosts) Holds (left_by_one hosts Holds law) book.first run.turns (entries_of (all_outcomes events)) run.judged holds

-- ---- replies

-- the entries have that of each reply among the answers
pub record HasEach (keys : HsmKeys) (entries : Entries) (answers : List (List ℕ)) : Type 0 where
  pub payments : AreRepliesOf keys entries answers
  pub reversals : AreReversalRepliesOf keys entries answers

wider : (keys : HsmKeys) (entries more : Entries) (answers : List (List ℕ)) → ((entry : Entry) → Contains entries entry → Contains more entry) → HasEach keys entries answers → HasEach keys more answers
wider keys entries more answers within has = record {
  payments = λ answer ksn is_in accepts. let is = has.payments answer ksn is_in accepts in
      record { amount = is.amount; code = is.code; mac = is.mac; kept = within (payment_entry ksn is.amount is.code is.mac) is.kept; reply = is.reply };
  reversals = λ answer numbers state is_in tells. let is = has.reversals answer numbers state is_in tells in
      record { mac = is.mac; are_numbers = is.are_numbers; kept = within (reversal_entry (record { numbers = numbers; mac = is.mac }) state) is.kept; reply = is.reply };
}

each_of_one : (hosts : Hosts) → KeepsReplies → (entries : Entries) (one : Turn) (added : Entries) → IsFounded hosts entries one added → HasEach hosts.keys (entries ++ added) (one.answer ∷ [])
each_of_one hosts law entries one added is =
    let basis = is.basis in
    let both = law basis (one.ask.frame ∷ []) (one.answer ∷ []) added (alone basis one.ask.frame one.answer added is.judged) in
    let own : HasEach basis.keys (basis.entries ++ added) (one.answer ∷ []) = record { payments = both.0; reversals = both.1 } in
    let here : HasEach hosts.keys (basis.entries ++ added) (one.answer ∷ []) = subst (λ keys. HasEach keys (basis.entries ++ added) (one.answer ∷ [])) is.keys_are own in
    elim is.founded [
      | inl same ↦ subst (λ entries. HasEach hosts.keys (entries ++ added) (one.answer ∷ [])) same here
      | inr part ↦ wider hosts.keys (basis.entries ++ added) (entries ++ added) (one.answer ∷ []) (λ entry is_in. elim (Contains-append_cases basis.entries added entry is_in) [
        | inl was ↦ Contains-append_left entries added entry (part.1 entry was)
        | inr now ↦ Contains-append_right entries added entry now
      ]) here
    ]

each_in_turn : (hosts : Hosts) → KeepsReplies → (entries : Entries) (turns : List Turn) (added : Entries) (one : Turn) → InTurn (IsFounded hosts) entries turns added → Contains turns one
    → HasEach hosts.keys (entries ++ added) (one.answer ∷ [])
each_in_turn hosts law entries [] added one judged is_in = absurd (none_in one is_in)
each_in_turn hosts law entries (first ∷ turns) added one judged is_in =
    let all = append_assoc entries judged.0 judged.1 ∙ ap (λ added. entries ++ added) (sym judged.4) in
    subst (λ entries. HasEach hosts.keys entries (one.answer ∷ [])) all (elim (front_or first turns one is_in) [
      | inl is ↦ subst (λ (one : Turn). HasEach hosts.keys ((entries ++ judged.0) ++ judged.1) (one.answer ∷ [])) (sym is)
          (wider hosts.keys (entries ++ judged.0) ((entries ++ judged.0) ++ judged.1) (first.answer ∷ []) (λ entry was. Contains-append_left (entries ++ judged.0) judged.1 entry was)
          (each_of_one hosts law entries first judged.0 judged.2))
      | inr later ↦ each_in_turn hosts law (entries ++ judged.0) turns judged.1 one judged.3 later
    ])

-- what was given is given with more events
given_more : (events later : List Event) (one : Turn) → Contains (all_given events) one → Contains (all_given (events ++ later)) one
given_more events later one is_in =
    subst (λ all. Contains all one) (sym (flat_map-append given_in events later)) (Contains-append_left (all_given events) (all_given later) one is_in)

each_answer : (laws : StepLaws) (hosts : Hosts) (book : Book) (events later : List Event) → KeepsReplies → IsHistory hosts book (events ++ later) → (answer : List ℕ) → Contains (all_answers events) answer
    → HasEach hosts.keys (kept_after book (events ++ later)) (answer ∷ [])
each_answer laws hosts book events later law history answer is_in =
    let run = founded_run laws hosts book (events ++ later) history in
    let from = made_of (λ (one : Turn). one.answer) (all_given events) answer is_in in
    let turn_in = run.given from.0 (given_more events later from.0 from.1) in
    subst (λ answer. HasEach hosts.keys (kept_after book (events ++ later)) (answer ∷ [])) (sym from.2)
    (each_in_turn hosts law book.first run.turns (entries_of (all_outcomes (events ++ later))) from.0 run.judged turn_in)

pub each_kept : (laws : StepLaws) (hosts : Hosts) (book : Book) (events later : List Event) → KeepsReplies → IsHistory hosts book (events ++ later)
    → AreRepliesOf hosts.keys (kept_after book (events ++ later)) (all_answers events) × AreReversalRepliesOf hosts.keys (kept_after book (events ++ later)) (all_answers events)
each_kept laws hosts book events later law history = (
  λ answer ksn is_in accepts. (each_answer laws hosts book events later law history answer is_in).payments answer ksn (the_one answer) accepts,
  λ answer numbers state is_in tells. (each_answer laws hosts book events later law history answer is_in).reversals answer numbers state (the_one answer) tells,
)

-- ---- equal replies

-- what is known of replies to one number
pub record EqualReplies : Type 0 where
  pub equal : (keys : HsmKeys) (entries : Entries) (ksn : Serial) (one other : List ℕ) → UseNewNumbers entries → IsReplyOf keys entries ksn one → IsReplyOf keys entries ksn other → one ≡ other
  pub reversal_equal : (keys : HsmKeys) (entries : Entries) (numbers others : Numbers) (state told : ReversalState) (one other : List ℕ) → UseNewNumbers entries → numbers.ksn ≡ others.ksn
      → IsReversalReplyOf keys entries numbers state one → IsReversalReplyOf keys entries others told other → one ≡ other
  pub one_kind : (keys : HsmKeys) (entries : Entries) (numbers : Numbers) (state : ReversalState) (one other : List ℕ) → UseNewNumbers entries → IsReplyOf keys entries numbers.ksn one → ¬ IsReversalReplyOf keys entries numbers state other

pub alike : (laws : EqualReplies) (keys : HsmKeys) (entries : Entries) (answers : List (List ℕ)) → UseNewNumbers entries → AreRepliesOf keys entries answers → AreReversalRepliesOf keys entries answers
    → AcceptsAlike answers × TellsAlike answers
alike laws keys entries answers new payments reversals = (
  λ ksn one other in_one in_other a b. laws.equal keys entries ksn one other new (payments one ksn in_one a) (payments other ksn in_other b),
  λ ksn one other in_one in_other a b.
      laws.reversal_equal keys entries a.0 b.0 a.1 b.1 one other new (a.2 ∙ sym b.2) (reversals one a.0 a.1 in_one a.3) (reversals other b.0 b.1 in_other b.3),
)

pub of_one_kind : (laws : EqualReplies) (keys : HsmKeys) (entries : Entries) (answers : List (List ℕ)) (number : Serial) (one other : List ℕ) → UseNewNumbers entries → AreRepliesOf keys entries answers → AreReversalRepliesOf keys entries answers
    → Contains answers one → Contains answers other → AcceptsNumber number one → ¬ TellsNumber number other
of_one_kind laws keys entries answers number one other new payments reversals in_one in_other accepts tells =
    let reply = subst (λ number. IsReplyOf keys entries number one) (sym tells.2) (payments one number in_one accepts) in
    laws.one_kind keys entries tells.0 tells.1 one other new reply (reversals other tells.0 tells.1 in_other tells.3)
