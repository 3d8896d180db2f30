-- What happens among any number of hosts and the book that they share: this project's own.
--
-- A host keeps nothing. It judges a frame, sends the candidate to the book, now or at any later time,
-- and answers what was settled, now, later, more than once, or never. So a host that stops, sleeps or
-- loses an answer is one of which no more is heard, or only later; and a candidate that is sent twice,
-- by one host or two, is settled twice.
use Rattle.std.specs.Prelude.{◌++◌, ℕ, List, [], ◌∷◌, Contains, flat_map, map}
use Rattle.duk_host.specs.Judgement.{Decision}
use Rattle.duk_hsm.specs.Keys.{HsmKeys}
use Rattle.duk_journal.specs.Groups.{Entries}
use Rattle.duk_journal_host.specs.Candidate.{IsCandidate}
use Rattle.duk_journal_host.specs.Steps.{IsAnswerOf, IsDismissed, added_by}
use Rattle.duk_journal_host.specs.declared.candidate.Candidate.{Candidate}
use Rattle.duk_journal_host.specs.declared.settlement.Settled.{Settled}
use Rattle.duk_hosts.specs.Book.{AreSettledInTurn, Book, Bound}

-- the hosts: the keys, which all of them hold, and what the issuer of each decides. An issuer that
-- changed its mind is that of another host
pub record Hosts : Type 0 where
  pub keys : HsmKeys
  pub decides : ℕ → Decision

-- bytes that came to a host: any bytes, also such as came to it or to another before
pub record Ask : Type 0 where
  pub host : ℕ
  pub frame : List ℕ

-- bytes that a host judged to be this candidate
pub record Judged : Type 0 where
  pub ask : Ask
  pub candidate : Candidate

-- what a host judged, with the settlement that the book gave it
pub record Outcome : Type 0 where
  pub judged : Judged
  pub settled : Settled

-- what happens: a host refuses a frame by its keys alone; it judges one to be a candidate; the book
-- settles a group of candidates; and a host, the same or another, answers a frame that was settled
pub data Event : Type 0 where
  Refuses : Ask → List ℕ → Event
  Judges : Judged → Event
  Settles : List Outcome → Event
  Answers : Outcome → List ℕ → Event

-- ---- what events leave

-- all that was settled, in the order in which it was
abbrev pub outcomes_of : Event → List Outcome
outcomes_of (Settles group) = group
outcomes_of _ = []

abbrev pub all_outcomes : List Event → List Outcome
all_outcomes events = flat_map outcomes_of events

-- the entries that are kept of what was settled
abbrev pub entries_of : List Outcome → Entries
entries_of outcomes = flat_map (λ outcome. added_by outcome.settled) outcomes

-- what the book keeps after events
abbrev pub kept_after : Book → List Event → Entries
kept_after book events = book.first ++ entries_of (all_outcomes events)

-- ---- which events may happen

-- the bytes are this candidate, by the keys and the issuer of the host that they came to
abbrev pub IsCandidateOf : Hosts → Ask → Candidate → Type 0
IsCandidateOf hosts ask candidate =
    IsCandidate hosts.keys (hosts.decides ask.host) ask.frame candidate

-- each of a group was judged by a host
abbrev pub WereJudged : List Event → List Outcome → Type 0
WereJudged events group =
    (outcome : Outcome) → Contains group outcome → Contains events (Judges outcome.judged)

-- a group is settled in turn
abbrev pub AreSettledIn : Bound → Entries → List Outcome → Type 0
AreSettledIn bound entries group =
    AreSettledInTurn bound entries (map (λ outcome. outcome.judged.candidate) group)
    (map (λ outcome. outcome.settled) group)

-- after these events this one may happen
abbrev pub MayHappen : Hosts → Book → List Event → Event → Type 0
MayHappen hosts book before (Refuses ask answer) = IsDismissed hosts.keys ask.frame answer
MayHappen hosts book before (Judges judged) = IsCandidateOf hosts judged.ask judged.candidate
MayHappen hosts book before (Settles group) =
    WereJudged before group × AreSettledIn book.bound (kept_after book before) group
MayHappen hosts book before (Answers outcome answer) =
    Contains (all_outcomes before) outcome × IsAnswerOf hosts.keys outcome.settled answer

-- events in any order in which they may happen
abbrev pub IsHistoryFrom : Hosts → Book → List Event → List Event → Type 0
IsHistoryFrom hosts book before [] = Unit {0}
IsHistoryFrom hosts book before (event ∷ events) =
    MayHappen hosts book before event × IsHistoryFrom hosts book (before ++ event ∷ []) events

abbrev pub IsHistory : Hosts → Book → List Event → Type 0
IsHistory hosts book events = IsHistoryFrom hosts book [] events

-- ---- what hosts answer

-- bytes that came to a host, and the answer to them
pub record Turn : Type 0 where
  pub ask : Ask
  pub answer : List ℕ

abbrev pub turn : Ask → List ℕ → Turn
turn ask answer = record { ask = ask; answer = answer }

-- all answers that hosts gave, each with what it answers
abbrev pub given_in : Event → List Turn
given_in (Refuses ask answer) = turn ask answer ∷ []
given_in (Answers outcome answer) = turn outcome.judged.ask answer ∷ []
given_in _ = []

abbrev pub all_given : List Event → List Turn
all_given events = flat_map given_in events

abbrev pub all_answers : List Event → List (List ℕ)
all_answers events = map (λ turn. turn.answer) (all_given events)
