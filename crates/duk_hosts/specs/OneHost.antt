-- What one host could have done in the place of many: this project's own.
use Rattle.std.specs.Prelude.{◌≡◌, ◌<◌, ◌≤◌, ◌-◌, ◌*◌, ◌++◌, ℕ, List, [], ◌∷◌, Contains, flat_map, length, map}
use Rattle.duk_journal.specs.Groups.{Entries}
use Rattle.duk_journal_host.specs.Judgement.{IsJudged, line_basis}
use Rattle.duk_journal_host.specs.Latest.{most_latest}
use Rattle.duk_hosts.specs.Book.{AtMost, Book, Bound, NoBound}
use Rattle.duk_hosts.specs.Events.{Ask, Event, Hosts, Refuses, Settles, Turn, all_given, all_outcomes, entries_of}

-- turns that follow one another in this way, each with the entries that are kept by then; and these
-- are added
abbrev pub InTurn : (Entries → Turn → Entries → Type 0) → Entries → List Turn → Entries → Type 0
InTurn follows entries [] added = added ≡ []
InTurn follows entries (turn ∷ turns) added =
    (first : Entries) × (others : Entries) × follows entries turn first
    × InTurn follows (entries ++ first) turns others × (added ≡ first ++ others)

-- a host over a journal of this capacity judges a frame so, and asks the issuer of the host to which
-- the frame came
abbrev pub IsTurnOf : Hosts → ℕ → Entries → Turn → Entries → Type 0
IsTurnOf hosts capacity entries turn added =
    IsJudged (line_basis hosts.keys entries capacity (capacity - length entries)
    (hosts.decides turn.ask.host)) turn.ask.frame turn.answer added

-- the frames that were refused or settled, in the order in which they were
abbrev pub asks_in : Event → List Ask
asks_in (Refuses ask answer) = ask ∷ []
asks_in (Settles group) = map (λ outcome. outcome.judged.ask) group
asks_in _ = []

abbrev pub all_asks : List Event → List Ask
all_asks events = flat_map asks_in events

-- one host did the same over a journal of this capacity: it had these frames in this order, and added
-- the same entries; and each answer that any of the hosts gave to a frame is what it answered
pub record DidAsOne (hosts : Hosts) (book : Book) (events : List Event) (capacity : ℕ)
    : Type 0 where
  pub turns : List Turn
  pub asked : map (λ turn. turn.ask) turns ≡ all_asks events
  pub judged : InTurn (IsTurnOf hosts capacity) book.first turns (entries_of (all_outcomes events))
  pub given : (turn : Turn) → Contains (all_given events) turn → Contains turns turn

-- a journal of this capacity does for a book while it keeps no more than these entries: it is as
-- large as the book; or, for a book without bound, it is not half full, and answers all of them again
abbrev pub DoesFor : Bound → Entries → ℕ → Type 0
DoesFor (AtMost most) entries capacity = capacity ≡ most
DoesFor NoBound entries capacity =
    (2 * length entries < capacity) × (length entries ≤ most_latest)
