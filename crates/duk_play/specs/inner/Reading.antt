-- How a line is read (this project's own).
use Rattle.std.specs.Prelude.{◌≡◌, ◌⊎◌, ℕ, List, [], ◌∷◌, ◌++◌, codes, decimal}
use Rattle.duk_books.specs.declared.event.End as books_end
use Rattle.duk_books.specs.declared.event.End.TheVariants as end
use Rattle.duk_books.specs.declared.event.Event.{Event}
use Rattle.duk_books.specs.declared.event.Event.TheVariants as event
use Rattle.duk_net.specs.declared.event.End as net_end
use Rattle.duk_net.specs.declared.event.End.TheVariants.{Host, Term}
use Rattle.duk_net.specs.declared.event.Event as net_event
use Rattle.duk_net.specs.declared.event.Event.TheVariants.{Load, Begin, Up, Down, RestartTerm, RestartHost, Arm}
use Rattle.duk_play.specs.Script.{IsEventLine}
use Rattle.duk_script.specs.Script.{IsNumber, IsQuiet, IsSplit, IsTerminal, terminal_name}

-- an end of terminals, as one of tills: of a terminal it is its cell
abbrev pub end_of_tills : net_end.End → books_end.End
end_of_tills Host = end.Host
end_of_tills (Term t) = end.Terminal t

-- an event of terminals, as one of tills
abbrev pub event_of_tills : net_event.Event → Event
event_of_tills (Load t iksn) = event.Load t iksn
event_of_tills (Begin t purchase) = event.Begin t purchase
event_of_tills (Up k) = event.Up k
event_of_tills (Down k t) = event.Down k t
event_of_tills (RestartTerm t) = event.RestartTill t
event_of_tills RestartHost = event.RestartHost
event_of_tills (Arm which n) = event.Arm (end_of_tills which) n

-- `T book N`
pub record AreArmBookTokens (tokens : List ℕ) (t n : ℕ) : Type 0 where
  pub terminal : IsTerminal t
  pub number : IsNumber n
  pub rest : List ℕ
  pub split : IsSplit tokens (terminal_name t) rest
  pub rest_split : IsSplit rest (codes "book") (decimal n)

-- the line is this event and no other
pub record IsEventAlone (line : List ℕ) (said : Event) : Type 0 where
  pub is : IsEventLine line said
  pub only : (other : Event) → IsEventLine line other → other ≡ said

-- what a line adds to the events before it: nothing, or its event
abbrev pub AddsLine : List ℕ → List Event → List Event → Type 0
AddsLine line old new =
    (IsQuiet line × (new ≡ old))
    ⊎ ((said : Event) × IsEventAlone line said × ¬ IsQuiet line × (new ≡ old ++ said ∷ []))
