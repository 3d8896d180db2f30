-- Scripts of tills: lines of text, and the events that they are (this project's own).
use Rattle.std.specs.Prelude.{◌≡◌, ◌⊎◌, ℕ, List, [], ◌∷◌, All, codes, decimal}
use Rattle.std.specs.Str.Lines.{lines}
use Rattle.duk_books.specs.declared.event.End.TheVariants as end
use Rattle.duk_books.specs.declared.event.Event.{Event}
use Rattle.duk_books.specs.declared.event.Event.TheVariants as event
use Rattle.duk_io.specs.FirstFault.{IsFirstItem}
use Rattle.duk_net.specs.declared.event.End.TheVariants.{Host, Term}
use Rattle.duk_script.specs.Script as script
use Rattle.duk_script.specs.Script.{IsNumber, IsQuiet, IsTerminal, spaced, terminal_name}

-- `reverse T`
pub record IsReverse (line : List ℕ) (t : ℕ) : Type 0 where
  pub terminal : IsTerminal t
  pub line_is : line ≡ spaced (codes "reverse" ∷ terminal_name t ∷ [])

-- `arm T book N`
pub record IsArmBook (line : List ℕ) (t n : ℕ) : Type 0 where
  pub terminal : IsTerminal t
  pub number : IsNumber n
  pub line_is : line
      ≡ spaced (codes "arm" ∷ terminal_name t ∷ codes "book" ∷ decimal n ∷ [])

-- the line is this event: one of a script of terminals, or one of tills alone
abbrev pub IsEventLine : List ℕ → Event → Type 0
IsEventLine line (event.Load t iksn) = script.IsLoad line t iksn
IsEventLine line (event.Begin t purchase) = script.IsBegin line t purchase
IsEventLine line (event.Reverse t) = IsReverse line t
IsEventLine line (event.Up k) = script.IsUpLine line k
IsEventLine line (event.Down k t) = script.IsDown line k t
IsEventLine line (event.RestartTill t) = script.IsRestartLine line (Term t)
IsEventLine line event.RestartHost = script.IsRestartLine line Host
IsEventLine line (event.Arm end.Host n) = script.IsArm line Host n
IsEventLine line (event.Arm (end.Terminal t) n) = script.IsArm line (Term t) n
IsEventLine line (event.Arm (end.Book t) n) = IsArmBook line t n

-- lines that are these events, in this order, but for those that say nothing
abbrev pub AreEvents : List (List ℕ) → List Event → Type 0
AreEvents [] events = events ≡ []
AreEvents (line ∷ lines) events =
    (IsQuiet line × AreEvents lines events)
    ⊎ ((first : Event) × (rest : List Event) × IsEventLine line first × AreEvents lines rest
    × (events ≡ first ∷ rest))

-- a line that may stand in a script
abbrev pub IsLawful : List ℕ → Type 0
IsLawful line = IsQuiet line ⊎ ((said : Event) × IsEventLine line said)

-- the line of this number, counted from 1, is the first that may not stand in a script
abbrev pub IsFirstBad : List (List ℕ) → ℕ → Type 0
IsFirstBad = IsFirstItem (All IsLawful) (λ _ line. ¬ IsLawful line)

-- a script of these events, whose lines end as those of a script of terminals
abbrev pub IsScript : List ℕ → List Event → Type 0
IsScript text events = AreEvents (lines text) events

-- a text that is no script, for this line
abbrev pub IsNoScript : List ℕ → ℕ → Type 0
IsNoScript text number = IsFirstBad (lines text) number
