-- Scripts: lines of text, and the events that they are (this project's own).
use Rattle.std.specs.Prelude.{◌≡◌, ◌≢◌, ◌⊎◌, ◌<◌, ◌≤◌, ◌^◌, ℕ, List, [], ◌∷◌, ◌++◌, All, EachIndex, codes, decimal, slice_index, Some}
use Rattle.std.specs.List.{join_with_byte}
use Rattle.std.specs.Str.Lines.{lines}
use Rattle.duk_io.specs.FirstFault.{IsFirstItem}
use Rattle.duk_pin.specs.Pan.{IsPan}
use Rattle.duk_pin.specs.Pin.{IsPin}
use Rattle.duk_tree.specs.Serial.{iksn_of_text}
use Rattle.duk_term.specs.declared.purchase.Purchase.{Purchase}
use Rattle.duk_net.specs.declared.event.End.{End}
use Rattle.duk_net.specs.declared.event.End.TheVariants.{Host, Term}
use Rattle.duk_net.specs.declared.event.Event.{Event}
use Rattle.duk_net.specs.declared.event.Event.TheVariants.{Load, Begin, Up, Down, RestartTerm, RestartHost, Arm}

-- a number of a script, written in decimal without leading zeros
abbrev pub IsNumber : ℕ → Type 0
IsNumber number = number < 2 ^ 32

-- the number of a terminal
pub record IsTerminal (t : ℕ) : Type 0 where
  pub least : 1 ≤ t
  pub most : t ≤ 16

-- the name of a terminal: t and its number
abbrev pub terminal_name : ℕ → List ℕ
terminal_name t = codes "t" ++ decimal t

-- an end has a name where it is the host or a terminal of such a number
abbrev pub IsEnd : End → Type 0
IsEnd Host = Unit {0}
IsEnd (Term t) = IsTerminal t

-- the name of an end
abbrev pub end_name : End → List ℕ
end_name Host = codes "host"
end_name (Term t) = terminal_name t

-- tokens, with one space between each two
abbrev pub spaced : List (List ℕ) → List ℕ
spaced tokens = join_with_byte 32 tokens

-- no byte is a space
abbrev pub HasNoSpace : List ℕ → Type 0
HasNoSpace token = EachIndex token (λ i. slice_index token i ≢ 32)

-- the text is the token, a space and the rest
pub record IsSplit (text token rest : List ℕ) : Type 0 where
  pub one_token : HasNoSpace token
  pub text_is : text ≡ token ++ 32 ∷ rest

-- `load T IKSN`, with any text that spells the initial key serial number
pub record IsLoad (line : List ℕ) (t iksn : ℕ) : Type 0 where
  pub terminal : IsTerminal t
  pub text : List ℕ
  pub spelled : iksn_of_text text ≡ Some iksn
  pub line_is : line ≡ spaced (codes "load" ∷ terminal_name t ∷ text ∷ [])

-- `begin T PAN PIN AMOUNT`
pub record IsBegin (line : List ℕ) (t : ℕ) (purchase : Purchase) : Type 0 where
  pub terminal : IsTerminal t
  pub pan : IsPan purchase.pan
  pub pin : IsPin purchase.pin
  pub amount : IsNumber purchase.amount
  pub line_is : line ≡ spaced (codes "begin" ∷ terminal_name t ∷ purchase.pan ∷ purchase.pin
      ∷ decimal purchase.amount ∷ [])

-- `up K`
pub record IsUpLine (line : List ℕ) (k : ℕ) : Type 0 where
  pub number : IsNumber k
  pub line_is : line ≡ spaced (codes "up" ∷ decimal k ∷ [])

-- `down K T`
pub record IsDown (line : List ℕ) (k t : ℕ) : Type 0 where
  pub number : IsNumber k
  pub terminal : IsTerminal t
  pub line_is : line ≡ spaced (codes "down" ∷ decimal k ∷ terminal_name t ∷ [])

-- `restart T` and `restart host`
pub record IsRestartLine (line : List ℕ) (end : End) : Type 0 where
  pub named : IsEnd end
  pub line_is : line ≡ spaced (codes "restart" ∷ end_name end ∷ [])

-- `arm T N` and `arm host N`
pub record IsArm (line : List ℕ) (end : End) (n : ℕ) : Type 0 where
  pub named : IsEnd end
  pub number : IsNumber n
  pub line_is : line ≡ spaced (codes "arm" ∷ end_name end ∷ decimal n ∷ [])

-- the line is this event
abbrev pub IsEventLine : List ℕ → Event → Type 0
IsEventLine line (Load t iksn) = IsLoad line t iksn
IsEventLine line (Begin t purchase) = IsBegin line t purchase
IsEventLine line (Up k) = IsUpLine line k
IsEventLine line (Down k t) = IsDown line k t
IsEventLine line (RestartTerm t) = IsRestartLine line (Term t)
IsEventLine line RestartHost = IsRestartLine line Host
IsEventLine line (Arm end n) = IsArm line end n

-- a line that says nothing: it is empty, or a comment, which begins with #
abbrev pub IsQuiet : List ℕ → Type 0
IsQuiet line = (line ≡ []) ⊎ ((comment : List ℕ) × (line ≡ codes "#" ++ comment))

-- lines that are these events, in this order, but for those that say nothing
abbrev pub AreEvents : List (List ℕ) → List Event → Type 0
AreEvents [] events = events ≡ []
AreEvents (line ∷ lines) events =
    (IsQuiet line × AreEvents lines events)
    ⊎ ((event : Event) × (rest : List Event) × IsEventLine line event × AreEvents lines rest
    × (events ≡ event ∷ rest))

-- a line that may stand in a script
abbrev pub IsLawful : List ℕ → Type 0
IsLawful line = IsQuiet line ⊎ ((event : Event) × IsEventLine line event)

-- the line of this number, counted from 1, is the first that may not stand in a script
abbrev pub IsFirstBad : List (List ℕ) → ℕ → Type 0
IsFirstBad = IsFirstItem (All IsLawful) (λ _ line. ¬ IsLawful line)

-- a script of these events. Its lines end with LF, which the last may lack, and one CR before an LF
-- is dropped
abbrev pub IsScript : List ℕ → List Event → Type 0
IsScript text events = AreEvents (lines text) events

-- a text that is no script, for this line
abbrev pub IsNoScript : List ℕ → ℕ → Type 0
IsNoScript text number = IsFirstBad (lines text) number
