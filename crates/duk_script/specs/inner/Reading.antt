-- How a line is read (this project's own).
use Rattle.std.specs.Prelude.{◌≡◌, ◌≢◌, ◌⊎◌, ℕ, List, [], ◌∷◌, ◌++◌, length, slice_index, decimal, Some}
use Rattle.duk_pin.specs.Pan.{IsPan}
use Rattle.duk_pin.specs.Pin.{IsPin}
use Rattle.duk_term.specs.declared.purchase.Purchase.{Purchase}
use Rattle.duk_tree.specs.Serial.{iksn_of_text}
use Rattle.duk_net.specs.declared.event.End.{End}
use Rattle.duk_net.specs.declared.event.Event.{Event}
use Rattle.duk_script.specs.Script.{IsNumber, IsTerminal, IsEnd, IsQuiet, IsEventLine, IsSplit, terminal_name, end_name, spaced}

-- neither a plus sign nor a leading zero
pub record IsPlainNumber (token : List ℕ) : Type 0 where
  pub unsigned : slice_index token 0 ≢ 43
  pub no_leading_zero : slice_index token 0 ≡ 48 → length token ≡ 1

-- `PAN PIN AMOUNT`
pub record IsPurchase (text : List ℕ) (purchase : Purchase) : Type 0 where
  pub pan : IsPan purchase.pan
  pub pin : IsPin purchase.pin
  pub amount : IsNumber purchase.amount
  pub text_is : text ≡ spaced (purchase.pan ∷ purchase.pin ∷ decimal purchase.amount ∷ [])

-- `T IKSN`
pub record AreLoadTokens (tokens : List ℕ) (t iksn : ℕ) : Type 0 where
  pub terminal : IsTerminal t
  pub text : List ℕ
  pub spelled : iksn_of_text text ≡ Some iksn
  pub split : IsSplit tokens (terminal_name t) text

-- `T PAN PIN AMOUNT`
pub record AreBeginTokens (tokens : List ℕ) (t : ℕ) (purchase : Purchase) : Type 0 where
  pub terminal : IsTerminal t
  pub text : List ℕ
  pub bought : IsPurchase text purchase
  pub split : IsSplit tokens (terminal_name t) text

-- `K T`
pub record AreDownTokens (tokens : List ℕ) (k t : ℕ) : Type 0 where
  pub number : IsNumber k
  pub terminal : IsTerminal t
  pub split : IsSplit tokens (decimal k) (terminal_name t)

-- `T N` and `host N`
pub record AreArmTokens (tokens : List ℕ) (end : End) (n : ℕ) : Type 0 where
  pub named : IsEnd end
  pub number : IsNumber n
  pub split : IsSplit tokens (end_name end) (decimal n)

-- the line is this event and no other
pub record IsEventAlone (line : List ℕ) (event : Event) : Type 0 where
  pub is : IsEventLine line event
  pub only : (other : Event) → IsEventLine line other → other ≡ event

-- what a line adds to the events before it: nothing, or its event
abbrev pub AddsLine : List ℕ → List Event → List Event → Type 0
AddsLine line old new =
    (IsQuiet line × (new ≡ old))
    ⊎ ((event : Event) × IsEventAlone line event × ¬ IsQuiet line × (new ≡ old ++ event ∷ []))
