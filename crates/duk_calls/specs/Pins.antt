-- What the calls over PIN blocks answer (ISO 9564-1 format 0). The faults are this project's own.
use Rattle.std.specs.Prelude.{◌≡◌, ◌⊎◌, ℕ, List, [], ◌∷◌}
use Rattle.duk_pin.specs.Pan.{HasPanLength, IsPan}
use Rattle.duk_pin.specs.Pin.{HasPinLength, IsPin}
use Rattle.duk_pin.specs.PinBlock.{IsPinBlock, pin_block}
use Rattle.duk_pin.specs.declared.fault.PinFault.{PinFault}
use Rattle.duk_pin.specs.declared.fault.PinFault.TheVariants.{PinLength, PinDigit, PanLength, PanDigit}
use Rattle.duk_calls.specs.Answer.{Answer, Buffer, Ends, HaveLengths, HaveRoom, filled, with_front}
use Rattle.duk_calls.specs.declared.fault.Fault.{Fault}
use Rattle.duk_calls.specs.declared.fault.Fault.TheVariants.{Length, Pin, NotAPinBlock}

-- why a text is no PIN
abbrev pub IsNoPin : List ℕ → PinFault → Type 0
IsNoPin text PinLength = ¬ HasPinLength text
IsNoPin text PinDigit = HasPinLength text × ¬ IsPin text
IsNoPin text _ = ⊥

-- why a text is no PAN
abbrev pub IsNoPan : List ℕ → PinFault → Type 0
IsNoPan text PanLength = ¬ HasPanLength text
IsNoPan text PanDigit = HasPanLength text × ¬ IsPan text
IsNoPan text _ = ⊥

abbrev pub IsPinBlockRefused : Type 0 → List ℕ → List ℕ → Fault → Type 0
IsPinBlockRefused Fit pin pan Length = ¬ Fit
IsPinBlockRefused Fit pin pan (Pin why) = Fit × (IsNoPin pin why ⊎ (IsPin pin × IsNoPan pan why))
IsPinBlockRefused Fit pin pan _ = ⊥

abbrev pub PinBlockAnswers : List ℕ → List ℕ → List ℕ → List ℕ → Answer → Type 0
PinBlockAnswers pin pan old new =
    let Fit = HaveRoom (old ∷ []) (8 ∷ []) in
    Ends (Fit × IsPin pin × IsPan pan × (new ≡ with_front (pin_block pin pan) old))
    (IsPinBlockRefused Fit pin pan) (new ≡ old)

-- the buffer holds the PIN of a block under a PAN
pub record HoldsPinOf (block pan : List ℕ) (old new : Buffer) : Type 0 where
  pub pin : List ℕ
  pub is_block : IsPinBlock pin pan block
  pub written : new ≡ filled pin old

-- under a PAN the block is that of no PIN
abbrev pub IsNoPinBlock : List ℕ → List ℕ → Type 0
IsNoPinBlock block pan = (pin : List ℕ) → ¬ IsPinBlock pin pan block

abbrev pub IsPinOfBlockRefused : Type 0 → List ℕ → List ℕ → Fault → Type 0
IsPinOfBlockRefused Fit block pan Length = ¬ Fit
IsPinOfBlockRefused Fit block pan (Pin why) = Fit × IsNoPan pan why
IsPinOfBlockRefused Fit block pan NotAPinBlock = Fit × IsPan pan × IsNoPinBlock block pan
IsPinOfBlockRefused Fit block pan _ = ⊥

abbrev pub PinOfBlockAnswers : List ℕ → List ℕ → Buffer → Buffer → Answer → Type 0
PinOfBlockAnswers block pan old new =
    let Fit = HaveLengths (block ∷ []) (8 ∷ []) × HaveRoom (old.bytes ∷ []) (12 ∷ []) in
    Ends (Fit × HoldsPinOf block pan old new) (IsPinOfBlockRefused Fit block pan) (new ≡ old)
