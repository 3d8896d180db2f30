-- What the calls over the image of a terminal answer (ANSI X9.24-1:2009 annex A). Images, reloads
-- and faults are this project's own.
use Rattle.std.specs.Prelude.{◌≡◌, ℕ, List, [], ◌∷◌, length}
use Rattle.duk_regs.specs.Image.{IsImage, image_bytes, set_in}
use Rattle.duk_regs.specs.Registers.{AreFutureKeysOf, IsRegisterSet, IsSpentIksn, IsTaken, RegisterSet}
use Rattle.duk_regs.specs.Reload.{IsReloaded}
use Rattle.duk_tree.specs.Derivation.{transaction_key_of}
use Rattle.duk_tree.specs.Next.{spent_counter}
use Rattle.duk_tree.specs.Path.{IsUsable}
use Rattle.duk_tree.specs.Serial.{Serial, serial_bytes, serial_of_bytes}
use Rattle.duk_calls.specs.Answer.{Answer, Ends, HaveLengths, HaveRoom, with_front}
use Rattle.duk_calls.specs.Keys.{IsInitial, iksn_of}
use Rattle.duk_calls.specs.Numbers.{IsNotUsable, counter_of}
use Rattle.duk_calls.specs.declared.fault.Fault.{Fault}
use Rattle.duk_calls.specs.declared.fault.Fault.TheVariants.{Length, NotInitial, Spent, NotAnImage, IksnSpent, LoadsSpent}

-- the front of a slice holds the image that a terminal with these registers stores
pub record Stores (set : RegisterSet) (old new : List ℕ) : Type 0 where
  pub image_is : IsImage (image_bytes set)
  pub read : set_in (image_bytes set) ≡ set
  pub written : new ≡ with_front (image_bytes set) old

-- the front of a slice holds the image of a terminal at this number, of which only this initial key
-- was ever loaded
pub record StoresAt (initial : List ℕ) (serial : Serial) (old new : List ℕ) : Type 0 where
  pub set : RegisterSet
  pub stored : Stores set old new
  pub iksn_is : set.iksn ≡ serial.iksn
  pub counter_is : set.counter ≡ serial.counter
  pub none_past : set.past ≡ []
  pub future_keys : AreFutureKeysOf initial set
  pub set_is : IsRegisterSet set

-- the first number under the initial key serial number in ten bytes
abbrev pub first_number : List ℕ → Serial
first_number iksn = record { iksn = iksn_of iksn; counter = 1 }

-- an initial key, a key serial number, and room for an image
abbrev pub FitImage : List ℕ → List ℕ → List ℕ → Type 0
FitImage initial ksn image =
    HaveLengths (initial ∷ ksn ∷ []) (16 ∷ 10 ∷ []) × HaveRoom (image ∷ []) (431 ∷ [])

abbrev pub IsLoadRefused : Type 0 → List ℕ → Fault → Type 0
IsLoadRefused Fit iksn Length = ¬ Fit
IsLoadRefused Fit iksn NotInitial = Fit × ¬ IsInitial iksn
IsLoadRefused Fit iksn _ = ⊥

abbrev pub RegistersLoadAnswers : List ℕ → List ℕ → List ℕ → List ℕ → Answer → Type 0
RegistersLoadAnswers initial iksn old new =
    let Fit = FitImage initial iksn old in
    Ends (Fit × IsInitial iksn × StoresAt initial (first_number iksn) old new)
    (IsLoadRefused Fit iksn) (new ≡ old)

abbrev pub RegistersAtAnswers : List ℕ → List ℕ → List ℕ → List ℕ → Answer → Type 0
RegistersAtAnswers initial ksn old new =
    let Fit = FitImage initial ksn old in
    Ends (Fit × IsUsable (counter_of ksn) × StoresAt initial (serial_of_bytes ksn) old new)
    (IsNotUsable Fit ksn) (new ≡ old)

-- an image whose terminal has used all its numbers
abbrev pub IsSpent : List ℕ → Type 0
IsSpent image = (set_in image).counter ≡ spent_counter

-- the key serial number that a terminal with this image uses next, in ten bytes
abbrev pub number_in : List ℕ → List ℕ
number_in image =
    let set = set_in image in serial_bytes (record { iksn = set.iksn; counter = set.counter })

-- the image is that of a terminal with a number left
pub record HasNumber (image : List ℕ) : Type 0 where
  pub image_is : IsImage image
  pub usable : IsUsable (set_in image).counter

abbrev pub HasNoNumber : Type 0 → List ℕ → Fault → Type 0
HasNoNumber Fit image Length = ¬ Fit
HasNoNumber Fit image NotAnImage = Fit × ¬ IsImage image
HasNoNumber Fit image Spent = Fit × IsImage image × IsSpent image
HasNoNumber Fit image _ = ⊥

abbrev pub RegistersNumberAnswers : List ℕ → List ℕ → List ℕ → Answer → Type 0
RegistersNumberAnswers image old new =
    let Fit = HaveRoom (old ∷ []) (10 ∷ []) in
    Ends (Fit × HasNumber image × (new ≡ with_front (number_in image) old))
    (HasNoNumber Fit image) (new ≡ old)

-- what a transaction writes: the next image, the key, and the key serial number
pub record NextParts : Type 0 where
  pub image : List ℕ
  pub key : List ℕ
  pub ksn : List ℕ

abbrev pub next_parts : List ℕ → List ℕ → List ℕ → NextParts
next_parts image key ksn = record { image = image; key = key; ksn = ksn }

-- a terminal with this image uses its next number; where its registers held the future keys of an
-- initial key, the key is the transaction key under it, and those in the next image hold them too
pub record UsesNext (image : List ℕ) (old new : NextParts) : Type 0 where
  pub number : HasNumber image
  pub set : RegisterSet
  pub key : List ℕ
  pub taken : IsTaken (set_in image) key set
  pub stored : Stores set old.image new.image
  pub key_written : new.key ≡ with_front key old.key
  pub ksn_is : new.ksn ≡ with_front (number_in image) old.ksn
  pub key_is : (initial : List ℕ) → AreFutureKeysOf initial (set_in image)
      → key ≡ transaction_key_of initial (set_in image).iksn (set_in image).counter
  pub future_keys : (initial : List ℕ) → AreFutureKeysOf initial (set_in image)
      → AreFutureKeysOf initial set

abbrev pub RegistersNextAnswers : List ℕ → NextParts → NextParts → Answer → Type 0
RegistersNextAnswers image old new =
    let Fit = HaveRoom (old.image ∷ old.key ∷ old.ksn ∷ []) (431 ∷ 16 ∷ 10 ∷ []) in
    Ends (Fit × UsesNext image old new) (HasNoNumber Fit image) (new ≡ old)

-- the front of a slice holds the image of the terminal with another initial key
pub record Reloads (image initial iksn old new : List ℕ) : Type 0 where
  pub image_is : IsImage image
  pub initial_is : IsInitial iksn
  pub set : RegisterSet
  pub stored : Stores set old new
  pub reloaded : IsReloaded initial (iksn_of iksn) (set_in image) set

abbrev pub IsReloadRefused : Type 0 → List ℕ → List ℕ → Fault → Type 0
IsReloadRefused Fit image iksn Length = ¬ Fit
IsReloadRefused Fit image iksn NotInitial = Fit × ¬ IsInitial iksn
IsReloadRefused Fit image iksn NotAnImage = Fit × IsInitial iksn × ¬ IsImage image
IsReloadRefused Fit image iksn IksnSpent =
    Fit × IsInitial iksn × IsImage image × IsSpentIksn (iksn_of iksn) (set_in image)
IsReloadRefused Fit image iksn LoadsSpent =
    Fit × IsInitial iksn × IsImage image × (¬ IsSpentIksn (iksn_of iksn) (set_in image))
    × (length (set_in image).past ≡ 8)
IsReloadRefused Fit image iksn _ = ⊥

abbrev pub RegistersReloadAnswers : List ℕ → List ℕ → List ℕ → List ℕ → List ℕ → Answer → Type 0
RegistersReloadAnswers image initial iksn old new =
    let Fit = FitImage initial iksn old in
    Ends (Fit × Reloads image initial iksn old new) (IsReloadRefused Fit image iksn) (new ≡ old)
