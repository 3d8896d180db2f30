-- What the calls over keys answer (ANSI X9.24-1:2009 annex A). The faults are this project's own.
use Rattle.std.specs.Prelude.{◌≡◌, ◌<◌, ◌≤◌, ◌*◌, ◌/◌, ◌%◌, ℕ, List, [], ◌∷◌, drop, length}
use Rattle.duk_tree.specs.Derivation.{derived_key_of, initial_key_of, transaction_key_of}
use Rattle.duk_tree.specs.Serial.{serial_of_bytes}
use Rattle.duk_calls.specs.Answer.{Answer, Ends, EndsIfFit, HaveLengths, HaveRoom, part_at, with_front}
use Rattle.duk_calls.specs.declared.fault.Fault.{Fault}
use Rattle.duk_calls.specs.declared.fault.Fault.TheVariants.{Length, NotInitial}

-- the ten bytes are those of an initial key serial number: the counter in them is zero
abbrev pub IsInitial : List ℕ → Type 0
IsInitial iksn = (serial_of_bytes iksn).counter ≡ 0

-- the initial key serial number in ten bytes
abbrev pub iksn_of : List ℕ → ℕ
iksn_of bytes = (serial_of_bytes bytes).iksn

-- a slice of 16 bytes, one of 10, and room for 16
abbrev pub FitDerivation : List ℕ → List ℕ → List ℕ → Type 0
FitDerivation key ksn out =
    HaveLengths (key ∷ ksn ∷ []) (16 ∷ 10 ∷ []) × HaveRoom (out ∷ []) (16 ∷ [])

abbrev pub IsInitialKeyRefused : Type 0 → List ℕ → Fault → Type 0
IsInitialKeyRefused Fit iksn Length = ¬ Fit
IsInitialKeyRefused Fit iksn NotInitial = Fit × ¬ IsInitial iksn
IsInitialKeyRefused Fit iksn _ = ⊥

abbrev pub InitialKeyAnswers : List ℕ → List ℕ → List ℕ → List ℕ → Answer → Type 0
InitialKeyAnswers bdk iksn old new =
    let Fit = FitDerivation bdk iksn old in
    Ends (Fit × IsInitial iksn × (new ≡ with_front (initial_key_of bdk (iksn_of iksn)) old))
    (IsInitialKeyRefused Fit iksn) (new ≡ old)

abbrev pub DeriveAnswers : List ℕ → List ℕ → List ℕ → List ℕ → Answer → Type 0
DeriveAnswers bdk ksn old new =
    EndsIfFit (FitDerivation bdk ksn old)
    (new ≡ with_front (derived_key_of bdk (serial_of_bytes ksn)) old) (new ≡ old)

-- a base derivation key, whole key serial numbers, and room for a key of each
pub record FitDerivations (bdk ksns keys : List ℕ) : Type 0 where
  pub bdk_is : length bdk ≡ 16
  pub whole : length ksns % 10 ≡ 0
  pub room : 16 * (length ksns / 10) ≤ length keys

-- at the place of each key serial number stands its transaction key; the bytes behind the keys stay
-- as they were
pub record HoldsKeys (bdk ksns old new : List ℕ) : Type 0 where
  pub each : (i : ℕ) → i < length ksns / 10
      → part_at 16 new i ≡ derived_key_of bdk (serial_of_bytes (part_at 10 ksns i))
  pub behind : drop (16 * (length ksns / 10)) new ≡ drop (16 * (length ksns / 10)) old

abbrev pub DeriveManyAnswers : List ℕ → List ℕ → List ℕ → List ℕ → Answer → Type 0
DeriveManyAnswers bdk ksns old new =
    EndsIfFit (FitDerivations bdk ksns old) (HoldsKeys bdk ksns old new) (new ≡ old)

-- the transaction key of ten bytes, under the initial key of their terminal
abbrev pub key_under : List ℕ → List ℕ → List ℕ
key_under initial ksn =
    let serial = serial_of_bytes ksn in transaction_key_of initial serial.iksn serial.counter

abbrev pub DeriveFromInitialAnswers : List ℕ → List ℕ → List ℕ → List ℕ → Answer → Type 0
DeriveFromInitialAnswers initial ksn old new =
    EndsIfFit (FitDerivation initial ksn old) (new ≡ with_front (key_under initial ksn) old)
    (new ≡ old)

-- a variant of a transaction key, or a key that is made of one
abbrev pub VariantAnswers : (List ℕ → List ℕ) → List ℕ → List ℕ → List ℕ → Answer → Type 0
VariantAnswers variant_of key old new =
    EndsIfFit (HaveLengths (key ∷ []) (16 ∷ []) × HaveRoom (old ∷ []) (16 ∷ []))
    (new ≡ with_front (variant_of key) old) (new ≡ old)
