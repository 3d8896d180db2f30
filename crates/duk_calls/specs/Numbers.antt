-- What the calls over key serial numbers answer (ANSI X9.24-1:2009 annex A). The faults are this
-- project's own.
use Rattle.std.specs.Prelude.{◌≡◌, ℕ, List, [], ◌∷◌, ⊤}
use Rattle.duk_tree.specs.Next.{IsLast, IsNextUsable}
use Rattle.duk_tree.specs.Path.{IsUsable}
use Rattle.duk_tree.specs.Serial.{serial_bytes, serial_of_bytes}
use Rattle.duk_calls.specs.Answer.{Answer, Ends, HaveLengths, HaveRoom, with_front}
use Rattle.duk_calls.specs.declared.fault.Fault.{Fault}
use Rattle.duk_calls.specs.declared.fault.Fault.TheVariants.{Length, NotUsable, Spent}

-- the counter in ten bytes
abbrev pub counter_of : List ℕ → ℕ
counter_of ksn = (serial_of_bytes ksn).counter

abbrev pub IsNotUsable : Type 0 → List ℕ → Fault → Type 0
IsNotUsable Fit ksn Length = ¬ Fit
IsNotUsable Fit ksn NotUsable = Fit × ¬ IsUsable (counter_of ksn)
IsNotUsable Fit ksn _ = ⊥

abbrev pub CheckUsableAnswers : List ℕ → Answer → Type 0
CheckUsableAnswers ksn =
    let Fit = HaveLengths (ksn ∷ []) (10 ∷ []) in
    Ends (Fit × IsUsable (counter_of ksn)) (IsNotUsable Fit ksn) ⊤

-- the front of a slice holds the ten bytes of the next key serial number of a terminal
pub record HoldsNextNumber (ksn old new : List ℕ) : Type 0 where
  pub counter : ℕ
  pub is_next : IsNextUsable (counter_of ksn) counter
  pub written : new
      ≡ with_front
      (serial_bytes (record { iksn = (serial_of_bytes ksn).iksn; counter = counter }))
      old

abbrev pub HasNoNext : Type 0 → List ℕ → Fault → Type 0
HasNoNext Fit ksn Length = ¬ Fit
HasNoNext Fit ksn Spent = Fit × IsLast (counter_of ksn)
HasNoNext Fit ksn _ = ⊥

abbrev pub NextNumberAnswers : List ℕ → List ℕ → List ℕ → Answer → Type 0
NextNumberAnswers ksn old new =
    let Fit = HaveLengths (ksn ∷ []) (10 ∷ []) × HaveRoom (old ∷ []) (10 ∷ []) in
    Ends (Fit × HoldsNextNumber ksn old new) (HasNoNext Fit ksn) (new ≡ old)
