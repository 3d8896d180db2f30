-- How a call ends: this project's own.
use Rattle.std.specs.Prelude.{◌≡◌, ◌≤◌, ◌*◌, ℕ, List, [], ◌∷◌, ◌++◌, drop, length, map, take, Result, Ok, Err}
use Rattle.duk_calls.specs.Fault.{fault_number}
use Rattle.duk_calls.specs.declared.fault.Fault.{Fault}
use Rattle.duk_calls.specs.declared.fault.Fault.TheVariants.{Length}

-- what a call answers: that it is done, or the fault for which it is refused
abbrev pub Answer : Type 0
Answer = Result (Unit {0}) Fault

-- an answer as a number: zero, or that of the fault
abbrev pub status_of : Answer → ℕ
status_of (Ok _) = 0
status_of (Err fault) = fault_number fault

-- the status is that of an answer of which this holds
pub record Reports (status : ℕ) (Holds : Answer → Type 0) : Type 0 where
  pub answer : Answer
  pub status_is : status ≡ status_of answer
  pub holds : Holds answer

-- the call is done, or it is refused for a fault, and then nothing is written
abbrev pub Ends : Type 0 → (Fault → Type 0) → Type 0 → Answer → Type 0
Ends Done IsRefused Unwritten (Ok _) = Done
Ends Done IsRefused Unwritten (Err fault) = IsRefused fault × Unwritten

-- the only fault is that slices do not fit
abbrev pub IsUnfit : Type 0 → Fault → Type 0
IsUnfit Fit Length = ¬ Fit
IsUnfit Fit _ = ⊥

-- a call that is refused only where slices do not fit
abbrev pub EndsIfFit : Type 0 → Type 0 → Type 0 → Answer → Type 0
EndsIfFit Fit Done Unwritten = Ends (Fit × Done) (IsUnfit Fit) Unwritten

-- slices fit: they have these lengths
abbrev pub HaveLengths : List (List ℕ) → List ℕ → Type 0
HaveLengths slices lengths = map length slices ≡ lengths

-- slices have room: they have at least these lengths
abbrev pub HaveRoom : List (List ℕ) → List ℕ → Type 0
HaveRoom [] [] = Unit {0}
HaveRoom (slice ∷ slices) (size ∷ sizes) = (size ≤ length slice) × HaveRoom slices sizes
HaveRoom _ _ = ⊥

-- a slice in whose front a call writes, and the number that says how many bytes it wrote
pub record Buffer : Type 0 where
  pub bytes : List ℕ
  pub count : ℕ

abbrev pub buffer : List ℕ → ℕ → Buffer
buffer bytes count = record { bytes = bytes; count = count }

-- the bytes of a slice with these in its front; those after them stay as they were
abbrev pub with_front : List ℕ → List ℕ → List ℕ
with_front front bytes = front ++ drop (length front) bytes

-- a buffer in whose front these were written
abbrev pub filled : List ℕ → Buffer → Buffer
filled front old = buffer (with_front front old.bytes) (length front)

-- what stands at a place of a slice in which each thing has so many bytes
abbrev pub part_at : ℕ → List ℕ → ℕ → List ℕ
part_at size bytes i = take size (drop (size * i) bytes)
