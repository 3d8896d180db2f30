-- What writing does to a writer (this project's own).
use Rattle.std.specs.Prelude.{◌≡◌, ◌<◌, ◌⊎◌, ◌++◌, ℕ, List, ⊤, Option, Some, None, length, take, MatchResult, Result}
use Rattle.std.specs.Io.KnownBytes.{Appends, Keeps}
use Rattle.duk_io.specs.Known.{Known, Rose, Stayed}

-- a write counts as a failure where it fails or takes no byte, and nowhere else
abbrev pub CountsFailure : {E : Type 0} → Known → Known → Result ℕ E → Type 0
CountsFailure old new result = MatchResult result
    (λ taken. (taken ≡ 0 → Rose old.failures new.failures)
    × (0 < taken → Stayed old.failures new.failures))
    (λ _. Rose old.failures new.failures)

-- nothing was written, and nothing failed
pub record IsUntouched (old new : Known) : Type 0 where
  pub bytes : Keeps old.contents new.contents
  pub unfailed : Stayed old.failures new.failures

-- the whole text was written, and nothing failed
pub record IsWritten (old new : Known) (text : List ℕ) : Type 0 where
  pub bytes : Appends old.contents new.contents text
  pub unfailed : Stayed old.failures new.failures

-- a write failed or took no byte where this many bytes of the text were written, not all of them
pub record IsCutAt (old new : Known) (text : List ℕ) (count : ℕ) : Type 0 where
  pub short : count < length text
  pub bytes : Appends old.contents new.contents (take count text)
  pub failed : Rose old.failures new.failures

-- a write failed or took no byte, and a prefix of the text was written
abbrev pub IsCut : Known → Known → List ℕ → Type 0
IsCut old new text = (count : ℕ) × IsCutAt old new text count

-- the text was written, but for what a failed write cut off
abbrev pub IsTried : Known → Known → List ℕ → Type 0
IsTried old new text = IsWritten old new text ⊎ IsCut old new text

-- the front of what was held back was written, and the rest is held back still
pub record IsDrained (held left : List ℕ) (old new : Known) : Type 0 where
  pub front : List ℕ
  pub split : held ≡ front ++ left
  pub written : IsWritten old new front

-- a writer holds nothing back, where it makes known how many bytes it does
abbrev pub IsHandedOn : Option ℕ → Type 0
IsHandedOn None = ⊤
IsHandedOn (Some count) = count ≡ 0
