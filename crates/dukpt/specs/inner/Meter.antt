-- What counting does to a meter (this project's own).
use Rattle.std.specs.Prelude.{◌≡◌, ◌+◌, ◌==◌, ℕ, List, Option, Some, None, count_by, max}
use Rattle.std.specs.Io.Iter.{u64_saturate}
use Rattle.duk_commands.specs.Progress.{AreTried}
use Rattle.duk_io.specs.Known.{Known}
use Rattle.dukpt.specs.inner.Progress.{items_within, progress_lines}
use Rattle.dukpt.specs.declared.progress.meter.Meter.{Meter}

-- so many items are done, unless more were, and the lines that come to stand are told
pub record HasReached {E : Type 0} (known : E → Known) (old new : Meter E) (done : ℕ) : Type 0 where
  pub pace : new.pace ≡ old.pace
  pub reached : new.done ≡ max old.done (items_within old.pace.total done)
  pub told : AreTried (known old.errors) (known new.errors)
      (progress_lines old.pace.total old.done new.done)

-- so many items more are done
abbrev pub HasAdded : {E : Type 0} → (E → Known) → Meter E → Meter E → ℕ → Type 0
HasAdded known old new count = HasReached known old new (u64_saturate (old.done + count))

-- how many lines end among some bytes, with LF (10)
abbrev pub ends_among : List ℕ → ℕ
ends_among bytes = count_by (λ byte. byte == 10) bytes

-- the lines that end among some bytes are counted, where there is a meter
abbrev pub AreEndsCounted : {E : Type 0} → (E → Known) → Option (Meter E) → Option (Meter E)
    → List ℕ → Type 0
AreEndsCounted known None new bytes = new ≡ None
AreEndsCounted {E} known (Some old) new bytes =
    (counted : Meter E) × (new ≡ Some counted) × HasAdded known old counted (ends_among bytes)
