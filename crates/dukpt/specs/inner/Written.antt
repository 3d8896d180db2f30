-- What writing does to the records that are counted (this project's own).
use Rattle.std.specs.Prelude.{◌≡◌, ◌/◌, ℕ, Option, Some, None}
use Rattle.std.specs.Io.Iter.{u64_saturate}
use Rattle.duk_io.specs.Known.{Known}
use Rattle.dukpt.specs.declared.progress.written.Written.{Written}
use Rattle.dukpt.specs.inner.Meter.{HasReached}

-- the records up to this place are counted, where they are at all
abbrev pub AreRecordsCounted : {E : Type 0} → (E → Known) → Option (Written E)
    → Option (Written E) → ℕ → Type 0
AreRecordsCounted known None new end = new ≡ None
AreRecordsCounted {E} known (Some old) new end =
    (counted : Written E) × (new ≡ Some counted) × (counted.length ≡ old.length)
    × HasReached known old.records counted.records (u64_saturate end / old.length)
