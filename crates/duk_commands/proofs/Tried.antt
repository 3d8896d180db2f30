-- What a write leaves, however it ends.
use Rattle.std.proofs.Common.{◌≡◌, inl, inr, sym, true, false, List, ℕ}
use Rattle.std.specs.Prelude.{Result, Ok, Err, OnOk, OnErr, is_err}
use Rattle.duk_io.specs.Known.{Known}
use Rattle.duk_io.specs.Sink.{IsCut, IsTried, IsWritten}

pub tried : {T E : Type 0} (result : Result T E) (old new : Known) (text : List ℕ) → OnOk result (IsWritten old new text) → OnErr result (IsCut old new text) → IsTried old new text
tried (Ok done) old new text written cut = inl written
tried (Err why) old new text written cut = inr cut

no_contradiction : true ≡ false → ⊥
no_contradiction same = cc

-- what holds of a result that is no error
pub not_failed : {T E : Type 0} (result : Result T E) {P : Type 0} → is_err result ≡ false → OnOk result P → P
not_failed (Ok done) is holds = holds
not_failed (Err why) is holds = absurd (no_contradiction is)

-- what holds of one that is an error
pub failed : {T E : Type 0} (result : Result T E) {P : Type 0} → is_err result ≡ true → OnErr result P → P
failed (Ok done) is holds = absurd (no_contradiction (sym is))
failed (Err why) is holds = holds
