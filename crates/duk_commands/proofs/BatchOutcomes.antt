-- What follows where a call succeeds or fails.
use Rattle.std.proofs.Common.{◌≡◌, ℕ, true, false, List, inl, inr, Result, Ok, Err, OnErr, OnOk}
use Rattle.std.specs.Result.{is_err}
use Rattle.duk_io.specs.Known.{Known}
use Rattle.duk_io.specs.Sink.{IsCut, IsTried, IsWritten}

-- where it failed, of a result that is handed on
pub on_err : {T E : Type 0} (result : Result T E) (P : Type 0) → P → OnErr result P
on_err (Ok done) P fact = tt
on_err (Err failed) P fact = fact

-- by the test
pub of_err : {T E : Type 0} (result : Result T E) (P : Type 0) → is_err result ≡ true → OnErr result P → P
of_err (Ok done) P is fact = absurd (cc is)
of_err (Err failed) P is fact = fact

pub of_ok : {T E : Type 0} (result : Result T E) (P : Type 0) → is_err result ≡ false → OnOk result P → P
of_ok (Ok done) P is fact = fact
of_ok (Err failed) P is fact = absurd (cc is)

-- a text that was written or cut was tried
pub tried : {T E : Type 0} (result : Result T E) (before now : Known) (text : List ℕ) → OnOk result (IsWritten before now text)
    → OnErr result (IsCut before now text) → IsTried before now text
tried (Ok done) before now text written cut = inl written
tried (Err failed) before now text written cut = inr cut
