-- The identity that the header gives a disk stays while the header does.
use Rattle.std.proofs.Common.{◌≡◌, ℕ, zero, suc, ◌*◌, ◌≤◌, ◌++◌, List, length, take, drop, sym, ◌∙◌, ap, arith}
use Rattle.std.proofs.lemmas.List.{take-append-le}
use Rattle.duk_store.specs.Disk.{DiskState, PreservesBytes, PreservesDisk}
use Rattle.duk_store.specs.Format.{FormatMeaning, IsFormat}
use Rattle.duk_store.specs.Records.{identity_in, record_at}
use Rattle.duk_store.specs.inner.RecordSteps.{HasIdentity}
use Rattle.duk_store.proofs.Places.{no_later}

-- the first record, as the bytes in front
pub first_record : (long : ℕ) (bytes : List ℕ) → record_at long 0 bytes ≡ take long bytes
first_record long bytes = let none : long * 0 ≡ 0 = omega arith in ap (λ (n : ℕ). take long (drop n bytes)) none

-- so many headers, none or one, are the same where the first record is
same_headers : (long headers : ℕ) (x y : List ℕ) → headers ≤ 1 → (1 ≤ headers → record_at long 0 y ≡ record_at long 0 x) → take (long * headers) y ≡ take (long * headers) x
same_headers long zero x y most same =
    let none : long * 0 ≡ 0 = omega arith in
    ap (λ (n : ℕ). take n y) none ∙ sym (ap (λ (n : ℕ). take n x) none)
same_headers long (suc zero) x y most same =
    let one : long * 1 ≡ long = omega arith in
    ap (λ (n : ℕ). take n y) one ∙ sym (first_record long y) ∙ same (omega arith) ∙ first_record long x ∙ sym (ap (λ (n : ℕ). take n x) one)
same_headers long (suc (suc n)) x y most same = absurd (omega (arith, most))

module _ {I : Type 0} (format : FormatMeaning I) where
  pub same_identity : IsFormat format → (x y : List ℕ) → (1 ≤ format.headers → record_at format.record_length 0 y ≡ record_at format.record_length 0 x) → identity_in format y ≡ identity_in format x
  same_identity laws x y same = ap format.identity (same_headers format.record_length format.headers x y laws.one_header same)

  -- bytes behind change nothing
  pub identity_behind : IsFormat format → (bytes rest : List ℕ) → format.record_length ≤ length bytes → identity_in format (bytes ++ rest) ≡ identity_in format bytes
  identity_behind laws bytes rest some =
      let most = no_later format.record_length format.headers 1 laws.one_header in
      ap format.identity (take-append-le (format.record_length * format.headers) bytes rest (omega (arith, most, some)))

  pub identity_stays : (identity : ℕ) (old new : DiskState) → PreservesDisk old new → PreservesBytes old new → HasIdentity format identity old → HasIdentity format identity new
  identity_stays identity old new nature same has h = ap (λ (bytes : List ℕ). identity_in format bytes) same.reads ∙ has (nature.honest.1 h)
