-- The bytes of a ledger that is copied: one of version 2 leaves such.
use Rattle.std.proofs.Common.{◌≡◌, ◌∙◌, ◌+◌, ◌*◌, ◌<◌, ◌≤◌, ◌^◌, ℕ, zero, suc, List, [], ◌∷◌, ap, arith, drop, get_or, inr, length, refl, replicate, subst, sym}
use Rattle.duk_journal.specs.Header.{header_of, said_in_front}
use Rattle.duk_journal_copy.specs.declared.version.Version.TheVariants.{Two}
use Rattle.duk_ledger.specs.Issued.{Issues}
use Rattle.duk_ledger.specs.IssuedFormat.{issued_format, ledger_kind}
use Rattle.duk_ledger.specs.Ledger.{KeepsIssues}
use Rattle.duk_service.specs.LeftRecords.{IsOpen, IsZero, record_at}
use Rattle.duk_service.specs.OwnFiles.{IsLedgerOf}
use Rattle.duk_service.specs.declared.left_records.Layout.TheVariants.{Ledger}
use Rattle.duk_service.specs.inner.GrowJournal.{AreZerosBehind}
use Rattle.duk_store.specs.Records.{AreKeptFrom}
use Rattle.duk_service.proofs.Fronts.{behind_zero, zeros_of}
use Rattle.duk_service.proofs.LeftRecords.{closed_behind, zero_gate}

header_opens : (identity : ℕ) → get_or (header_of ledger_kind identity) 0 0 ≡ 1
unfolding said_in_front
header_opens identity = refl

-- each record that is kept is open
kept_open : (issues : Issues) (place : ℕ) (bytes : List ℕ) → AreKeptFrom issued_format issues 0 place bytes → (k : ℕ) → k < length issues
    → IsOpen (record_at (Ledger Two) (place + k) bytes)
kept_open [] place bytes kept k less = absurd (omega (arith, less))
kept_open (issue ∷ later) place bytes kept zero less =
    let here : place ≡ place + zero = omega arith in
    subst (λ (n : ℕ). IsOpen (record_at (Ledger Two) n bytes)) here kept.1
kept_open (issue ∷ later) place bytes kept (suc k) less =
    let next : place + 1 + k ≡ place + suc k = omega arith in
    let rest : AreKeptFrom issued_format later 0 (place + 1) bytes = subst (λ (n : ℕ). AreKeptFrom issued_format later n (place + 1) bytes) kept.2.alone kept.3 in
    subst (λ (n : ℕ). IsOpen (record_at (Ledger Two) n bytes)) next (kept_open later (place + 1) bytes rest k (omega (arith, less)))

module _ (identity count records size : ℕ) (bytes : List ℕ) (issues : Issues) (fits : identity < 2 ^ 64) (whole : length bytes ≡ 32 * (1 + records))
    (header : record_at (Ledger Two) 0 bytes ≡ header_of ledger_kind identity) (behind : drop (32 * (1 + count)) bytes ≡ replicate size 0)
    (keeps : KeepsIssues bytes issues) (counted : length issues ≡ count) where
  all_open : (k : ℕ) → k ≤ count → IsOpen (record_at (Ledger Two) k bytes)
  all_open zero less = ap (λ (l : List ℕ). get_or l 0 0) header ∙ header_opens identity
  all_open (suc k) less =
      let next : 1 + k ≡ suc k = omega arith in
      subst (λ (n : ℕ). IsOpen (record_at (Ledger Two) n bytes)) next (kept_open issues 1 bytes keeps.listed k (omega (arith, less, counted)))

  zeros : AreZerosBehind (Ledger Two) (1 + count) bytes
  zeros = subst (λ (l : List ℕ). IsZero l) (sym behind) (zeros_of size)

  zero_from : (place : ℕ) → 1 + count ≤ place → IsZero (record_at (Ledger Two) place bytes)
  zero_from place past = behind_zero (Ledger Two) (1 + count) place bytes zeros past

  pub own_ledger : IsLedgerOf Two bytes
  own_ledger = record {
    whole = (1 + records, omega arith, whole);
    front = (identity, fits, header);
    kept = count + 1;
    groups = inr (count, all_open count (omega arith), closed_behind (Ledger Two) (count + 1) bytes (λ place past. zero_from place (omega (arith, past))), omega arith);
    gates = λ place past. zero_gate (record_at (Ledger Two) place bytes) (zero_from place (omega (arith, past)));
    zeros = λ place past. zero_from place (omega (arith, past));
    lone = λ one none. absurd (let never : ⊥ = omega (arith, none) in never);
  }
