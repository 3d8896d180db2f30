-- The list of a log, and that of its records as a format's.
use Rattle.std.proofs.Common.{◌≡◌, ◌↔◌, inl, inr, ℕ, zero, suc, ◌+◌, ◌*◌, ◌<◌, ◌≤◌, List, [], ◌∷◌, ◌++◌, length, take, drop, replicate, refl, sym, ◌∙◌, ap, subst, arith, length-append, length-drop}
use Rattle.std.proofs.lemmas.Bool.{cases_eq}
use Rattle.std.proofs.lemmas.List.{drop_at, length-take, take_at}
use Rattle.duk_store.specs.Disk.{DiskState}
use Rattle.duk_store.specs.DiskLog.{IsSoundLogDisk, MayFindNumbers}
use Rattle.duk_store.specs.Log.{Numbers}
use Rattle.duk_store.specs.RecordFormat.{HasRecordNumber, IsLog, IsLogSize, KeepsNumbers, number_in, numbers_in}
use Rattle.duk_tree.specs.Serial.{Serial, serial_bytes, serial_of_bytes}
use Rattle.duk_store.specs.LogFormat.{SaysNumber, log_format}
use Rattle.duk_store.specs.Records.{AreClosedFrom, AreKeptFrom, KeepsItems, after_gate, record_at}

-- what is written of a number says it
pub says_number : (identity place followers : ℕ) (number : Serial) (contents : List ℕ) → length (serial_bytes number) ≡ 10 → serial_of_bytes (serial_bytes number) ≡ number → followers + 1 ≤ 1 → contents ≡ serial_bytes number ++ replicate 5 0
    → SaysNumber identity place followers number contents
says_number identity place followers number contents ten found alone is = record {
  alone = omega (arith, alone);
  whole = ap length is ∙ length-append (serial_bytes number) (replicate 5 0) ∙ omega (arith, ten);
  number_is = sym (ap serial_of_bytes (ap (take 10) is ∙ take_at (serial_bytes number) (replicate 5 0) 10 ten) ∙ found);
  zeros = ap (drop 10) is ∙ drop_at (serial_bytes number) (replicate 5 0) 10 ten;
}

-- the numbers of so many records from a place on
abbrev numbers_from : ℕ → ℕ → List ℕ → Numbers
numbers_from place zero bytes = []
numbers_from place (suc count) bytes = number_in (record_at 16 place bytes) ∷ numbers_from (place + 1) count bytes

one_last : (count place : ℕ) (bytes : List ℕ) → numbers_from place (suc count) bytes ≡ numbers_from place count bytes ++ number_in (record_at 16 (place + count) bytes) ∷ []
one_last zero place bytes = let here : place ≡ place + 0 = omega arith in ap (λ (at : ℕ). number_in (record_at 16 at bytes) ∷ []) here
one_last (suc count) place bytes =
    let there : place + 1 + count ≡ place + suc count = omega arith in
    ap (λ (l : Numbers). number_in (record_at 16 place bytes) ∷ l)
    (one_last count (place + 1) bytes ∙ ap (λ (at : ℕ). numbers_from (place + 1) count bytes ++ number_in (record_at 16 at bytes) ∷ []) there)

all_numbers : (count : ℕ) (bytes : List ℕ) → numbers_in count bytes ≡ numbers_from 0 count bytes
all_numbers zero bytes = refl
all_numbers (suc count) bytes =
    let here : 0 + count ≡ count = omega arith in
    ap (λ (l : Numbers). l ++ number_in (record_at 16 count bytes) ∷ []) (all_numbers count bytes)
    ∙ ap (λ (at : ℕ). numbers_from 0 count bytes ++ number_in (record_at 16 at bytes) ∷ []) (sym here)
    ∙ sym (one_last count 0 bytes)

-- a record with contents is inside the bytes, and is whole there
record_inside : (place : ℕ) (bytes : List ℕ) → length (after_gate (record_at 16 place bytes)) ≡ 15 → 16 * place + 16 ≤ length bytes
record_inside place bytes whole =
    omega (arith, whole, length-drop 1 (record_at 16 place bytes), length-take 16 (drop (16 * place) bytes), length-drop (16 * place) bytes)

whole_inside : (place : ℕ) (bytes : List ℕ) → 16 * place + 16 ≤ length bytes → length (after_gate (record_at 16 place bytes)) ≡ 15
whole_inside place bytes inside =
    length-drop 1 (record_at 16 place bytes) ∙ omega (arith, inside, length-take 16 (drop (16 * place) bytes), length-drop (16 * place) bytes)

module _ (bytes : List ℕ) where
  is_log : (numbers : Numbers) (place : ℕ) → AreKeptFrom log_format numbers 0 place bytes
      → (numbers ≡ numbers_from place (length numbers) bytes) × ((at : ℕ) → place ≤ at → at < place + length numbers → HasRecordNumber (record_at 16 at bytes) × (16 * at + 16 ≤ length bytes))
      × AreClosedFrom 16 (place + length numbers) bytes
  is_log [] place are = (refl, (λ at from to. absurd (omega (arith, from, to))), (λ later past. are later (omega (arith, past))))
  is_log (number ∷ numbers) place are =
      let rest = is_log numbers (place + 1) (subst (λ (n : ℕ). AreKeptFrom log_format numbers n (place + 1) bytes) are.2.alone are.3) in
      let count : length (number ∷ numbers) ≡ suc (length numbers) = refl in (
        ap (λ (n : Serial). n ∷ numbers) are.2.number_is ∙ ap (λ (l : Numbers). number_in (record_at 16 place bytes) ∷ l) rest.0,
        each rest.1,
        (λ later past. rest.2 later (omega (arith, past))),
      )
    where
      each : ((at : ℕ) → place + 1 ≤ at → at < place + 1 + length numbers → HasRecordNumber (record_at 16 at bytes) × (16 * at + 16 ≤ length bytes))
          → (at : ℕ) → place ≤ at → at < place + length (number ∷ numbers) → HasRecordNumber (record_at 16 at bytes) × (16 * at + 16 ≤ length bytes)
      each later at from to = elim (cases_eq at place) [
        | inl is ↦ subst (λ (n : ℕ). HasRecordNumber (record_at 16 n bytes) × (16 * n + 16 ≤ length bytes)) (sym is) (record { is_open = are.1; zeros = are.2.zeros }, record_inside place bytes are.2.whole)
        | inr other ↦ later at (omega (arith, from, other)) (omega (arith, to))
      ]

  pub kept_is_log : (numbers : Numbers) → KeepsItems log_format bytes numbers → KeepsNumbers bytes numbers
  kept_is_log numbers keeps =
      let log = is_log numbers 0 keeps.listed in (
        length numbers,
        record { fits = fits (length numbers) log.1; kept = λ place less. (log.1 place (omega arith) (omega (arith, less))).0; closed = λ place past. log.2 place (omega (arith, past)) },
        log.0 ∙ sym (all_numbers (length numbers) bytes),
      )
    where
      fits : (count : ℕ) → ((at : ℕ) → 0 ≤ at → at < 0 + count → HasRecordNumber (record_at 16 at bytes) × (16 * at + 16 ≤ length bytes)) → 16 * count ≤ length bytes
      fits zero each = omega arith
      fits (suc count) each = omega (arith, (each count (omega arith) (omega arith)).1)

  kept_from : (total : ℕ) → IsLog total bytes → (count place : ℕ) → place + count ≡ total → AreKeptFrom log_format (numbers_from place count bytes) 0 place bytes
  kept_from total log zero place sum = λ later past. log.closed later (omega (arith, sum, past))
  kept_from total log (suc count) place sum =
      let has = log.kept place (omega (arith, sum)) in
      let inside : 16 * place + 16 ≤ length bytes = omega (arith, log.fits, sum) in
      (0, has.is_open, record { alone = refl; whole = whole_inside place bytes inside; number_is = refl; zeros = has.zeros }, kept_from total log count (place + 1) (omega (arith, sum)))

  pub log_is_kept : (numbers : Numbers) → KeepsNumbers bytes numbers → KeepsItems log_format bytes numbers
  log_is_kept numbers keeps = record {
    header = λ some. absurd (omega (arith, some));
    listed = subst (λ (l : Numbers). AreKeptFrom log_format l 0 0 bytes) (sym (keeps.2 ∙ all_numbers keeps.0 bytes)) (kept_from keeps.0 keeps.1 keeps.0 0 (omega arith));
  }

-- and so what a disk may keep, whatever a stop leaves of it
module _ (disk : DiskState) where
  pub log_finds : (numbers : Numbers) → MayFindNumbers disk numbers ↔ ((bytes : List ℕ) × disk.may_leave bytes × KeepsNumbers bytes numbers)
  log_finds numbers = (
    (λ finds. (finds.0, finds.1, kept_is_log finds.0 numbers finds.2)),
    (λ finds. (finds.0, finds.1, log_is_kept finds.0 numbers finds.2)),
  )

  pub log_keeps : IsSoundLogDisk disk → (bytes : List ℕ) → disk.may_leave bytes → (numbers : Numbers) × KeepsNumbers bytes numbers
  log_keeps sound bytes left = let kept = sound.each_keeps bytes left in (kept.0, kept_is_log bytes kept.0 kept.1)

  pub log_sound : IsLogSize disk.size → ((bytes : List ℕ) → disk.may_leave bytes → (numbers : Numbers) × KeepsNumbers bytes numbers) → IsSoundLogDisk disk
  log_sound size each = record { size = size; each_keeps = λ bytes left. let kept = each bytes left in (kept.0, log_is_kept bytes kept.0 kept.1) }
