-- The records of a log, one after another.
use Rattle.std.proofs.Common.{◌≡◌, ◌+◌, ◌*◌, ◌/◌, ◌≤◌, ◌∷◌, ◌++◌, [], inl, inr, ℕ, zero, suc, List, Result, Ok, Err, IfErr, length, take, refl, ap, sym, subst, ◌∙◌, length-append, arith}
use Rattle.std.proofs.lemmas.Bool.{cases_lt}
use Rattle.std.proofs.lemmas.List.{drop_all}
use Rattle.duk_store.specs.RecordFormat.{HasRecordNumber, IsLog, IsLogSize, KeepsNumbers, number_in, numbers_in, record_at}
use Rattle.duk_store.specs.SlotFormat.{IsOpen}
use Rattle.duk_tree.specs.Serial.{Serial}
use Rattle.duk_show.specs.Log.{BeginsLog, IsLogRefused, IsNoLog, IsSomeLog, IsWrongRecord}
use Rattle.duk_show.specs.declared.fault.ShowFault.{ShowFault}
use Rattle.duk_show.specs.declared.fault.ShowFault.TheVariants.{LogRefused, OutOfMemory}
use Rattle.duk_show.specs.inner.Log.{AreFirstNumbers, IsDamagedLog, IsNextRecord, IsNumberRefused, IsRecordRefused}

-- no log has a record that is wrong
no_log : (bytes : List ℕ) (place count : ℕ) → BeginsLog place count bytes → IsWrongRecord place count bytes
    → (numbers : List Serial) → IsLogSize (length bytes) → ¬ KeepsNumbers bytes numbers
no_log bytes place count begins wrong numbers size keeps =
    let is_log : IsLog keeps.0 bytes = keeps.1 in
    elim (cases_lt place keeps.0) [
      | inl kept ↦ elim wrong.why [
        | inl following ↦ begins.closed count (omega arith) following (is_log.kept count (omega (arith, following, kept))).is_open
        | inr torn ↦ torn (is_log.kept place kept).zeros
      ]
      | inr past ↦ is_log.closed place past wrong.is_open
    ]

-- why a record is refused is why the bytes are
pub refused : {T : Type 0} (bytes : List ℕ) (place : ℕ) (numbers : List Serial) (read : Result T ShowFault) → AreFirstNumbers place bytes numbers
    → IfErr read (IsRecordRefused (record_at place bytes) place (length numbers)) → IfErr read (IsDamagedLog bytes)
refused bytes place numbers (Ok done) first why = tt
refused bytes place numbers (Err (LogRefused other)) first why =
    let wrong : IsWrongRecord place (length numbers) bytes = record { is_open = why.1; why = why.2 } in
    subst (λ (n : ℕ). IsNoLog bytes n) (sym why.0)
    (record { damaged = record { count = length numbers; begins = first.begins; wrong = inr wrong }; no_numbers = no_log bytes place (length numbers) first.begins wrong })
refused bytes place numbers (Err OutOfMemory) first why = tt
refused bytes place numbers (Err fault) first why = absurd why

-- after a closed record
closed_next : (bytes : List ℕ) (place count : ℕ) → BeginsLog place count bytes → ¬ IsOpen (record_at place bytes) → BeginsLog (place + 1) count bytes
closed_next bytes place count begins closed = record {
  within = omega (arith, begins.within);
  kept = begins.kept;
  closed = λ p least below. elim (cases_lt p place) [
    | inl before ↦ begins.closed p least before
    | inr after ↦ subst (λ (n : ℕ). ¬ IsOpen (record_at n bytes)) (omega arith) closed
  ];
}

-- after one with a number
number_next : (bytes : List ℕ) (place : ℕ) → BeginsLog place place bytes → HasRecordNumber (record_at place bytes) → BeginsLog (place + 1) (place + 1) bytes
number_next bytes place begins has = record {
  within = omega arith;
  kept = λ p below. elim (cases_lt p place) [
    | inl before ↦ begins.kept p before
    | inr after ↦ subst (λ (n : ℕ). HasRecordNumber (record_at n bytes)) (omega arith) has
  ];
  closed = λ p least below. absurd (omega arith);
}

pub next : (bytes : List ℕ) (place : ℕ) (old new : List Serial) → AreFirstNumbers place bytes old → IsNextRecord (record_at place bytes) place old new
    → AreFirstNumbers (place + 1) bytes new
next bytes place old new first (inl closed) =
    subst (AreFirstNumbers (place + 1) bytes) (sym closed.1)
    (record { begins = closed_next bytes place (length old) first.begins closed.0; numbers_are = first.numbers_are })
next bytes place old new first (inr has) =
    let number = number_in (record_at place bytes) in
    let size : length new ≡ suc place = omega (arith, ap length has.2, length-append old (number ∷ []), has.1) in
    let begins : BeginsLog place place bytes = subst (λ (n : ℕ). BeginsLog place n bytes) has.1 first.begins in
    let more : BeginsLog (place + 1) (place + 1) bytes = number_next bytes place begins has.0 in
    record {
      begins = subst (λ (n : ℕ). BeginsLog (place + 1) n bytes) (omega (arith, size)) more;
      numbers_are = has.2
          ∙ ap (λ (front : List Serial). front ++ number ∷ []) (first.numbers_are ∙ ap (λ (n : ℕ). numbers_in n bytes) has.1)
          ∙ ap (λ (n : ℕ). numbers_in n bytes) (sym size);
    }

-- after the last record there is nothing
past_end : (place : ℕ) (bytes : List ℕ) → length bytes ≤ 16 * place → ¬ IsOpen (record_at place bytes)
past_end place bytes short is_open =
    let none : record_at place bytes ≡ [] = ap (λ (l : List ℕ). take 16 l) (drop_all (16 * place) bytes short) in
    absurd (omega (arith, subst (λ (l : List ℕ). IsOpen l) none is_open))

-- the numbers of all records are those of the log
pub whole : (bytes : List ℕ) (numbers : List Serial) → IsLogSize (length bytes) → AreFirstNumbers (length bytes / 16) bytes numbers → KeepsNumbers bytes numbers
whole bytes numbers size first =
    let fits : length numbers ≤ length bytes / 16 = first.begins.within in (
      length numbers,
      record {
        fits = omega (arith, fits);
        kept = first.begins.kept;
        closed = λ place past. elim (cases_lt place (length bytes / 16)) [
          | inl inside ↦ first.begins.closed place past inside
          | inr following ↦ past_end place bytes (omega (arith, size.2, following))
        ];
      },
      first.numbers_are,
    )

numbers_length : (count : ℕ) (bytes : List ℕ) → length (numbers_in count bytes) ≡ count
numbers_length zero bytes = refl
numbers_length (suc count) bytes =
    let more = length-append (numbers_in count bytes) (number_in (record_at count bytes) ∷ []) in
    omega (arith, more, numbers_length count bytes)

-- where all records are those of a log, the bytes are
pub some_log : (bytes : List ℕ) (count : ℕ) → IsLogSize (length bytes) → BeginsLog (length bytes / 16) count bytes → IsSomeLog bytes
some_log bytes count size begins =
    let numbers : List Serial = numbers_in count bytes in
    let same : length numbers ≡ count = numbers_length count bytes in
    let first : AreFirstNumbers (length bytes / 16) bytes numbers = record {
      begins = subst (λ (n : ℕ). BeginsLog (length bytes / 16) n bytes) (sym same) begins;
      numbers_are = ap (λ (n : ℕ). numbers_in n bytes) (sym same);
    } in
    record { numbers = numbers; size = size; keeps = whole bytes numbers size first }

-- bytes whose numbers are not of one log are refused
number_refused : (bytes : List ℕ) (numbers : List Serial) (why : ShowFault) → IsLogSize (length bytes) → KeepsNumbers bytes numbers
    → IsNumberRefused numbers why → IsLogRefused bytes why
number_refused bytes numbers (LogRefused place) size keeps cause =
    inr (record { numbers = numbers; size = size; keeps = keeps; first = cause })
number_refused bytes numbers OutOfMemory size keeps cause = tt
number_refused bytes numbers fault size keeps cause = absurd cause

pub numbers_refused : {T : Type 0} (bytes : List ℕ) (numbers : List Serial) (tested : Result T ShowFault) → IsLogSize (length bytes) → KeepsNumbers bytes numbers
    → IfErr tested (IsNumberRefused numbers) → IfErr tested (IsLogRefused bytes)
numbers_refused bytes numbers (Ok done) size keeps why = tt
numbers_refused bytes numbers (Err why) size keeps cause = number_refused bytes numbers why size keeps cause
