-- The numbers of a log, read one after the other, and the records of a ledger that are written with them.
use Rattle.std.proofs.Common.{◌≡◌, ◌∙◌, inl, inr, ◌+◌, ◌*◌, ◌<◌, ◌≤◌, ◌++◌, ℕ, List, [], Option, None, Some, ap, arith, length, refl, subst, sym}
use Rattle.std.specs.Prelude.{IfNone, slice_get}
use Rattle.std.proofs.lemmas.Bool.{cases_lt}
use Rattle.std.proofs.lemmas.List.{length-append, take_all}
use Rattle.std.proofs.lemmas.Option.{get_or_from_slice_get, same_Some, slice_get_within}
use Rattle.duk_journal.specs.RecordFormat.{record_at}
use Rattle.duk_journal_copy.specs.Ledger.{AreInitial, issue_of}
use Rattle.duk_journal_copy.specs.inner.Ledger.{AreInitialBelow, AreIssuesOf, AreNumbersCopied, HasNoIssue, HasNumber, IsInitialAt, IsIssueIn, IsIssueRecord, IsIssueWritten}
use Rattle.duk_ledger.specs.declared.issued.Issued.{Issued}
use Rattle.duk_store.specs.Disk.{DiskState, written}
use Rattle.duk_store.specs.Log.{Numbers}
use Rattle.duk_store.specs.LogFormat.{SaysNumber}
use Rattle.duk_store.specs.Records.{after_gate}
use Rattle.duk_store.specs.StoreState.{FindsOnly, PreservesNature, Stays, StoreState}
use Rattle.duk_tree.specs.Serial.{Serial}
use Rattle.duk_journal_copy.proofs.CopiedRecords.{record_behind, record_in_front}
use Rattle.duk_journal_copy.proofs.WrittenDisks.{keeps_none, keeps_on}
use Rattle.duk_journal_copy.proofs.WrittenLists.{written_behind, written_none}

-- what is said of an answer that is none
pub always_none : {T : Type 0} (P : Type 0) (answer : Option T) → P → IfNone answer P
always_none P None says = says
always_none P (Some value) says = tt

-- ---- calls of a log in turn

pub nature_none : (log : StoreState Numbers) → PreservesNature log log
nature_none log = record { honest = ((λ h. h), (λ h. h)); sound = λ h sound. sound; calm = λ calm. calm }

pub nature_then : (old mid new : StoreState Numbers) → PreservesNature old mid → PreservesNature mid new → PreservesNature old new
nature_then old mid new one two = record {
  honest = ((λ h. two.honest.0 (one.honest.0 h)), (λ h. one.honest.1 (two.honest.1 h)));
  sound = λ h sound. two.sound (one.honest.0 h) (one.sound h sound);
  calm = λ calm. two.calm (one.calm calm);
}

pub log_stays_none : (log : StoreState Numbers) → Stays log log
log_stays_none log = record { nature = nature_none log; no_failure = refl; running = refl; found = λ h numbers. ((λ finds. finds), (λ finds. finds)) }

pub log_stays_then : (old mid new : StoreState Numbers) → Stays old mid → Stays mid new → Stays old new
log_stays_then old mid new one two = record {
  nature = nature_then old mid new one.nature two.nature;
  no_failure = two.no_failure ∙ one.no_failure;
  running = two.running ∙ one.running;
  found = λ h numbers. (
    (λ finds. (one.found h numbers).0 ((two.found (one.nature.honest.0 h) numbers).0 finds)),
    (λ finds. (two.found (one.nature.honest.0 h) numbers).1 ((one.found h numbers).1 finds)),
  );
}

-- ---- a number that is read

-- it stands at a place of the list, and in the record
record IsNumberRead (numbers : Numbers) (place : ℕ) (bytes : List ℕ) : Type 0 where
  pub number : Serial
  pub stands : slice_get numbers place ≡ Some number
  pub has : HasNumber bytes number

read_as : (own at place : ℕ) (bytes : List ℕ) (numbers : Numbers)
    → (number : Serial) × (slice_get numbers place ≡ Some number) × ((followers : ℕ) × SaysNumber own at followers number (after_gate bytes))
    → IsNumberRead numbers place bytes
read_as own at place bytes numbers it =
    let says : (followers : ℕ) × SaysNumber own at followers it.0 (after_gate bytes) = it.2 in
    record {
      number = it.0;
      stands = it.1;
      has = (says.0, record { alone = says.1.alone; whole = says.1.whole; number_is = says.1.number_is; zeros = says.1.zeros });
    }

module _ (old mid : StoreState Numbers) (stays : Stays old mid) (own at place : ℕ) (bytes : List ℕ)
    (says : mid.honest → (numbers : Numbers) → mid.found numbers
    → (number : Serial) × (slice_get numbers place ≡ Some number) × ((followers : ℕ) × SaysNumber own at followers number (after_gate bytes))) where
  read_number : old.honest → (numbers : Numbers) → FindsOnly old numbers → IsNumberRead numbers place bytes
  read_number h numbers finds =
      read_as own at place bytes numbers (says (stays.nature.honest.0 h) numbers ((stays.found h numbers).1 ((finds numbers).1 refl)))

  -- that of no initial key
  pub counted_number : HasNoIssue bytes → old.honest → (numbers : Numbers) → FindsOnly old numbers → ¬ AreInitial numbers
  counted_number none h numbers finds initial =
      let it : IsNumberRead numbers place bytes = read_number h numbers finds in
      none it.number it.has
      (subst (λ (number : Serial). number.counter ≡ 0) (get_or_from_slice_get numbers place it.number it.number it.stands)
      (initial place it.number (slice_get_within numbers place it.number it.stands)))

  -- that of an initial key, whose record is written
  module _ (issued : Issued) (issue : IsIssueIn bytes issued) (before new new' : DiskState) (identity count : ℕ)
      (size_is : before.honest → length before.reads ≡ before.size) (room : 32 * (1 + count) ≤ before.size) (less : place < count)
      (so_far : AreNumbersCopied identity place old before new) (wrote : IsIssueWritten identity (1 + place) issued new new') where
    initial_more : AreInitialBelow (place + 1) old
    initial_more h numbers finds spot below = elim (cases_lt spot place) [
      | inl before_it ↦ so_far.initial h numbers finds spot before_it
      | inr past ↦
          let it : IsNumberRead numbers place bytes = read_number h numbers finds in
          let here : place ≡ spot = omega (arith, past, below) in
          subst (λ (n : ℕ). IsInitialAt numbers n) here (record { number = it.number; stands = it.stands; initial = (issue it.number it.has).0 })
    ]

    issues_more : old.honest → (xs ys : List ℕ) → length xs ≡ 32 * place → length ys ≡ 32 → AreIssuesOf identity place old xs
        → IsIssueRecord identity (1 + place) issued ys → AreIssuesOf identity (place + 1) old (xs ++ ys)
    issues_more h xs ys long one each last numbers finds spot below number stands = elim (cases_lt spot place) [
      | inl before_it ↦
          subst (λ (l : List ℕ). IsIssueRecord identity (1 + spot) (issue_of number) l)
          (sym (record_in_front spot xs ys (omega (arith, before_it, long)))) (each numbers finds spot before_it number stands)
      | inr past ↦
          let it : IsNumberRead numbers place bytes = read_number h numbers finds in
          let here : place ≡ spot = omega (arith, past, below) in
          let same : it.number ≡ number =
          same_Some it.number number (sym it.stands ∙ ap (λ (n : ℕ). slice_get numbers n) here ∙ stands) in
          let issued_is : issued ≡ issue_of number = (issue it.number it.has).1 ∙ ap issue_of same in
          let bytes_are : ys ≡ record_at spot (xs ++ ys) =
          sym (take_all 32 ys (omega (arith, one))) ∙ sym (record_behind place 0 xs ys long)
          ∙ ap (λ (n : ℕ). record_at n (xs ++ ys)) (omega (arith, here)) in
          subst (λ (l : List ℕ). IsIssueRecord identity (1 + spot) (issue_of number) l) bytes_are
          (subst (λ (it_is : Issued). IsIssueRecord identity (1 + spot) it_is ys) issued_is
          (subst (λ (n : ℕ). IsIssueRecord identity (1 + n) issued ys) here last))
    ]

    pub number_on : AreNumbersCopied identity (place + 1) old before new'
    number_on = record {
      nature = keeps_on before new new' so_far.nature wrote.nature;
      no_failure = wrote.no_failure ∙ so_far.no_failure;
      initial = initial_more;
      copied = λ k.
          let first = so_far.copied k in
          let second = wrote.wrote (so_far.nature.honest.0 k) in
          let all_long : length (first.0 ++ second.0) ≡ 32 * (place + 1) = length-append first.0 second.0 ∙ omega (arith, first.1, second.1) in (
            first.0 ++ second.0,
            all_long,
            λ h. issues_more h first.0 second.0 first.1 second.1 (first.2 h) second.2,
            second.3 ∙ ap (λ (l : List ℕ). written l (32 * (1 + place)) second.0) first.3
                ∙ written_behind before.reads first.0 second.0 32 (32 * (1 + place)) (omega (arith, first.1)) (omega (arith, second.1, size_is k, room, less)),
          );
    }

-- no number
pub numbers_none : (identity : ℕ) (old : StoreState Numbers) (new : DiskState) → (new.honest → 32 ≤ length new.reads) → AreNumbersCopied identity 0 old new new
numbers_none identity old new room = record {
  nature = keeps_none new;
  no_failure = refl;
  initial = λ h numbers finds place less. absurd (omega (arith, less));
  copied = λ k. ([], refl, λ h numbers finds place less number stands. absurd (omega (arith, less)), written_none new.reads 32 (room k));
}
