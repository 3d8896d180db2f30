-- Files behind whose bytes zeros are written.
use Rattle.std.proofs.Common.{◌≡◌, ◌≢◌, ◌∙◌, ◌⊎◌, inl, inr, ◌+◌, ◌-◌, ◌*◌, ◌≤◌, ◌++◌, ℕ, List, ap, arith, length, length-append, replicate, subst, sym, take}
use Rattle.std.proofs.lemmas.List.{append_assoc, length-replicate, replicate-append-replicate, take-replicate}
use Rattle.duk_journal.specs.Groups.{Entries, KeepsChecked}
use Rattle.duk_service.specs.FileEnd.{EndState, HasSomeOf, IsEndOf, LeavesLonger, PreservesEnd}
use Rattle.duk_service.specs.GrowJournal.{HasGrownJournal, HasZerosBehind, IsGrowJournalRefused, IsGrowable, IsGrowableOpened, IsGrownInPart, IsLeftLonger, IsLonger, zeros_for}
use Rattle.duk_service.specs.LogFiles.{DiskKnown}
use Rattle.duk_service.specs.NewFile.{IsRecordCount}
use Rattle.duk_service.specs.declared.left_records.Layout.TheVariants.{Journal}
use Rattle.duk_journal_copy.specs.declared.version.Version.TheVariants.{Two}
use Rattle.duk_service.specs.declared.grow_journal.GrowJournalFault.{GrowJournalFault}
use Rattle.duk_service.specs.declared.grow_journal.GrowJournalFault.TheVariants as fault
use Rattle.duk_service.specs.inner.GrowJournal.{AreZerosKept, AreZerosNotKept, IsToGrow, ZerosNotKept}
use Rattle.duk_store.specs.Disk.{DiskMeaning, DiskState, LeavesItsSize, LeavesReads, ReadsMayStay}

pub keeps_end : (old mid new : EndState) → PreservesEnd old mid → PreservesEnd mid new → PreservesEnd old new
keeps_end old mid new one two = record {
  honest = ((λ h. two.honest.0 (one.honest.0 h)), (λ h. one.honest.1 (two.honest.1 h)));
  calm = λ calm. two.calm (one.calm calm);
}

-- zeros behind zeros
zeros_on : (bytes : List ℕ) (one two : ℕ) → (bytes ++ replicate one 0) ++ replicate two 0 ≡ bytes ++ replicate (one + two) 0
zeros_on bytes one two = append_assoc bytes (replicate one 0) (replicate two 0) ∙ ap (λ (l : List ℕ). bytes ++ l) (replicate-append-replicate one two 0)

pub more_zeros : (first mid last zeros : List ℕ) (done piece : ℕ) → zeros ≡ replicate piece 0 → mid ≡ first ++ replicate done 0 → last ≡ mid ++ zeros
    → last ≡ first ++ replicate (done + piece) 0
more_zeros first mid last zeros done piece are before then =
    then ∙ ap (λ (l : List ℕ). l ++ zeros) before ∙ ap (λ (l : List ℕ). (first ++ replicate done 0) ++ l) are ∙ zeros_on first done piece

-- some zeros behind some
pub longer_then : (old mid new : EndState) (zeros : List ℕ) (done piece most : ℕ) → done + piece ≤ most → zeros ≡ replicate piece 0 → PreservesEnd old mid
    → LeavesLonger (HasZerosBehind done) old mid → LeavesLonger (HasSomeOf zeros) mid new → LeavesLonger (HasZerosBehind most) old new
longer_then old mid new zeros done piece most within are keeps one two h bytes left =
    let last = two (keeps.honest.0 h) bytes left in
    let first = one h last.0 last.1 in
    let some : last.2.count ≤ piece = subst (λ (n : ℕ). last.2.count ≤ n) (ap length are ∙ length-replicate piece 0) last.2.most in
    let fewer : take last.2.count zeros ≡ replicate last.2.count 0 = ap (take last.2.count) are ∙ take-replicate last.2.count piece 0 some in (
      first.0,
      first.1,
      record {
        count = first.2.count + last.2.count;
        within = omega (arith, first.2.within, some, within);
        is = more_zeros first.0 last.0 bytes (take last.2.count zeros) first.2.count last.2.count fewer first.2.is last.2.is;
      },
    )

pub longer_wider : (old new : EndState) (few most : ℕ) → few ≤ most → LeavesLonger (HasZerosBehind few) old new → LeavesLonger (HasZerosBehind most) old new
longer_wider old new few most within longer h bytes left =
    let one = longer h bytes left in
    (one.0, one.1, record { count = one.2.count; within = omega (arith, one.2.within, within); is = one.2.is })

-- ---- a journal's file

-- it has a record at least
some_whole : (bytes : List ℕ) → IsGrowable (Journal Two) bytes → 32 ≤ length bytes
some_whole bytes growable =
    let whole = growable.left.whole in
    let long : length bytes ≡ 32 * whole.0 + length {A = ℕ} (replicate growable.rest 0) =
    ap length growable.is ∙ length-append growable.front (replicate growable.rest 0) ∙ ap (λ (n : ℕ). n + length {A = ℕ} (replicate growable.rest 0)) whole.2 in
    omega (arith, long, whole.1)

-- what keeps a list keeps it with zeros behind
abbrev pub KeepsBehindZeros : Type 0
KeepsBehindZeros = (bytes : List ℕ) (entries : Entries) (count : ℕ) → 32 ≤ length bytes → KeepsChecked bytes entries → KeepsChecked (bytes ++ replicate count 0) entries

module _ (law : KeepsBehindZeros) {D : Type 0} (meaning : DiskMeaning D) (known : DiskKnown D) (text : List ℕ) (disk : D) (opened : IsGrowableOpened meaning known disk) (end : EndState)
    (ends : IsEndOf (meaning.state_of disk) end) (records : ℕ) (asked : IsRecordCount text records) where
  abbrev before : DiskState
  before = meaning.state_of disk

  longer : (last : DiskState) (zeros : ℕ) → (end.honest → last.reads ≡ end.reads ++ replicate zeros 0) → (end.honest → LeavesReads last) → before.honest → IsLonger zeros before last
  longer last zeros reads leaves honest =
      let h = ends.honest.0 honest in
      let bytes : last.reads ≡ before.reads ++ replicate zeros 0 = reads h ∙ ap (λ (l : List ℕ). l ++ replicate zeros 0) (ends.reads honest) in
      record {
        bytes = bytes;
        leaves = leaves h;
        keeps = λ entries keeps. subst (λ (l : List ℕ). KeepsChecked l entries) (sym bytes) (law before.reads entries zeros (some_whole before.reads (opened.growable honest)) keeps);
      }

  pub has_grown : (zeros : ℕ) → IsToGrow before.size records zeros → AreZerosKept meaning before.size zeros end → HasGrownJournal meaning known text
  has_grown zeros to_grow kept = record {
    records = records;
    asked = asked;
    disk = disk;
    opened = opened;
    last = kept.last;
    fits = subst (λ (n : ℕ). n ≤ 9223372036854775807) (sym kept.size_is) to_grow.fits;
    size = kept.size_is ∙ ap (λ (n : ℕ). before.size + n) to_grow.are;
    longer = λ honest. subst (λ (n : ℕ). IsLonger n before (meaning.state_of kept.last)) to_grow.are (longer (meaning.state_of kept.last) zeros kept.reads kept.leaves honest);
  }

  module _ (itself : LeavesItsSize before) (stays : ReadsMayStay before) where
    left_longer : (most : ℕ) (bytes : List ℕ) → before.honest → ((was : List ℕ) × end.may_leave was × HasZerosBehind most was bytes) → IsLeftLonger most before bytes
    left_longer most bytes honest left =
        let could = (ends.leaves honest left.0).0 left.1 in
        let same : length left.0 ≡ length before.reads = itself honest left.0 could ∙ sym (itself honest before.reads (stays honest)) in
        let some : 32 ≤ length left.0 = subst (λ (n : ℕ). 32 ≤ n) (sym same) (some_whole before.reads (opened.growable honest)) in
        record {
          before = left.0;
          could = could;
          zeros = left.2;
          keeps = λ entries keeps. subst (λ (l : List ℕ). KeepsChecked l entries) (sym left.2.is) (law left.0 entries left.2.count some keeps);
        }

    failed_too : (Failed : Type 0) → (¬ end.calm) ⊎ Failed → (¬ before.calm) ⊎ Failed
    failed_too Failed (inl not_calm) = inl (λ calm. not_calm (ends.calm calm))
    failed_too Failed (inr other) = inr other

    pub grown_in_part : (zeros : ℕ) → IsToGrow before.size records zeros → ZerosNotKept meaning before.size zeros end → IsGrownInPart meaning disk records
    grown_in_part zeros to_grow kept = record {
      last = kept.last;
      failed = failed_too _ (subst (λ (n : ℕ). (¬ end.calm) ⊎ ((meaning.state_of kept.last).size ≢ before.size + n)) to_grow.are kept.failed);
      left = λ honest bytes left. subst (λ (n : ℕ). IsLeftLonger n before bytes) to_grow.are (left_longer zeros bytes honest (kept.left (ends.honest.0 honest) bytes left));
    }

    pub refused_to_grow : (zeros : ℕ) → IsToGrow before.size records zeros → (why : GrowJournalFault) → AreZerosNotKept meaning before.size zeros end why
        → IsGrowJournalRefused meaning known text why
    refused_to_grow most to_grow fault.Ungrown kept = record {
      records = records;
      asked = asked;
      disk = disk;
      opened = opened;
      cause = inr (grown_in_part most to_grow kept);
    }
    refused_to_grow most to_grow fault.RecordsRefused kept = absurd kept
    refused_to_grow most to_grow fault.Unopened kept = absurd kept
    refused_to_grow most to_grow fault.Failed kept = absurd kept
    refused_to_grow most to_grow fault.OldVersion kept = absurd kept
