-- A disk that is written with the numbers that a log keeps.
use Rattle.std.proofs.Common.{◌≡◌, ◌∙◌, inl, inr, ◌+◌, ◌*◌, ◌-◌, ◌<◌, ◌≤◌, ◌^◌, ◌++◌, ℕ, suc, List, [], ◌∷◌, None, Some, ap, arith, drop, get_or, length, refl, replicate, subst, sym, true}
use Rattle.std.specs.Prelude.{slice_get}
use Rattle.std.proofs.lemmas.Option.{get_or_from_slice_get}
use Rattle.duk_journal.specs.Header.{header_of, identity_of}
use Rattle.duk_journal.specs.RecordFormat.{record_at}
use Rattle.duk_journal_copy.specs.InPart.{LeavesFileInPart}
use Rattle.duk_journal_copy.specs.Ledger.{IsLedgerCopied, LeavesIssuesInPart, issue_of, issues_of}
use Rattle.duk_journal_copy.specs.inner.Blank.{AreZerosKept, LeavesOutside}
use Rattle.duk_journal_copy.specs.inner.Head.{HasRestOf, IsHeadSettled, LeavesHeadInTurn}
use Rattle.duk_journal_copy.specs.inner.Ledger.{AreNumbersCopied, IsIssueRecord}
use Rattle.duk_journal_copy.specs.inner.Rest.{IsFrontWritten, file_bytes}
use Rattle.duk_ledger.specs.Issued.{Issues}
use Rattle.duk_ledger.specs.IssuedFormat.{issued_format, ledger_kind}
use Rattle.duk_ledger.specs.Ledger.{KeepsIssues}
use Rattle.duk_store.specs.Disk.{DiskState, LeavesReads, PreservesDisk, written}
use Rattle.duk_store.specs.DiskRecords.{records_state}
use Rattle.duk_store.specs.Listed.{CountsFound, ListMeaning}
use Rattle.duk_store.specs.Log.{Numbers}
use Rattle.duk_store.specs.Records.{AreKeptFrom, HasContents, identity_in}
use Rattle.duk_store.specs.StoreState.{FindsOnly, StoreState}
use Rattle.duk_tree.specs.Serial.{Serial}
use Rattle.duk_journal_copy.proofs.HeaderBytes.{gate_in, length_in, mark_in, third_in}
use Rattle.duk_journal_copy.proofs.InPart.{file_settled}
use Rattle.duk_journal_copy.proofs.KeptCopy.{closed_zeros}
use Rattle.duk_journal_copy.proofs.WholeBytes.{header_first, in_front, record_in, rest_of_file, zeros_behind}
use Rattle.duk_journal_copy.proofs.WrittenDisks.{keeps_on, outside_then, outside_wider}
use Rattle.duk_journal_copy.proofs.WrittenLists.{differs_then, whole_by_head}

-- ---- bytes that keep the numbers

module _ (identity : ℕ) (long : length (header_of ledger_kind identity) ≡ 32) (records : List ℕ) (count size : ℕ)
    (many : length records ≡ 32 * count) (room : 32 * (1 + count) ≤ size) where
  abbrev bytes : List ℕ
  bytes = file_bytes ledger_kind identity records size

  -- the record at a place has this number
  abbrev Stands : ℕ → Serial → Type 0
  Stands place number = IsIssueRecord identity place (issue_of number) (record_at place bytes)

  kept_from : identity_in issued_format bytes ≡ identity → (numbers : Numbers) (place : ℕ) → place + length numbers ≡ 1 + count
      → ((k : ℕ) → k < length numbers → (number : Serial) → slice_get numbers k ≡ Some number → Stands (place + k) number)
      → AreKeptFrom issued_format (issues_of numbers) 0 place bytes
  kept_from own [] place ends each = λ later past.
      closed_zeros (1 + count) (size - 32 * (1 + count)) bytes (zeros_behind ledger_kind identity long records count size many room) later (omega (arith, past, ends))
  kept_from own (number ∷ later) place ends each =
      let at : place + 0 ≡ place = omega arith in
      let here : Stands place number = subst (λ (n : ℕ). Stands n number) at (each 0 (omega arith) number refl) in (
        0,
        here.opened,
        subst (λ (n : ℕ). HasContents issued_format n place 0 (issue_of number) (record_at place bytes)) (sym own) here.says,
        kept_from own later (place + 1) (omega (arith, ends)) (λ k less other stands.
            let next : place + suc k ≡ place + 1 + k = omega arith in
            subst (λ (n : ℕ). Stands n other) next (each (suc k) (omega (arith, less)) other stands)),
      )

  keeps_issues : identity < 2 ^ 64 → identity_of (header_of ledger_kind identity) ≡ identity → (numbers : Numbers) → length numbers ≡ count
      → ((place : ℕ) → place < count → (number : Serial) → slice_get numbers place ≡ Some number → IsIssueRecord identity (1 + place) (issue_of number) (record_at place records))
      → KeepsIssues bytes (issues_of numbers)
  keeps_issues fits back numbers counted each =
      let there : record_at 0 bytes ≡ header_of ledger_kind identity = header_first ledger_kind identity long records count size many room in
      let own : identity_in issued_format bytes ≡ identity = ap identity_of there ∙ back in
      record {
        header = λ has. (identity, fits, there);
        listed = kept_from own numbers 1 (omega (arith, counted)) (λ k less number stands.
            subst (λ (l : List ℕ). IsIssueRecord identity (1 + k) (issue_of number) l) (sym (record_in ledger_kind identity long records count size many room k (omega (arith, less, counted))))
            (each k (omega (arith, less, counted)) number stands));
      }

-- ---- a disk in part

-- the rest of the header is written, the records, and the zeros behind them
outside_last : (count end : ℕ) (before front mid last : DiskState) → 32 * (1 + count) ≤ before.size → end ≡ before.size → PreservesDisk before front → PreservesDisk front mid
    → LeavesOutside 2 32 before front → LeavesOutside 32 (32 * (1 + count)) front mid → LeavesOutside (32 * (1 + count)) end mid last
    → LeavesOutside 2 before.size before last
outside_last count end before front mid last room end_is one two first second third =
    outside_then 2 before.size before mid last (keeps_on before front mid one two)
    (outside_then 2 before.size before front mid one
    (outside_wider 2 before.size 2 30 before front (omega arith) (omega (arith, room)) first)
    (outside_wider 2 before.size 32 (32 * (1 + count) - 32) front mid (omega arith) (omega (arith, room)) second))
    (outside_wider 2 before.size (32 * (1 + count)) (end - 32 * (1 + count)) mid last (omega arith) (omega (arith, end_is, room)) third)

-- the file keeps issues
issues_in_part : (issues : Issues) (whole : List ℕ) (before after : DiskState) → KeepsIssues whole issues → LeavesFileInPart whole before after → LeavesIssuesInPart issues before after
issues_in_part issues whole before after keeps in_part = λ h one unfinished bytes left.
    elim (in_part h one unfinished bytes left) [
      | inl begins ↦ inl begins
      | inr same ↦ inr (subst (λ (l : List ℕ). KeepsIssues l issues) (sym same) keeps)
    ]

-- ---- the whole copy

-- a list that counts what a restart finds counts this, where it finds nothing else
pub counts_these : {L : Type 0} (meaning : ListMeaning L Serial) (old : L) (count : ℕ) → CountsFound meaning old → (meaning.state_of old).running ≡ true
    → count ≡ meaning.count old → (meaning.state_of old).honest → (numbers : Numbers) → FindsOnly (meaning.state_of old) numbers → length numbers ≡ count
counts_these meaning old count counts runs is h numbers finds =
    let held = counts runs h in
    ap (λ (them : Numbers). length them) ((held.1 numbers).0 ((finds numbers).1 refl)) ∙ held.2 ∙ sym is

-- a disk that leaves what it reads finds what that keeps
finds_issues : ((bytes : List ℕ) (one two : Issues) → KeepsIssues bytes one → KeepsIssues bytes two → one ≡ two)
    → (after : DiskState) (issues : Issues) → LeavesReads after → KeepsIssues after.reads issues → FindsOnly (records_state issued_format after None) issues
finds_issues one_list after issues leaves keeps = λ other. (
  (λ found. one_list found.0 other issues found.2 (subst (λ (l : List ℕ). KeepsIssues l issues) (sym ((leaves found.0).0 found.1)) keeps)),
  (λ is. (after.reads, (leaves after.reads).1 refl, subst (λ (them : Issues). KeepsIssues after.reads them) (sym is) keeps)),
)

module _ (identity count end : ℕ) (fits : identity < 2 ^ 64)
    (long : length (header_of ledger_kind identity) ≡ 32) (back : identity_of (header_of ledger_kind identity) ≡ identity) (old : StoreState Numbers) (before front mid last after : DiskState)
    (room : 32 * (1 + count) ≤ before.size) (end_is : end ≡ before.size) (its_size : before.honest → length before.reads ≡ before.size)
    (first : IsFrontWritten ledger_kind identity before front) (copied : AreNumbersCopied identity count old front mid)
    (behind : AreZerosKept (32 * (1 + count)) end mid last) where
  front_honest : before.honest → front.honest
  front_honest k = first.nature.honest.0 k

  mid_honest : before.honest → mid.honest
  mid_honest k = copied.nature.honest.0 (front_honest k)

  to_last : PreservesDisk before last
  to_last = keeps_on before mid last (keeps_on before front mid first.nature copied.nature) behind.written.nature

  -- what is written
  abbrev records : before.honest → List ℕ
  records k = (copied.copied (front_honest k)).0

  abbrev whole : before.honest → List ℕ
  whole k = file_bytes ledger_kind identity (records k) before.size

  many : (k : before.honest) → length (records k) ≡ 32 * count
  many k = (copied.copied (front_honest k)).1

  rest : (k : before.honest) → HasRestOf (whole k) last.reads
  rest k =
      rest_of_file ledger_kind identity long (records k) count before.size (many k) room before.reads front.reads mid.reads last.reads (its_size k) (first.front k)
      ((copied.copied (front_honest k)).3)
      (behind.written.zeros (mid_honest k) ∙ ap (λ (n : ℕ). written mid.reads (32 * (1 + count)) (replicate (n - 32 * (1 + count)) 0)) end_is)

  whole_keeps : (k : before.honest) → old.honest → (numbers : Numbers) → FindsOnly old numbers → length numbers ≡ count → KeepsIssues (whole k) (issues_of numbers)
  whole_keeps k h numbers finds counted =
      keeps_issues identity long (records k) count before.size (many k) room fits back numbers counted ((copied.copied (front_honest k)).2 h numbers finds)

  byte_in : (k : before.honest) (place : ℕ) → place < 32 → get_or (whole k) place 0 ≡ get_or (header_of ledger_kind identity) place 0
  byte_in k place less = in_front ledger_kind identity long (records k ++ replicate (before.size - 32 - length (records k)) 0) place less

  -- the first two bytes are settled, or perhaps they are not
  pub ledger_in_part : LeavesOutside 2 32 before front → LeavesOutside 32 (32 * (1 + count)) front mid → LeavesOutside (32 * (1 + count)) end mid last
      → LeavesHeadInTurn last after → (numbers : Numbers) → FindsOnly old numbers → length numbers ≡ count → old.honest
      → LeavesIssuesInPart (issues_of numbers) before after
  ledger_in_part one_part two_part three_part in_turn numbers finds counted h = λ k one unfinished.
      issues_in_part (issues_of numbers) (whole k) before after (whole_keeps k h numbers finds counted)
      (file_settled before.size before last after to_last
      (outside_last count end before front mid last room end_is first.nature copied.nature one_part two_part three_part) (λ again. behind.leaves (mid_honest again)) (whole k)
      (byte_in k 0 (omega arith) ∙ gate_in ledger_kind identity)
      (byte_in k 1 (omega arith) ∙ mark_in ledger_kind identity)
      (byte_in k 2 (omega arith) ∙ third_in ledger_kind identity)
      (byte_in k 15 (omega arith) ∙ length_in ledger_kind identity)
      (λ again. rest k) in_turn) k one unfinished

  module _ (one_list : (bytes : List ℕ) (one two : Issues) → KeepsIssues bytes one → KeepsIssues bytes two → one ≡ two)
      (counts : old.honest → (numbers : Numbers) → FindsOnly old numbers → length numbers ≡ count) (settled : IsHeadSettled last after) where
    reads_whole : (k : before.honest) → after.reads ≡ whole k
    reads_whole k =
        let last_honest : last.honest = to_last.honest.0 k in
        whole_by_head (whole k) after.reads (differs_then 0 2 (whole k) last.reads after.reads (rest k) (settled.rest last_honest))
        (settled.gate_is last_honest ∙ sym (byte_in k 0 (omega arith) ∙ gate_in ledger_kind identity))
        (settled.mark_is last_honest ∙ sym (byte_in k 1 (omega arith) ∙ mark_in ledger_kind identity))

    leaves : before.honest → LeavesReads after
    leaves k = settled.leaves (to_last.honest.0 k) (behind.leaves (mid_honest k))

    reads_keep : old.honest → before.honest → (numbers : Numbers) → FindsOnly old numbers → KeepsIssues after.reads (issues_of numbers)
    reads_keep h k numbers finds =
        subst (λ (l : List ℕ). KeepsIssues l (issues_of numbers)) (sym (reads_whole k)) (whole_keeps k h numbers finds (counts h numbers finds))

    pub ledger_copied : IsLedgerCopied identity count old before after
    ledger_copied = record {
      identity_fits = fits;
      nature = keeps_on before last after to_last settled.nature;
      no_failure = settled.no_failure ∙ behind.written.no_failure ∙ copied.no_failure ∙ first.no_failure;
      leaves = leaves;
      header = λ k. ap (record_at 0) (reads_whole k) ∙ header_first ledger_kind identity long (records k) count before.size (many k) room;
      behind = λ k.
          ap (drop (32 * (1 + count))) (reads_whole k) ∙ zeros_behind ledger_kind identity long (records k) count before.size (many k) room;
      initial = λ h numbers finds place other less.
          let it = copied.initial h numbers finds place (omega (arith, less, counts h numbers finds)) in
          subst (λ (number : Serial). number.counter ≡ 0) (sym (get_or_from_slice_get numbers place it.number other it.stands)) it.initial;
      keeps = λ h k numbers finds. finds_issues one_list after (issues_of numbers) (leaves k) (reads_keep h k numbers finds);
      sound = λ h k size numbers finds. record {
        size = (size.0, size.1, settled.nature.size ∙ to_last.size ∙ size.2);
        each_keeps = λ left_bytes left.
            (issues_of numbers, subst (λ (l : List ℕ). KeepsIssues l (issues_of numbers)) (sym ((leaves k left_bytes).0 left)) (reads_keep h k numbers finds));
      };
    }
