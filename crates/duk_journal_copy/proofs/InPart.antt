-- What a stop leaves of a disk that is written, and of which the first two bytes come last.
use Rattle.std.proofs.Common.{◌≡◌, ◌∙◌, inl, inr, ◌-◌, ℕ, List, ap, arith, get_or, refl, subst, sym}
use Rattle.std.proofs.lemmas.Bool.{cases_eq}
use Rattle.duk_journal_copy.specs.InPart.{BeginsAsNone, IsNoJournal, IsUnfinished, LeavesFileInPart, LeavesInPart}
use Rattle.duk_journal_copy.specs.inner.Blank.{LeavesByte, LeavesOutside}
use Rattle.duk_journal_copy.specs.inner.Head.{HasRestOf, LeavesHeadInTurn}
use Rattle.duk_journal_copy.specs.declared.version.Version.TheVariants.{One, Two}
use Rattle.duk_journal.specs.Groups.{Entries, KeepsChecked}
use Rattle.duk_store.specs.Disk.{DiffersWithin, DiskState, LeavesReads, PreservesDisk}
use Rattle.duk_journal_copy.proofs.Fronts.{front_is_none, many_follow_is_none, no_kind_is_none, open_is_none, other_mark_is_none}
use Rattle.duk_journal_copy.proofs.WrittenLists.{differs_then, whole_by_head}

-- what a stop leaves differs from the one image that there was
differs_from : (to : ℕ) (before after : DiskState) → before.honest → LeavesReads before → LeavesOutside 2 to before after
    → (bytes : List ℕ) → after.may_leave bytes → DiffersWithin 2 (to - 2) before.reads bytes
differs_from to before after h one outside bytes left =
    let was = outside h bytes left in
    let is : was.0 ≡ before.reads = (one was.0).0 was.1 in
    subst (λ (l : List ℕ). DiffersWithin 2 (to - 2) l bytes) is was.2

-- the first two bytes stay, and the 16th where that does
unfinished_on : (to : ℕ) (old new : List ℕ) → DiffersWithin 2 (to - 2) old new → get_or new 15 0 ≡ 32 → IsUnfinished old → IsUnfinished new
unfinished_on to old new differs stays unfinished =
    let first : get_or new 0 0 ≡ get_or old 0 0 = differs.outside 0 (inl (omega arith)) in
    let second : get_or new 1 0 ≡ get_or old 1 0 = differs.outside 1 (inl (omega arith)) in
    record {
      gate = first ∙ unfinished.gate;
      kind = λ decided same. unfinished.kind decided (same ∙ second);
      mark = λ same. unfinished.mark (sym second ∙ same);
      behind_number = stays;
    }

-- a byte of what a stop leaves is that of the one image that there was
byte_from : (place : ℕ) (before after : DiskState) → before.honest → LeavesReads before → LeavesByte place before after
    → (bytes : List ℕ) → after.may_leave bytes → get_or bytes place 0 ≡ get_or before.reads place 0
byte_from place before after h one stays bytes left =
    let was = stays h bytes left in
    was.2 ∙ ap (λ (l : List ℕ). get_or l place 0) ((one was.0).0 was.1)

-- all behind the first two bytes was written, and perhaps not all of that
pub in_part_behind : (entries : Entries) (to : ℕ) (before after : DiskState) → LeavesOutside 2 to before after → LeavesInPart entries before after
in_part_behind entries to before after outside = λ h one unfinished bytes left.
    let differs = differs_from to before after h one outside bytes left in
    let first : get_or bytes 0 0 ≡ get_or before.reads 0 0 = differs.outside 0 (inl (omega arith)) in
    let second : get_or bytes 1 0 ≡ get_or before.reads 1 0 = differs.outside 1 (inl (omega arith)) in
    inl (front_is_none bytes (first ∙ unfinished.gate) (λ decided same. unfinished.kind decided (same ∙ second)) (λ same. unfinished.mark (sym second ∙ same)))

-- the same of a file of any kind, of which the 16th byte stays where it is right
pub file_behind : (whole : List ℕ) (to : ℕ) (before after : DiskState) → LeavesOutside 2 to before after
    → (get_or before.reads 15 0 ≡ 32 → LeavesByte 15 before after) → LeavesFileInPart whole before after
file_behind whole to before after outside stays = λ h one unfinished bytes left.
    let right : get_or bytes 15 0 ≡ 32 =
    byte_from 15 before after h one (stays unfinished.behind_number) bytes left ∙ unfinished.behind_number in
    let on = unfinished_on to before.reads bytes (differs_from to before after h one outside bytes left) right unfinished in
    inl (record { gate = on.gate; mark = on.mark; kind = inl on.kind; behind_number = on.behind_number })

-- what begins as none is no journal
begins_none : (bytes : List ℕ) → BeginsAsNone bytes → IsNoJournal bytes
begins_none bytes begins One entries = elim begins.kind [
  | inl none ↦ open_is_none bytes begins.gate (no_kind_is_none bytes none) entries
  | inr third ↦ open_is_none bytes begins.gate (many_follow_is_none bytes third) entries
]
begins_none bytes begins Two entries = other_mark_is_none bytes begins.mark entries

-- where the file is a journal that keeps entries
pub journal_in_part : (entries : Entries) (whole : List ℕ) (before after : DiskState) → (before.honest → KeepsChecked whole entries) → LeavesFileInPart whole before after
    → LeavesInPart entries before after
journal_in_part entries whole before after keeps in_part = λ h one unfinished bytes left.
    elim (in_part h one unfinished bytes left) [
      | inl begins ↦ inl (begins_none bytes begins)
      | inr same ↦ inr (subst (λ (l : List ℕ). KeepsChecked l entries) (sym same) (keeps h))
    ]

module _ (to : ℕ) (before mid after : DiskState) (nature : PreservesDisk before mid) (outside : LeavesOutside 2 to before mid)
    (leaves : before.honest → LeavesReads mid) where
  -- the gate of what was unfinished stays open
  still_open : before.honest → LeavesReads before → IsUnfinished before.reads → get_or mid.reads 0 0 ≡ 1
  still_open h one unfinished =
      let differs = differs_from to before mid h one outside mid.reads ((leaves h mid.reads).1 refl) in
      differs.outside 0 (inl (omega arith)) ∙ unfinished.gate

  -- the rest of a file was, and perhaps the first two bytes
  pub file_settled : (whole : List ℕ) → get_or whole 0 0 ≡ 0x01 → get_or whole 1 0 ≡ 0xD5 → get_or whole 2 0 ≡ 0x44 → get_or whole 15 0 ≡ 32
      → (before.honest → HasRestOf whole mid.reads) → LeavesHeadInTurn mid after → LeavesFileInPart whole before after
  file_settled whole gate mark third right rest head = λ h one unfinished bytes left.
      let turn = head (nature.honest.0 h) (leaves h) bytes left in
      let behind : HasRestOf whole bytes = differs_then 0 2 whole mid.reads bytes (rest h) turn.rest in
      let opened : get_or bytes 0 0 ≡ 1 = elim turn.in_turn [
        | inl settled ↦ settled
        | inr other ↦ absurd (other.0 (still_open h one unfinished))
      ] in
      elim (cases_eq (get_or bytes 1 0) 0xD5) [
        | inl same ↦ inr (whole_by_head whole bytes behind (opened ∙ sym gate) (same ∙ sym mark))
        | inr other ↦ inl (record {
          gate = opened;
          mark = other;
          kind = inr (behind.outside 2 (inr (omega arith)) ∙ third);
          behind_number = behind.outside 15 (inr (omega arith)) ∙ right;
        })
      ]

  -- that of a journal that keeps entries
  pub in_part_settled : (entries : Entries) (whole : List ℕ) → (before.honest → KeepsChecked whole entries)
      → get_or whole 0 0 ≡ 0x01 → get_or whole 1 0 ≡ 0xD5 → get_or whole 2 0 ≡ 0x44 → get_or whole 15 0 ≡ 32
      → (before.honest → HasRestOf whole mid.reads) → LeavesHeadInTurn mid after → LeavesInPart entries before after
  in_part_settled entries whole keeps gate mark third right rest head =
      journal_in_part entries whole before after keeps (file_settled whole gate mark third right rest head)
