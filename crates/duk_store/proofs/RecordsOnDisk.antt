-- The meaning of records on a disk, from what that disk may leave.
use Rattle.std.proofs.Common.{◌≡◌, ◌≢◌, ◌⊎◌, ◌↔◌, inl, inr, ℕ, ◌+◌, ◌-◌, ◌*◌, ◌<◌, ◌≤◌, List, [], ◌++◌, Option, Some, None, length, drop, get_or, replicate, refl, sym, ◌∙◌, ap, subst, arith, length-append, true, false}
use Rattle.std.proofs.lemmas.Bool.{cases_eq, cases_lt, false≢true}
use Rattle.std.proofs.lemmas.Grind.{same_number_lists}
use Rattle.std.proofs.lemmas.List.{append-nil, get_or-drop, get_or-replicate, get_or-take, get_or_past, length-replicate, take_at}
use Rattle.std.specs.List.{slice_get}
use Rattle.duk_store.specs.Disk.{DiskMeaning, DiskState, LeavesReads, LeavesWithin, PreservesBytes, PreservesDisk, ReadsMayStay}
use Rattle.duk_store.specs.Restart.{IsRestartFault}
use Rattle.duk_store.specs.StoreState.{FindsOnly, IsNew, KeepsNothing, Stops}
use Rattle.duk_store.specs.declared.fault.StoreFault.{StoreFault}
use Rattle.duk_store.specs.DiskRecords.{IsBlankDisk, IsEmptyDisk, IsFreshDisk, IsHeaderOf, IsSoundDisk, IsZeroDisk, MayFindItems, RecordsOf, are_running, count_in, records_meaning, records_state}
use Rattle.duk_store.specs.Format.{FormatMeaning, IsFormat}
use Rattle.duk_store.specs.MemoryDisk.{CouldLeave, memory_disk_state, new_disk, new_disk_with}
use Rattle.duk_store.specs.Listed.{GroupAppendFailed, IsGroupAppended, IsItemRead, IsItemRefused, ListRestartFailed, ListRestarted, OldOrWithGroup}
use Rattle.duk_store.specs.Records.{AreClosedFrom, AreListed, HasContents, HasHeader, IsOpen, IsRecordsSize, KeepsItems, gate_of, identity_in, record_at}
use Rattle.duk_store.specs.inner.GroupSteps.{GroupFailed, IsGroupTorn, IsGroupWritten, WritesGroup}
use Rattle.duk_store.specs.inner.Groups.{AreWritten}
use Rattle.duk_store.specs.inner.RecordSteps.{AreRecordsUp, IsDamagedDisk, KnowsCount, KnowsRecords, RecordsUpFailed, StaysSame}
use Rattle.duk_store.proofs.Grown.{behind}
use Rattle.duk_store.proofs.Identity.{first_record, same_identity}
use Rattle.duk_store.proofs.Kept.{closed_behind, group_kept, item_there, kept_once, kept_onto}
use Rattle.duk_store.proofs.Places.{no_later}
use Rattle.duk_store.proofs.WrittenBytes.{gate_is}

-- zeros keep no item
zeros_closed : (long size place : ℕ) → 2 ≤ long → ¬ IsOpen (record_at long place (replicate size 0))
zeros_closed long size place some is_open =
    let start : ℕ = long * place in
    let zeros : List ℕ = replicate size 0 in
    elim (cases_lt start size) [
      | inl inside ↦
          let gate : gate_of (record_at long place zeros) ≡ 0 =
          get_or-take long (drop start zeros) 0 0 (omega (arith, some)) ∙ get_or-drop start zeros 0 0 ∙ get_or-replicate size (start + 0) 0 0 (omega (arith, inside)) in
          absurd (omega (arith, is_open, gate))
      | inr past ↦
          let gate : gate_of (record_at long place zeros) ≡ 0 =
          get_or-take long (drop start zeros) 0 0 (omega (arith, some)) ∙ get_or-drop start zeros 0 0 ∙ get_or_past zeros (start + 0) 0 (omega (arith, past, length-replicate {A = ℕ} size 0)) in
          absurd (omega (arith, is_open, gate))
    ]

module _ {I : Type 0} (format : FormatMeaning I) (laws : IsFormat format) where
  abbrev long : ℕ
  long = format.record_length

  pub zero_is_empty : (disk : DiskState) → format.headers ≡ 0 → IsZeroDisk format disk → IsEmptyDisk format disk
  zero_is_empty disk none zero = record {
    size = zero.size;
    leaves_some = (replicate disk.size 0, (zero.zeros (replicate disk.size 0)).1 refl);
    each_empty = λ bytes left. subst (λ (l : List ℕ). KeepsItems format l []) (sym ((zero.zeros bytes).0 left)) (record {
      header = λ some. absurd (omega (arith, some, none));
      listed = λ later past. zeros_closed long disk.size later laws.has_contents;
    });
  }

  -- a header with zeros behind it keeps no item
  fresh_keeps : (header : List ℕ) (count : ℕ) → IsHeaderOf format header → KeepsItems format (header ++ replicate count 0) []
  fresh_keeps header count is = record {
    header = λ has. subst (λ (l : List ℕ). format.is_header l) (sym (in_front has)) (is.header_is has);
    listed = closed;
  }
    where
      in_front : 1 ≤ format.headers → record_at long 0 (header ++ replicate count 0) ≡ header
      in_front has =
          let one : format.headers ≡ 1 = omega (arith, has, laws.one_header) in
          let all : long * 1 ≡ long = omega arith in
          first_record long (header ++ replicate count 0) ∙ take_at header (replicate count 0) long (is.whole ∙ ap (λ (n : ℕ). long * n) one ∙ all)

      closed : AreClosedFrom long format.headers (header ++ replicate count 0)
      closed later past is_open =
          let start : ℕ = long * later in
          let less : long * format.headers ≤ start = no_later long format.headers later past in
          let gate : gate_of (record_at long later (header ++ replicate count 0)) ≡ 0 =
          gate_is long laws.has_contents later (header ++ replicate count 0) ∙ behind format laws header count start (omega (arith, less, is.whole)) in
          absurd (omega (arith, is_open, gate))

  pub fresh_is_empty : (header : List ℕ) (disk : DiskState) → IsFreshDisk format header disk → IsEmptyDisk format disk
  fresh_is_empty header disk fresh =
      let count : ℕ = disk.size - length header in
      record {
        size = fresh.size;
        leaves_some = (header ++ replicate count 0, (fresh.fresh (header ++ replicate count 0)).1 refl);
        each_empty = λ bytes left. subst (λ (l : List ℕ). KeepsItems format l []) (sym ((fresh.fresh bytes).0 left)) (fresh_keeps header count fresh.header_is);
      }

  pub empty_keeps_nothing : (disk : DiskState) → IsEmptyDisk format disk → KeepsNothing (records_state format disk None) []
  empty_keeps_nothing disk empty = record {
    sound = record { size = empty.size; each_keeps = λ bytes left. ([], empty.each_empty bytes left) };
    finds = λ other. (
      (λ finds. kept_once format laws other [] 0 format.headers finds.0 finds.2.listed (empty.each_empty finds.0 finds.1).listed),
      (λ is. (empty.leaves_some.0, empty.leaves_some.1, subst (λ (l : List I). KeepsItems format empty.leaves_some.0 l) (sym is) (empty.each_empty empty.leaves_some.0 empty.leaves_some.1))),
    );
  }

  pub blank_is_new : (disk : DiskState) → IsBlankDisk format disk → IsNew (records_state format disk None) []
  blank_is_new disk blank = let nothing = empty_keeps_nothing disk blank.empty in record { honest = blank.honest; sound = nothing.sound; calm = blank.calm; stopped = refl; finds = nothing.finds }

  -- a stop that leaves one image leaves its list
  finds_list : (disk : DiskState) (image : List ℕ) (items : List I) → ((bytes : List ℕ) → disk.may_leave bytes ↔ (bytes ≡ image)) → KeepsItems format image items → (other : List I) → MayFindItems format disk other ↔ (other ≡ items)
  finds_list disk image items leaves keeps other = (
    (λ finds. kept_once format laws other items 0 format.headers image (subst (λ (bytes : List ℕ). KeepsItems format bytes other) ((leaves finds.0).0 finds.1) finds.2).listed keeps.listed),
    (λ is. (image, (leaves image).1 refl, subst (λ (l : List I). KeepsItems format image l) (sym is) keeps)),
  )

  sound_one : (disk : DiskState) (image : List ℕ) (items : List I) → IsRecordsSize format disk.size → ((bytes : List ℕ) → disk.may_leave bytes ↔ (bytes ≡ image)) → KeepsItems format image items → IsSoundDisk format disk
  sound_one disk image items size leaves keeps = record { size = size; each_keeps = λ bytes left. (items, subst (λ (bytes : List ℕ). KeepsItems format bytes items) (sym ((leaves bytes).0 left)) keeps) }

  -- ---- a restart

  module _ {V : Type 0} (takes : V → I → V → Type 0) (before after : DiskState) (visitor : V) where
    unsound : IsSoundDisk format before → IsDamagedDisk format before → ⊥
    unsound sound (inl size) = size sound.size
    unsound sound (inr bad) = let kept = sound.each_keeps bad.0 bad.1 in bad.2 kept.0 kept.1

    still_sound : PreservesDisk before after → LeavesWithin before after → before.honest → IsSoundDisk format before → IsSoundDisk format after
    still_sound nature within h sound = record { size = rw nature.size sound.size; each_keeps = λ bytes left. sound.each_keeps bytes (within h bytes left) }

    still_some : ReadsMayStay after → PreservesDisk before after → LeavesWithin before after → before.honest → IsSoundDisk format before → (items : List I) × MayFindItems format after items
    still_some stays nature within h sound =
        let left = stays (nature.honest.0 h) in
        let kept = sound.each_keeps after.reads (within h after.reads left) in
        (kept.0, (after.reads, left, kept.1))

    module _ (refuses : V → I → StoreFault → Type 0) (kept : Option ℕ) (why : StoreFault) where
      quiet_if : RecordsUpFailed format takes refuses before after visitor why → before.calm → after.failures ≡ before.failures
      quiet_if failed calm = elim failed.cause [
        | inl known ↦ elim known [
          | inl device ↦ absurd (device.not_calm calm)
          | inr damage ↦ damage.1.0
        ]
        | inr refused ↦ refused.0
      ]

      pub stops_up : ReadsMayStay after → RecordsUpFailed format takes refuses before after visitor why → Stops (records_state format before kept) (records_state format after None) (MayFindItems format before)
      stops_up stays failed = record {
        nature = record { honest = failed.nature.honest; sound = still_sound failed.nature failed.within; calm = failed.nature.calm };
        quiet = quiet_if failed;
        stopped = refl;
        within = λ h value finds. (finds.0, failed.within h finds.0 finds.1, finds.2);
        some = still_some stays failed.nature failed.within;
      }

      pub cause_up : RecordsUpFailed format takes refuses before after visitor why → IsRestartFault (records_state format before kept) (records_state format after None) why
          ⊎ (IsItemRefused takes refuses (records_state format before kept) (records_state format after None) visitor why × (after.failures ≡ before.failures))
      cause_up failed = elim failed.cause [
        | inl known ↦ elim known [
          | inl device ↦ inl (subst (λ (fault : StoreFault). IsRestartFault (records_state format before kept) (records_state format after None) fault) (sym device.fault_is) device.failure)
          | inr damage ↦ inl (subst (λ (fault : StoreFault). IsRestartFault (records_state format before kept) (records_state format after None) fault) (sym damage.0)
              (record { unsound = λ h sound. unsound sound (damage.1.1 h); no_failure = damage.1.0 }))
        ]
        | inr refused ↦
            let it = refused.1 in
            inr (
              record {
                earlier = it.earlier;
                item = it.item;
                visited = it.visited;
                taken = it.taken;
                refused = it.refused;
                begins = λ h items finds. it.begins h finds.0 finds.1 items finds.2;
              },
              refused.0,
            )
      ]

  -- ---- a group that is written behind what is kept

  module _ (identity : ℕ) (items group : List I) (count : ℕ) (x y : List ℕ) (keeps : KeepsItems format x items) (counted : length items ≡ count) (own : identity_in format x ≡ identity) (some : 1 ≤ length group) where
    abbrev end : ℕ
    end = format.headers + count

    module _ (gates : (other : ℕ) → other ≢ end → gate_of (record_at long other y) ≡ gate_of (record_at long other x)) (beside : (other : ℕ) → (other < end) ⊎ (end + length group ≤ other) → record_at long other y ≡ record_at long other x) where
      was_closed : AreClosedFrom long end x
      was_closed later past = closed_behind format items 0 format.headers x keeps.listed later (omega (arith, past, counted))

      still_closed : AreClosedFrom long (end + 1) y
      still_closed later past is_open = was_closed later (omega (arith, past)) (sym (gates later (omega (arith, past))) ∙ is_open)

      header_still : HasHeader format y
      header_still has = subst (λ (l : List ℕ). format.is_header l) (sym (beside 0 (inl (omega (arith, has))))) (keeps.header has)

      identity_still : identity_in format y ≡ identity_in format x
      identity_still = same_identity format laws x y (λ has. beside 0 (inl (omega (arith, has))))

      with_group : AreWritten format identity (length group) group end y → IsOpen (record_at long end y) → KeepsItems format y (items ++ group)
      with_group written is_open = record {
        header = header_still;
        listed = kept_onto format items group 0 format.headers end x y (omega (arith, counted)) keeps.listed (λ place from to. beside place (inl to)) identity_still
            (group_kept format group end y some (subst (λ (i : ℕ). AreWritten format i (length group) group end y) (sym (identity_still ∙ own)) written) is_open still_closed);
      }

      as_before : ¬ IsOpen (record_at long end y) → KeepsItems format y items
      as_before closed = record {
        header = header_still;
        listed = subst (λ (l : List I). AreListed format l y) (append-nil items)
            (kept_onto format items [] 0 format.headers end x y (omega (arith, counted)) keeps.listed (λ place from to. beside place (inl to)) identity_still all_closed);
      }
        where
          all_closed : AreClosedFrom long end y
          all_closed later past = elim (cases_eq later end) [
            | inl is ↦ subst (λ (at : ℕ). ¬ IsOpen (record_at long at y)) (sym is) closed
            | inr other ↦ still_closed later (omega (arith, past, other))
          ]

    pub group_appended : IsGroupWritten format identity group end x y → KeepsItems format y (items ++ group)
    group_appended written = with_group written.gates written.beside written.contents written.is_open

    group_old_or_new : IsGroupTorn format identity group end x y → KeepsItems format y items ⊎ KeepsItems format y (items ++ group)
    group_old_or_new torn = elim (cases_eq (gate_of (record_at long end y)) 1) [
      | inl is_open ↦ elim torn.torn [
        | inl same ↦ absurd (was_closed torn.gates torn.beside end (omega arith) (sym same ∙ is_open))
        | inr written ↦ inr (with_group torn.gates torn.beside written is_open)
      ]
      | inr closed ↦ inl (as_before torn.gates torn.beside closed)
    ]

  module _ (before after : DiskState) (identity : ℕ) (group : List I) (count : ℕ) (some : 1 ≤ length group) (knows : KnowsCount format identity count before) where
    appended_list : WritesGroup format identity group (format.headers + count) before after → (h : before.honest) → KeepsItems format after.reads ((knows.holds h).items ++ group)
    appended_list done h = let has = knows.holds h in group_appended identity has.items group count before.reads after.reads has.keeps has.counted (knows.identity_is h) some (done.written h)

    pub knows_group : long * (format.headers + count + length group) ≤ before.size → WritesGroup format identity group (format.headers + count) before after → KnowsCount format identity (count + length group) after
    knows_group inside done =
        let sum : format.headers + count + length group ≡ format.headers + (count + length group) = omega arith in
        record {
          size = rw done.nature.size knows.size;
          size_fits = rw done.nature.size knows.size_fits;
          fits = rw done.nature.size (subst (λ (n : ℕ). long * n ≤ before.size) sum inside);
          identity_is = λ honest.
              let h = done.nature.honest.1 honest in
              let beside = (done.written h).beside in
              same_identity format laws before.reads after.reads (λ has. beside 0 (inl (omega (arith, has)))) ∙ knows.identity_is h;
          holds = λ honest.
              let h = done.nature.honest.1 honest in
              let has = knows.holds h in
              record {
                leaves = done.leaves h;
                items = has.items ++ group;
                keeps = appended_list done h;
                counted = length-append has.items group ∙ ap (λ (n : ℕ). n + length group) has.counted;
              };
        }

    appended_nature : WritesGroup format identity group (format.headers + count) before after → before.honest → IsSoundDisk format after
    appended_nature done h = sound_one after after.reads ((knows.holds h).items ++ group) (rw done.nature.size knows.size) (done.leaves h) (appended_list done h)

    appended_finds : WritesGroup format identity group (format.headers + count) before after → before.honest → (items : List I) → ((other : List I) → MayFindItems format before other ↔ (other ≡ items))
        → (other : List I) → MayFindItems format after other ↔ (other ≡ items ++ group)
    appended_finds done h items only other =
        let holds = knows.holds h in
        let is : holds.items ≡ items = (only holds.items).0 (before.reads, (holds.leaves before.reads).1 refl, holds.keeps) in
        let list : holds.items ++ group ≡ items ++ group = ap (λ (l : List I). l ++ group) is in
        let finds = finds_list after after.reads (holds.items ++ group) (done.leaves h) (appended_list done h) other in
        ((λ could. finds.0 could ∙ list), (λ is. finds.1 (is ∙ sym list)))

    -- each image that a stop could leave keeps the list, or the list with the whole group
    each_list : (why : StoreFault) → GroupFailed format identity group (format.headers + count) before after why → (kept : Option ℕ) → (h : before.honest) → (bytes : List ℕ) → after.may_leave bytes
        → (items : List I) × KeepsItems format bytes items × OldOrWithGroup (records_state format before kept) group items
    each_list why failed kept h bytes left =
        let holds = knows.holds h in
        let old_list : MayFindItems format before holds.items = (before.reads, (holds.leaves before.reads).1 refl, holds.keeps) in
        elim (group_old_or_new identity holds.items group count before.reads bytes holds.keeps holds.counted (knows.identity_is h) some (failed.torn h bytes left)) [
          | inl keeps ↦ (holds.items, keeps, inl old_list)
          | inr keeps ↦ (holds.items ++ group, keeps, inr (holds.items, old_list, refl))
        ]

    append_stops : (why : StoreFault) → GroupFailed format identity group (format.headers + count) before after why → ReadsMayStay after → (kept : Option ℕ) → Stops (records_state format before kept) (records_state format after None) (OldOrWithGroup (records_state format before kept) group)
    append_stops why failed stays kept = record {
      nature = record {
        honest = failed.nature.honest;
        sound = λ h sound. record { size = rw failed.nature.size sound.size; each_keeps = λ bytes left. let list = each_list why failed kept h bytes left in (list.0, list.1) };
        calm = failed.nature.calm;
      };
      quiet = λ calm. absurd (failed.failed.not_calm calm);
      stopped = refl;
      within = λ h value finds.
          let list = each_list why failed kept h finds.0 finds.1 in
          subst (λ (items : List I). OldOrWithGroup (records_state format before kept) group items) (kept_once format laws list.0 value 0 format.headers finds.0 list.1.listed finds.2.listed) list.2;
      some = λ h sound.
          let left = stays (failed.nature.honest.0 h) in
          let list = each_list why failed kept h after.reads left in
          (list.0, (after.reads, left, list.1));
    }

-- what is known of a disk of records that may be stopped
module _ {I : Type 0} (format : FormatMeaning I) (identity : ℕ) (disk : DiskState) where
  pub kept_inside : (kept : Option ℕ) → KnowsRecords format identity disk kept → are_running kept ≡ true → format.record_length * (format.headers + count_in kept) ≤ disk.size
  kept_inside None knows runs = absurd (false≢true runs)
  kept_inside (Some count) knows runs = knows.fits

  pub leaves_one : (kept : Option ℕ) → KnowsRecords format identity disk kept → are_running kept ≡ true → disk.honest → LeavesReads disk
  leaves_one None knows runs honest = absurd (false≢true runs)
  leaves_one (Some count) knows runs honest = (knows.holds honest).leaves

  -- so many items as are counted are those that a restart finds
  pub counts_found : IsFormat format → (kept : Option ℕ) → KnowsRecords format identity disk kept → are_running kept ≡ true → disk.honest
      → (items : List I) × FindsOnly (records_state format disk kept) items × (length items ≡ count_in kept)
  counts_found laws None knows runs honest = absurd (false≢true runs)
  counts_found laws (Some count) knows runs honest =
      let holds = knows.holds honest in
      (holds.items, finds_list format laws disk disk.reads holds.items holds.leaves holds.keeps, holds.counted)

-- ---- the same of records

module _ {D F I : Type 0} (meaning : DiskMeaning D) (format_of : F → FormatMeaning I) (format : F) (laws : IsFormat (format_of format)) (old new : D) where
  abbrev before : DiskState
  before = meaning.state_of old

  abbrev after : DiskState
  after = meaning.state_of new

  abbrev with_kept : D → Option ℕ → RecordsOf D F
  with_kept disk kept = record { disk = disk; format = format; kept = kept }

  module _ {V : Type 0} (takes : V → I → V → Type 0) (visitor : V) where
    pub list_restarted : (visited : V) (kept : Option ℕ) (count : ℕ) → AreRecordsUp (format_of format) takes before after visitor visited count
        → ListRestarted (records_meaning meaning format_of) takes (with_kept old kept) (with_kept new (Some count)) visitor visited count
    list_restarted visited kept count up = record {
      nature = record { honest = up.nature.honest; sound = λ h sound. sound_up h; calm = up.nature.calm };
      sound = sound_up;
      no_failure = up.no_failure;
      runs = refl;
      taken = record {
        items = up.items;
        taken = up.taken;
        counted = up.counted;
        found = λ h. record { finds = finds_list (format_of format) laws after after.reads up.items (up.leaves h) (up.keeps h); was_found = (after.reads, up.found h, up.keeps h) };
      };
    }
      where
        sound_up : before.honest → IsSoundDisk (format_of format) after
        sound_up h = sound_one (format_of format) laws after after.reads up.items up.size (up.leaves h) (up.keeps h)

    pub list_restart_failed : (refuses : V → I → StoreFault → Type 0) (kept : Option ℕ) (why : StoreFault) → ReadsMayStay after → RecordsUpFailed (format_of format) takes refuses before after visitor why
        → ListRestartFailed (records_meaning meaning format_of) takes refuses (with_kept old kept) (with_kept new None) visitor why
    list_restart_failed refuses kept why stays failed = record {
      stops = stops_up (format_of format) laws takes before after visitor refuses kept why stays failed;
      cause = cause_up (format_of format) laws takes before after visitor refuses kept why failed;
    }

module _ {D F I : Type 0} (meaning : DiskMeaning D) (format_of : F → FormatMeaning I) (format : F) (laws : IsFormat (format_of format)) (old new : D) (identity : ℕ) (group : List I) (count : ℕ) (some : 1 ≤ length group) (knows : KnowsCount (format_of format) identity count (meaning.state_of old)) where
  abbrev with_count : D → Option ℕ → RecordsOf D F
  with_count disk kept = record { disk = disk; format = format; kept = kept }

  pub list_appended : (kept : Option ℕ) → kept ≡ Some count → WritesGroup (format_of format) identity group ((format_of format).headers + count) (meaning.state_of old) (meaning.state_of new)
      → IsGroupAppended (records_meaning meaning format_of) (with_count old kept) (with_count new (Some (count + length group))) group
  list_appended kept is done = record {
    was_running = ap are_running is;
    nature = record {
      honest = done.nature.honest;
      sound = λ h sound. appended_nature (format_of format) laws (meaning.state_of old) (meaning.state_of new) identity group count some knows done h;
      calm = done.nature.calm;
    };
    no_failure = done.no_failure;
    runs = refl;
    finds = appended_finds (format_of format) laws (meaning.state_of old) (meaning.state_of new) identity group count some knows done;
  }

  pub list_append_failed : (kept : Option ℕ) → kept ≡ Some count → (why : StoreFault) → ReadsMayStay (meaning.state_of new) → GroupFailed (format_of format) identity group ((format_of format).headers + count) (meaning.state_of old) (meaning.state_of new) why
      → GroupAppendFailed (records_meaning meaning format_of) (with_count old kept) (with_count new None) group why
  list_append_failed kept is why stays failed =
      subst (λ (fault : StoreFault). GroupAppendFailed (records_meaning meaning format_of) (with_count old kept) (with_count new None) group fault) (sym failed.failed.fault_is) (record {
        was_running = ap are_running is;
        stops = append_stops (format_of format) laws (meaning.state_of old) (meaning.state_of new) identity group count some knows why failed stays kept;
        failure = failed.failed.failure;
      })

-- the record of one item is read
module _ {D F I : Type 0} (meaning : DiskMeaning D) (format_of : F → FormatMeaning I) (format : F) (laws : IsFormat (format_of format)) (old new : D) (identity count place : ℕ) (knows : KnowsCount (format_of format) identity count (meaning.state_of old)) (less : place < count) where
  abbrev having : D → Option ℕ → RecordsOf D F
  having disk kept = record { disk = disk; format = format; kept = kept }

  sound_where : PreservesBytes (meaning.state_of old) (meaning.state_of new) → PreservesDisk (meaning.state_of old) (meaning.state_of new) → IsSoundDisk (format_of format) (meaning.state_of old) → IsSoundDisk (format_of format) (meaning.state_of new)
  sound_where same nature sound = record { size = rw nature.size sound.size; each_keeps = λ bytes left. sound.each_keeps bytes ((same.may_leave bytes).0 left) }

  finds_as_before : PreservesBytes (meaning.state_of old) (meaning.state_of new) → (items : List I) → MayFindItems (format_of format) (meaning.state_of new) items ↔ MayFindItems (format_of format) (meaning.state_of old) items
  finds_as_before same items = (
    (λ finds. (finds.0, (same.may_leave finds.0).0 finds.1, finds.2)),
    (λ finds. (finds.0, (same.may_leave finds.0).1 finds.1, finds.2)),
  )

  pub item_read : (kept : Option ℕ) → kept ≡ Some count → (bytes : List ℕ) → StaysSame (meaning.state_of old) (meaning.state_of new)
      → ((meaning.state_of old).honest → bytes ≡ record_at (format_of format).record_length ((format_of format).headers + place) (meaning.state_of old).reads)
      → IsItemRead (records_meaning meaning format_of) (λ item. (followers : ℕ) × HasContents (format_of format) (identity_in (format_of format) (meaning.state_of old).reads) ((format_of format).headers + place) followers item bytes) (having old kept) (having new (Some count)) place
  item_read kept is bytes same bytes_are = record {
    was_running = ap are_running is;
    stays = record {
      nature = record { honest = same.nature.honest; sound = λ h sound. sound_where same.bytes same.nature sound; calm = same.nature.calm };
      no_failure = same.no_failure;
      running = ap are_running (sym is);
      found = λ h. finds_as_before same.bytes;
    };
    says_it = λ h items finds.
        let holds = knows.holds h in
        let reads = (meaning.state_of old).reads in
        let keeps = subst (λ (bytes : List ℕ). KeepsItems (format_of format) bytes items) ((holds.leaves finds.0).0 finds.1) finds.2 in
        let counted : length holds.items ≡ length items = ap length (kept_once (format_of format) laws holds.items items 0 (format_of format).headers reads holds.keeps.listed keeps.listed) in
        let it = item_there (format_of format) items 0 (format_of format).headers place reads keeps.listed (omega (arith, less, counted, holds.counted)) in
        subst (λ (l : List ℕ). (item : I) × (slice_get items place ≡ Some item) × ((followers : ℕ) × HasContents (format_of format) (identity_in (format_of format) (meaning.state_of old).reads) ((format_of format).headers + place) followers item l)) (sym (bytes_are h)) it;
  }

-- a new disk in memory, of so many records, is blank
module _ {I : Type 0} (format : FormatMeaning I) (laws : IsFormat format) (none : format.headers ≡ 0) (records : ℕ) (some : 1 ≤ records) where
  abbrev bytes_of : ℕ
  bytes_of = format.record_length * records

  new_disk_is_zero : IsZeroDisk format (memory_disk_state (new_disk bytes_of))
  new_disk_is_zero =
      let size : length (replicate bytes_of 0) ≡ bytes_of = length-replicate bytes_of 0 in
      record {
        size = (records, some, size);
        zeros = λ bytes. (
          (λ could. same_number_lists bytes (replicate (length (replicate bytes_of 0)) 0) (could.same_length ∙ sym (length-replicate (length (replicate bytes_of 0)) 0))
              (λ place less. could.as_synced place (get_or-replicate bytes_of place false false (omega (arith, less, could.same_length, size))) ∙ ap (λ (count : ℕ). get_or (replicate count 0) place 0) (sym size))),
          (λ is. record { same_length = ap length is ∙ length-replicate (length (replicate bytes_of 0)) 0; as_synced = λ place none. ap (λ (l : List ℕ). get_or l place 0) (is ∙ ap (λ (count : ℕ). replicate count 0) size) }),
        );
      }

  pub new_records_are_new : IsNew (records_state format (memory_disk_state (new_disk bytes_of)) None) []
  new_records_are_new = blank_is_new format laws (memory_disk_state (new_disk bytes_of)) (record {
    honest = record {
      synced_length = refl;
      wanted_length = refl;
      unsynced_length = length-replicate bytes_of false ∙ sym (length-replicate bytes_of 0);
      reads_synced = λ place none. refl;
      wanted_synced = λ place none. refl;
    };
    calm = record { not_armed = refl; no_single_failure = refl };
    empty = zero_is_empty format laws (memory_disk_state (new_disk bytes_of)) none new_disk_is_zero;
  })

-- and one with a header in front
module _ {I : Type 0} (format : FormatMeaning I) (laws : IsFormat format) (header : List ℕ) (records : ℕ) (is : IsHeaderOf format header) (some : 1 ≤ records) where
  abbrev whole_size : ℕ
  whole_size = format.record_length * records

  abbrev all_bytes : List ℕ
  all_bytes = header ++ replicate (whole_size - length header) 0

  size_is : length all_bytes ≡ whole_size
  size_is =
      let less = no_later format.record_length format.headers records (omega (arith, laws.one_header, some)) in
      omega (arith, length-append header (replicate (whole_size - length header) 0), length-replicate {A = ℕ} (whole_size - length header) 0, less, is.whole)

  headed_leaves : (bytes : List ℕ) → CouldLeave (new_disk_with header whole_size) bytes ↔ (bytes ≡ all_bytes)
  headed_leaves bytes = (
    (λ could. same_number_lists bytes all_bytes could.same_length
        (λ place less. could.as_synced place (get_or-replicate whole_size place false false (omega (arith, less, could.same_length, size_is))))),
    (λ are. record { same_length = ap length are; as_synced = λ place none. ap (λ (l : List ℕ). get_or l place 0) are }),
  )

  headed_is_fresh : IsFreshDisk format header (memory_disk_state (new_disk_with header whole_size))
  headed_is_fresh = record {
    size = (records, some, size_is);
    header_is = is;
    fresh = λ bytes.
        let leaves = headed_leaves bytes in
        let same : all_bytes ≡ header ++ replicate (length all_bytes - length header) 0 = ap (λ (n : ℕ). header ++ replicate (n - length header) 0) (sym size_is) in
        ((λ could. leaves.0 could ∙ same), (λ are. leaves.1 (are ∙ sym same)));
  }

  pub headed_records_are_new : IsNew (records_state format (memory_disk_state (new_disk_with header whole_size)) None) []
  headed_records_are_new = blank_is_new format laws (memory_disk_state (new_disk_with header whole_size)) (record {
    honest = record {
      synced_length = refl;
      wanted_length = refl;
      unsynced_length = length-replicate whole_size false ∙ sym size_is;
      reads_synced = λ place none. refl;
      wanted_synced = λ place none. refl;
    };
    calm = record { not_armed = refl; no_single_failure = refl };
    empty = fresh_is_empty format laws header (memory_disk_state (new_disk_with header whole_size)) headed_is_fresh;
  })
