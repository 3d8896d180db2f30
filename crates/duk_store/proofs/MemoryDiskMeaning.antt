-- What the steps of a disk in memory do to it.
use Rattle.std.proofs.Common.{◌≡◌, ◌⊎◌, inl, inr, ℕ, ◌+◌, ◌-◌, ◌<◌, ◌≤◌, List, length, take, drop, get_or, replicate, false, refl, sym, ap, ◌∙◌, subst, arith}
use Rattle.std.proofs.lemmas.Bool.{false≢true}
use Rattle.std.proofs.lemmas.List.{places, ext_get_or, length-replicate}
use Rattle.std.proofs.lemmas.Grind.{same_number_lists}
use Rattle.duk_store.specs.Disk.{DiffersWithin, written}
use Rattle.duk_store.specs.MemoryDisk.{MemoryDisk, CouldLeave, IsHonestDisk, IsSyncedAt, marked, wanting, synced_disk}
use Rattle.duk_store.specs.inner.MemoryDisk.{IsUnsyncedWithin, IsMarked}
use Rattle.duk_store.proofs.MemoryDiskBytes.{IsOutside, false_or_true, flag_false, over, inside_or_outside, length_marked, length_over, marked_outside, marked_synced, marked_unsynced, over_inside, over_outside}

-- a disk with a write under way is honest
wanting_honest : (disk : MemoryDisk) (at : ℕ) (bytes : List ℕ) → IsHonestDisk disk → at + length bytes ≤ length disk.reads → IsHonestDisk (wanting disk at bytes)
wanting_honest disk at bytes honest inside =
    let in_wanted : at + length bytes ≤ length disk.wanted = omega (arith, honest.wanted_length) in
    let in_unsynced : at + length bytes ≤ length disk.unsynced = omega (arith, honest.unsynced_length) in
    record {
      synced_length = honest.synced_length;
      wanted_length = length_over disk.wanted bytes at (length bytes) in_wanted refl ∙ honest.wanted_length;
      unsynced_length = length_marked disk.unsynced at (length bytes) in_unsynced ∙ honest.unsynced_length;
      reads_synced = λ place is_synced. honest.reads_synced place (marked_synced disk.unsynced at (length bytes) place in_unsynced is_synced).1;
      wanted_synced = λ place is_synced.
          let old : IsOutside at (length bytes) place × IsSyncedAt disk place = marked_synced disk.unsynced at (length bytes) place in_unsynced is_synced in
          over_outside disk.wanted bytes at (length bytes) place 0 in_wanted refl old.0 ∙ honest.wanted_synced place old.1;
    }

-- it is kept within each range around what was written before and its own
pub wanting_kept : (from to low high at : ℕ) (disk : MemoryDisk) (bytes : List ℕ) → IsUnsyncedWithin from to disk → at + length bytes ≤ length disk.reads → low ≤ at → at + length bytes ≤ high → high ≤ length disk.reads → ((place : ℕ) → from ≤ place → place < to → (low ≤ place) × (place < high)) → IsUnsyncedWithin low high (wanting disk at bytes)
wanting_kept from to low high at disk bytes kept inside from_low to_high high_inside wider =
    let in_unsynced : at + length bytes ≤ length disk.unsynced = omega (arith, kept.honest.unsynced_length) in
    record {
      in_order = omega arith;
      inside = high_inside;
      around = λ place is_unsynced. elim (marked_unsynced disk.unsynced at (length bytes) place in_unsynced is_unsynced) [
        | inl is_inside ↦ (omega arith, omega arith)
        | inr was_unsynced ↦ wider place (kept.around place was_unsynced).0 (kept.around place was_unsynced).1
      ];
      honest = wanting_honest disk at bytes kept.honest inside;
    }

-- bytes that are written where they are noted leave it honest
put_honest : (disk : MemoryDisk) (at : ℕ) (bytes : List ℕ) → IsHonestDisk disk → at + length bytes ≤ length disk.reads → IsMarked disk at (length bytes) → IsHonestDisk (record disk { reads = written disk.reads at bytes })
put_honest disk at bytes honest inside is_marked =
    let size : length (written disk.reads at bytes) ≡ length disk.reads = length_over disk.reads bytes at (length bytes) inside refl in
    record {
      synced_length = honest.synced_length ∙ sym size;
      wanted_length = honest.wanted_length ∙ sym size;
      unsynced_length = honest.unsynced_length ∙ sym size;
      reads_synced = λ place is_synced. elim (inside_or_outside at (length bytes) place) [
        | inl is_inside ↦ absurd (false≢true (sym is_synced ∙ is_marked place is_inside.0 is_inside.1))
        | inr outside ↦ over_outside disk.reads bytes at (length bytes) place 0 inside refl outside ∙ honest.reads_synced place is_synced
      ];
      wanted_synced = honest.wanted_synced;
    }

-- and kept within the same range
pub put_kept : (from to at : ℕ) (disk : MemoryDisk) (bytes : List ℕ) → IsUnsyncedWithin from to disk → at + length bytes ≤ length disk.reads → IsMarked disk at (length bytes) → IsUnsyncedWithin from to (record disk { reads = written disk.reads at bytes })
put_kept from to at disk bytes kept inside is_marked =
    let size : length (written disk.reads at bytes) ≡ length disk.reads = length_over disk.reads bytes at (length bytes) inside refl in
    record {
      in_order = kept.in_order;
      inside = omega arith;
      around = kept.around;
      honest = put_honest disk at bytes kept.honest inside is_marked;
    }

-- a list that agrees with the bytes that a read gives but in this range, once they are written over
-- it
over_by_reads : (list reads : List ℕ) (from to : ℕ) → from ≤ to → to ≤ length reads → length list ≡ length reads → ((place : ℕ) → (place < from) ⊎ (to ≤ place) → get_or list place 0 ≡ get_or reads place 0) → written list from (take (to - from) (drop from reads)) ≡ reads
over_by_reads list reads from to in_order inside size same =
    let count : length (take (to - from) (drop from reads)) ≡ to - from = grind (arith, places) in
    let at_end : from + (to - from) ≡ to = omega arith in
    let within : from + (to - from) ≤ length list = omega arith in
    rw count
    (same_number_lists _ _ (length_over list (take (to - from) (drop from reads)) from (to - from) within count ∙ size) (λ place below.
    elim (inside_or_outside from (to - from) place) [
      | inl is_inside ↦ over_inside list (take (to - from) (drop from reads)) from (to - from) place 0 within count is_inside ∙ grind (arith, places)
      | inr outside ↦ over_outside list (take (to - from) (drop from reads)) from (to - from) place 0 within count outside ∙ same place (subst (λ end. (place < from) ⊎ (end ≤ place)) at_end outside)
    ]))

-- outside the range around what was written, nothing was
synced_outside : (from to : ℕ) (disk : MemoryDisk) → IsUnsyncedWithin from to disk → (place : ℕ) → (place < from) ⊎ (to ≤ place) → IsSyncedAt disk place
synced_outside from to disk kept place outside = elim (false_or_true (get_or disk.unsynced place false)) [
  | inl is_synced ↦ is_synced
  | inr is_unsynced ↦
      let around : (from ≤ place) × (place < to) = kept.around place is_unsynced in
      elim outside [
        | inl before ↦ absurd (omega arith)
        | inr following ↦ absurd (omega arith)
      ]
]

-- what was synced, with what a read gives over that range
pub settled_synced : (from to : ℕ) (disk : MemoryDisk) → IsUnsyncedWithin from to disk → written disk.synced from (take (to - from) (drop from disk.reads)) ≡ disk.reads
settled_synced from to disk kept =
    over_by_reads disk.synced disk.reads from to kept.in_order kept.inside kept.honest.synced_length (λ place outside. sym (kept.honest.reads_synced place (synced_outside from to disk kept place outside)))

-- what is wanted, with what a read gives over that range
pub settled_wanted : (from to : ℕ) (disk : MemoryDisk) → IsUnsyncedWithin from to disk → written disk.wanted from (take (to - from) (drop from disk.reads)) ≡ disk.reads
settled_wanted from to disk kept =
    over_by_reads disk.wanted disk.reads from to kept.in_order kept.inside kept.honest.wanted_length (λ place outside.
    let is_synced : IsSyncedAt disk place = synced_outside from to disk kept place outside in
    kept.honest.wanted_synced place is_synced ∙ sym (kept.honest.reads_synced place is_synced))

-- no place of it is noted any more
pub settled_unsynced : (from to : ℕ) (disk : MemoryDisk) → IsUnsyncedWithin from to disk → over disk.unsynced from (to - from) (replicate (to - from) false) ≡ replicate (length disk.reads) false
settled_unsynced from to disk kept =
    let at_end : from + (to - from) ≡ to = let in_order : from ≤ to = kept.in_order in omega arith in
    let within : from + (to - from) ≤ length disk.unsynced = let inside : to ≤ length disk.reads = kept.inside in omega (arith, kept.honest.unsynced_length) in
    let count : length (replicate (to - from) false) ≡ to - from = length-replicate (to - from) false in
    ext_get_or false _ _ (length_over disk.unsynced (replicate (to - from) false) from (to - from) within count ∙ (kept.honest.unsynced_length ∙ sym (length-replicate (length disk.reads) false))) (λ place below. elim (inside_or_outside from (to - from) place) [
      | inl is_inside ↦ over_inside disk.unsynced (replicate (to - from) false) from (to - from) place false within count is_inside ∙ (flag_false (to - from) (place - from) ∙ sym (flag_false (length disk.reads) place))
      | inr outside ↦ over_outside disk.unsynced (replicate (to - from) false) from (to - from) place false within count outside ∙ (synced_outside from to disk kept place (subst (λ end. (place < from) ⊎ (end ≤ place)) at_end outside) ∙ sym (flag_false (length disk.reads) place))
    ])

-- a disk of which all is synced is honest, and nothing was written since
pub settled_kept : (from to : ℕ) (disk : MemoryDisk) → IsUnsyncedWithin from to disk → IsUnsyncedWithin 0 0 (synced_disk disk)
settled_kept from to disk _ = record {
  in_order = omega arith;
  inside = omega arith;
  around = λ place is_unsynced. absurd (false≢true (sym (flag_false (length disk.reads) place) ∙ is_unsynced));
  honest = record {
    synced_length = refl;
    wanted_length = refl;
    unsynced_length = length-replicate (length disk.reads) false;
    reads_synced = λ place is_synced. refl;
    wanted_synced = λ place is_synced. refl;
  };
}

-- a state that a stop could leave once a write was tried comes from one that it could leave before
pub write_leaves : (old new : MemoryDisk) (at : ℕ) (bytes : List ℕ) → at + length bytes ≤ length old.reads → length new.reads ≡ length old.reads → new.synced ≡ old.synced → new.unsynced ≡ marked at (length bytes) old.unsynced → IsHonestDisk old → (state : List ℕ) → CouldLeave new state → (before : List ℕ) × CouldLeave old before × DiffersWithin at (length bytes) before state
write_leaves old new at bytes inside size_is synced_is unsynced_is honest state could =
    let count = length bytes in
    let piece = take count (drop at old.synced) in
    let size : length piece ≡ count = grind (arith, places, honest.synced_length) in
    let within : at + count ≤ length state = omega (arith, could.same_length) in
    let in_unsynced : at + count ≤ length old.unsynced = omega (arith, honest.unsynced_length) in
    let same_size : length (over state at count piece) ≡ length state = length_over state piece at count within size in (
      over state at count piece,
      record {
        same_length = same_size ∙ (could.same_length ∙ size_is);
        as_synced = λ place is_synced. elim (inside_or_outside at count place) [
          | inl is_inside ↦ over_inside state piece at count place 0 within size is_inside ∙ grind (arith, places)
          | inr outside ↦
              let new_synced : IsSyncedAt new place = ap (λ flags. get_or flags place false) unsynced_is ∙ (marked_outside old.unsynced at count place in_unsynced outside ∙ is_synced) in
              over_outside state piece at count place 0 within size outside ∙ (could.as_synced place new_synced ∙ ap (λ synced. get_or synced place 0) synced_is)
        ];
      },
      record {
        same_length = sym same_size;
        outside = λ place outside. sym (over_outside state piece at count place 0 within size outside);
      },
    )
