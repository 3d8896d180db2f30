-- An entry that was written is read back, and a module with it holds one key more.
use Rattle.std.proofs.Common.{◌≡◌, ◌<◌, ◌≤◌, ◌+◌, ◌*◌, ◌++◌, ◌∷◌, ◌∙◌, ℕ, zero, suc, List, [], Option, Some, None, ap, arith, drop, get_or, get_or-set_same, inl, inr, length, length-append, length-drop, length-set, refl, replicate, set, slice_index_or, subst, sym, take}
use borrow.Rule.Slice.PartMut.{put_mid}
use Rattle.std.proofs.Math.Seq.{drop-append-add, drop-append_seam, take-append_seam}
use Rattle.std.proofs.lemmas.List.{append_assoc, drop-append-le, drop-drop, drop-set-lt, drop-take, get_or-append_right, get_or-drop, get_or-replicate, get_or_append_left, length-replicate, length-take-le, set_split, take-append-drop, take-set-le, take_all}
use Rattle.std.proofs.lemmas.Slice.{drop-put_mid}
use Rattle.byteorder.specs.Endian.{big_bytes, big_number}
use Rattle.byteorder.specs.Numbers.{big_number-reads_back}
use Rattle.duk_frame.specs.Stream.{said_length}
use Rattle.duk_hsm.specs.Keys.{HsmKeys}
use Rattle.duk_hsm.specs.Load.{IsBdkLoaded, IsZoneLoaded, key_set}
use Rattle.duk_tdes.specs.Tdes.{IsTdesLength}
use Rattle.duk_calls.specs.Modules.{AreLoaded, IsEntryLoaded, IsModule, block_in, count_in, entry_at, entry_bytes, image_with, kind_in, lmk_alone, lmk_in, new_image, prefix_in}
use Rattle.duk_calls.specs.Answer.{with_front}
use Rattle.duk_calls.specs.inner.Modules.{IsAppended}
use Rattle.duk_calls.proofs.Parts.{length-written, part_before, part_within}

-- the length of the key block
said_of_entry : (kind : ℕ) (prefix block behind : List ℕ) → length block ≤ 512 → said_length (entry_bytes kind prefix block ++ behind) ≡ length block
said_of_entry kind prefix block behind fits =
    ap (big_number 2) (append_assoc (big_bytes 2 (length block)) (kind ∷ prefix ++ block) behind)
    ∙ big_number-reads_back 2 (length block) ((kind ∷ prefix ++ block) ++ behind) (omega (arith, fits))

-- what is read of an entry is what was written
pub record IsReadBack (kind : ℕ) (prefix block entry : List ℕ) : Type 0 where
  pub kind_is : kind_in entry ≡ kind
  pub prefix_is : prefix_in entry ≡ prefix
  pub block_is : block_in entry ≡ block

pub read_back : (kind : ℕ) (prefix block behind : List ℕ) → length prefix ≡ 5 → length block ≤ 512 → IsReadBack kind prefix block (entry_bytes kind prefix block ++ behind)
read_back kind prefix block behind size fits =
    let entry = entry_bytes kind prefix block in
    let long : 8 + length block ≡ length entry = omega (arith, size, length-append prefix block) in
    record {
      kind_is = refl;
      prefix_is =
          ap (take 5) (append_assoc prefix block behind)
          ∙ ap (λ n. take n (prefix ++ (block ++ behind))) (sym size)
          ∙ take-append_seam prefix (block ++ behind);
      block_is =
          ap (λ n. drop 8 (take (8 + n) (entry ++ behind))) (said_of_entry kind prefix block behind fits)
          ∙ ap (λ n. drop 8 (take n (entry ++ behind))) long
          ∙ ap (drop 8) (take-append_seam entry behind)
          ∙ ap (λ n. drop n (prefix ++ block)) (sym size)
          ∙ drop-append_seam prefix block;
    }

-- entries that stand in another image too are loaded of it too
pub loaded_along : (image new : List ℕ) (count : ℕ) (keys : HsmKeys) → lmk_in new ≡ lmk_in image
    → ((i : ℕ) → i < count → entry_at new i ≡ entry_at image i) → AreLoaded image count keys → AreLoaded new count keys
loaded_along image new zero keys lmk same are = are ∙ ap lmk_alone (sym lmk)
loaded_along image new (suc count) keys lmk same are = (
  are.0,
  loaded_along image new count are.0 lmk (λ i below. same i (omega (arith, below))) are.1,
  subst (λ entry. IsEntryLoaded entry are.0 keys) (sym (same count (omega arith))) are.2,
)

-- how many zone keys there are
abbrev pub zones : Option (List ℕ) → ℕ
zones None = 0
zones (Some zone) = 1

pub one_zone : (zone : Option (List ℕ)) → zones zone ≤ 1
one_zone None = omega arith
one_zone (Some zone) = omega arith

-- as many entries are used as there are keys
pub record AreCounted (keys : HsmKeys) (count : ℕ) : Type 0 where
  pub few : length keys.key_sets ≤ 8
  pub all : count ≡ length keys.key_sets + zones keys.zone

pub counted : (image : List ℕ) (count : ℕ) (keys : HsmKeys) → AreLoaded image count keys → AreCounted keys count
counted image zero keys are =
    let sets : length keys.key_sets ≡ 0 = ap (λ (keys : HsmKeys). length keys.key_sets) are in
    let zone : zones keys.zone ≡ 0 = ap (λ (keys : HsmKeys). zones keys.zone) are in
    record { few = omega (arith, sets); all = omega (arith, sets, zone) }
counted image (suc count) keys are = more are.0 keys count (counted image count are.0 are.1) (entry_at image count) are.2
  where
    more : (before keys : HsmKeys) (count : ℕ) → AreCounted before count → (entry : List ℕ) → IsEntryLoaded entry before keys → AreCounted keys (suc count)
    more before keys count old entry (inl is) =
        let sets : length keys.key_sets ≡ length before.key_sets + 1 =
        ap (λ (keys : HsmKeys). length keys.key_sets) is.1.keys_are ∙ length-append before.key_sets (key_set (prefix_in entry) is.1.bdk ∷ []) in
        let zone : zones keys.zone ≡ zones before.zone = ap (λ (keys : HsmKeys). zones keys.zone) is.1.keys_are in
        record { few = omega (arith, sets, is.1.slot_was_free); all = omega (arith, sets, zone, old.all) }
    more before keys count old entry (inr is) =
        let sets : length keys.key_sets ≡ length before.key_sets = ap (λ (keys : HsmKeys). length keys.key_sets) is.1.keys_are in
        let zone : zones keys.zone ≡ 1 = ap (λ (keys : HsmKeys). zones keys.zone) is.1.keys_are in
        let none : zones before.zone ≡ 0 = ap zones is.1.had_none in
        record { few = omega (arith, sets, old.few); all = omega (arith, sets, zone, none, old.all) }

pub room_for_bdk : (image : List ℕ) (before after : HsmKeys) (prefix block : List ℕ) → IsModule image before → IsBdkLoaded before prefix block after → count_in image < 9
room_for_bdk image before after prefix block is loaded =
    let old = counted image (count_in image) before is.are_loaded in
    omega (arith, old.all, loaded.slot_was_free, one_zone before.zone)

pub room_for_zone : (image : List ℕ) (before after : HsmKeys) (block : List ℕ) → IsModule image before → IsZoneLoaded before block after → count_in image < 9
room_for_zone image before after block is loaded =
    let old = counted image (count_in image) before is.are_loaded in
    let none : zones before.zone ≡ 0 = ap zones loaded.had_none in
    omega (arith, old.all, old.few, none)

-- a module with an entry more, of which this key is loaded
is_module_with : (image new entry : List ℕ) (before after : HsmKeys) → IsModule image before → IsAppended entry image new → count_in image < 9
    → IsEntryLoaded (entry_at new (count_in image)) before after → IsModule new after
is_module_with image new entry before after is appended room loaded =
    let count = count_in image in
    let next : suc count ≡ count_in new = omega (arith, appended.count_is) in
    record {
      length_is = appended.length_is;
      lmk_is = subst (λ lmk. IsTdesLength (length lmk)) (sym appended.lmk_is) is.lmk_is;
      nine_at_most = omega (arith, appended.count_is, room);
      are_loaded = subst (λ n. AreLoaded new n after) next
          (before, loaded_along image new count before appended.lmk_is appended.before is.are_loaded, loaded);
    }

pub module_with_bdk : (image new prefix block : List ℕ) (before after : HsmKeys) → IsModule image before → length prefix ≡ 5 → length block ≤ 512
    → IsAppended (entry_bytes 0 prefix block) image new → IsBdkLoaded before prefix block after → IsModule new after
module_with_bdk image new prefix block before after is size fits appended loaded =
    let room = room_for_bdk image before after prefix block is loaded in
    let count = count_in image in
    let read : IsReadBack 0 prefix block (entry_at new count) =
    subst (IsReadBack 0 prefix block) (sym appended.entry_is) (read_back 0 prefix block (drop (length (entry_bytes 0 prefix block)) (entry_at image count)) size fits) in
    is_module_with image new (entry_bytes 0 prefix block) before after is appended room
    (inl (read.kind_is, subst (λ prefix. IsBdkLoaded before prefix (block_in (entry_at new count)) after) (sym read.prefix_is) (subst (λ block. IsBdkLoaded before prefix block after) (sym read.block_is) loaded)))

pub module_with_zone : (image new prefix block : List ℕ) (before after : HsmKeys) → IsModule image before → length prefix ≡ 5 → length block ≤ 512
    → IsAppended (entry_bytes 1 prefix block) image new → IsZoneLoaded before block after → IsModule new after
module_with_zone image new prefix block before after is size fits appended loaded =
    let room = room_for_zone image before after block is loaded in
    let count = count_in image in
    let read : IsReadBack 1 prefix block (entry_at new count) =
    subst (IsReadBack 1 prefix block) (sym appended.entry_is) (read_back 1 prefix block (drop (length (entry_bytes 1 prefix block)) (entry_at image count)) size fits) in
    is_module_with image new (entry_bytes 1 prefix block) before after is appended room
    (inr (read.kind_is, subst (λ block. IsZoneLoaded before block after) (sym read.block_is) loaded))

-- what a module has in its last bytes depends on nothing before them
same_from : (xs ys : List ℕ) → drop 4681 xs ≡ drop 4681 ys → lmk_in xs ≡ lmk_in ys
same_from xs ys same =
    let place : slice_index_or xs 4681 0 ≡ slice_index_or ys 4681 0 =
    sym (get_or-drop 4681 xs 0 0) ∙ ap (λ behind. get_or behind 0 0) same ∙ get_or-drop 4681 ys 0 0 in
    let behind : drop 4682 xs ≡ drop 4682 ys = sym (drop-drop 1 4681 xs) ∙ ap (drop 1) same ∙ drop-drop 1 4681 ys in
    drop-take 4682 (slice_index_or xs 4681 0) xs
    ∙ ap (λ n. take n (drop 4682 xs)) place
    ∙ ap (take (slice_index_or ys 4681 0)) behind
    ∙ sym (drop-take 4682 (slice_index_or ys 4681 0) ys)

-- an image with so many entries counted, and one more
abbrev counted_in : List ℕ → ℕ → List ℕ
counted_in written count = take 4680 written ++ (count + 1) ∷ drop 4681 written

-- what an entry covers the front of stays behind it, in its own place and further behind
behind_entry : (entry bytes : List ℕ) → length entry ≤ 520 → 520 ≤ length bytes
    → with_front entry (take 520 bytes) ++ drop 520 bytes ≡ with_front entry bytes
behind_entry entry bytes fits long =
    let size = length entry in
    append_assoc entry (drop size (take 520 bytes)) (drop 520 bytes)
    ∙ ap (λ rest. entry ++ rest)
    (sym (drop-append-le size (take 520 bytes) (drop 520 bytes) (omega (arith, fits, length-take-le 520 bytes long)))
    ∙ ap (drop size) (take-append-drop 520 bytes))

-- an entry that is written behind the others, and counted
pub appended : (entry image part : List ℕ) (count k : ℕ) → length image ≡ 4706 → count < 9 → count ≡ count_in image → k ≡ 520 → length part ≡ 520
    → part ≡ with_front entry (entry_at image count) → IsAppended entry image (set (put_mid (520 * count) k image part) 4680 (count + 1))
appended entry image part count k size few counted wide long written =
    let put = put_mid (520 * count) k image part in
    let new = set put 4680 (count + 1) in
    let put_long : length put ≡ 4706 = length-written (520 * count) k image part (omega (arith, long, wide)) (omega (arith, few, size, wide)) ∙ size in
    let behind : List ℕ = drop (520 * count) image in
    let behind_long : 520 ≤ length behind = omega (arith, few, size, length-drop (520 * count) image) in
    let slot : List ℕ = take 520 behind in
    let slot_long : length slot ≡ 520 = length-take-le 520 behind behind_long in
    let fits : length entry ≤ 520 =
    omega (arith, long, ap length written, length-append entry (drop (length entry) slot), length-drop (length entry) slot, slot_long) in
    let put_is : put ≡ take (520 * count) image ++ with_front entry behind =
    ap (λ rest. take (520 * count) image ++ rest)
    (ap (λ part. part ++ drop k behind) written
    ∙ ap (λ n. with_front entry slot ++ drop n behind) wide
    ∙ behind_entry entry behind fits behind_long) in
    record {
      length_is = length-set put 4680 (count + 1) ∙ put_long;
      count_is = get_or-set_same put 4680 (count + 1) 0 (omega (arith, put_long)) ∙ ap (λ n. n + 1) counted;
      lmk_is = same_from new image
          (drop-set-lt 4681 put 4680 (count + 1) (omega arith)
          ∙ drop-put_mid (520 * count) k image part 4681 (omega (arith, few, wide)) (omega (arith, few, size)) (omega (arith, long, wide)));
      before = λ i below.
          let lower : i < count = omega (arith, below, counted) in
          kept put (count + 1) (520 * i) (omega (arith, lower, few))
          ∙ part_before 520 (520 * i) (520 * count) k image part (omega (arith, lower)) (omega (arith, few, size));
      entry_is = subst (λ n. entry_at new n ≡ with_front entry (entry_at image n)) counted
          (kept put (count + 1) (520 * count) (omega (arith, few))
          ∙ part_within 520 (520 * count) 0 (520 * count) k image part (omega arith) (omega (arith, long)) (omega (arith, few, size))
          ∙ take_all 520 part (omega (arith, long))
          ∙ written);
      image_is = subst (λ n. new ≡ counted_in (take (520 * n) image ++ with_front entry (drop (520 * n) image)) n) counted
          (set_split put 4680 (count + 1) (omega (arith, put_long)) ∙ ap (λ written. counted_in written count) put_is);
    }
  where
    -- a part before the count stays
    kept : (put : List ℕ) (n i : ℕ) → i + 520 ≤ 4680 → take 520 (drop i (set put 4680 n)) ≡ take 520 (drop i put)
    kept put n i before =
        sym (drop-take i 520 (set put 4680 n))
        ∙ ap (drop i) (take-set-le (i + 520) put 4680 n before)
        ∙ drop-take i 520 put

-- the image of a new module is one
pub new_module : (lmk : List ℕ) → IsTdesLength (length lmk) → IsModule (new_image lmk) (lmk_alone lmk)
new_module lmk tdes =
    let zeros : List ℕ = replicate 4681 0 in
    let rest : List ℕ = drop (length lmk) (replicate 24 0) in
    let behind : List ℕ = lmk ++ rest in
    let short : length lmk ≤ 24 = at_most tdes in
    let long : length zeros ≡ 4681 = length-replicate {A = ℕ} 4681 0 in
    let count : count_in (new_image lmk) ≡ 0 =
    get_or_append_left zeros (length lmk ∷ behind) 0 4680 (omega (arith, long)) ∙ get_or-replicate 4681 4680 0 0 (omega arith) in
    let size : slice_index_or (new_image lmk) 4681 0 ≡ length lmk =
    get_or-append_right zeros (length lmk ∷ behind) 4681 4681 0 long (omega arith) in
    let place : 4682 ≡ length zeros + 1 = omega (arith, long) in
    let key : lmk_in (new_image lmk) ≡ lmk =
    drop-take 4682 (slice_index_or (new_image lmk) 4681 0) (new_image lmk)
    ∙ ap (λ n. take n (drop 4682 (new_image lmk))) size
    ∙ ap (take (length lmk)) (ap (λ n. drop n (new_image lmk)) place ∙ drop-append-add zeros (length lmk ∷ behind) 1)
    ∙ take-append_seam lmk rest in
    record {
      length_is = omega (arith, length-append zeros (length lmk ∷ behind), long, length-append lmk rest, length-drop {A = ℕ} (length lmk) (replicate 24 0), length-replicate {A = ℕ} 24 0, short);
      lmk_is = subst (λ lmk. IsTdesLength (length lmk)) (sym key) tdes;
      nine_at_most = omega (arith, count);
      are_loaded = subst (λ n. AreLoaded (new_image lmk) n (lmk_alone lmk)) (sym count) (ap lmk_alone (sym key));
    }
  where
    at_most : {n : ℕ} → IsTdesLength n → n ≤ 24
    at_most (inl is) = omega (arith, is)
    at_most (inr is) = omega (arith, is)
