-- What a write to a slot leaves of a disk, whole or torn.
use Rattle.std.proofs.Common.{◌≡◌, inl, inr, ℕ, ◌+◌, ◌<◌, ◌≤◌, List, [], ◌∷◌, ◌++◌, length, get_or, take, drop, refl, sym, ◌∙◌, ap, subst, arith, length-append, length-drop, append_assoc, rules}
use Rattle.std.proofs.lemmas.Grind.{same_number_lists}
use Rattle.std.proofs.lemmas.List.{append-nil, drop-drop, drop-take, drop_all, drop_at, get_or-drop, get_or-take, length-take, length-take-le, take-take, take_all, take_at}
use Rattle.duk_store.specs.Disk.{DiffersWithin, range_of, written}
use Rattle.duk_store.specs.SlotFormat.{after_commit, commit_of, slot_at}
use Rattle.duk_store.specs.inner.SlotFormat.{commit_place}
use Rattle.duk_store.specs.inner.SlotSteps.{ChangesAt}
use Rattle.duk_store.specs.declared.slot_format.Place.{Place}
use Rattle.duk_store.specs.declared.slot_format.Place.TheVariants.{First, Second}

-- fronts and backs of lists with the same numbers there
same_front : (count : ℕ) (x y : List ℕ) → length y ≡ length x → ((i : ℕ) → i < count → get_or y i 0 ≡ get_or x i 0) → take count y ≡ take count x
same_front count x y lengths same =
    let sizes : length (take count y) ≡ length (take count x) = search (rules, length-take count y, length-take count x, lengths) in
    same_number_lists (take count y) (take count x) sizes
    (λ k less. let below : k < count = omega (arith, less, length-take count y) in get_or-take count y k 0 below ∙ same k below ∙ sym (get_or-take count x k 0 below))

same_back : (count : ℕ) (x y : List ℕ) → length y ≡ length x → ((i : ℕ) → count ≤ i → get_or y i 0 ≡ get_or x i 0) → drop count y ≡ drop count x
same_back count x y lengths same =
    let sizes : length (drop count y) ≡ length (drop count x) = omega (arith, length-drop count y, length-drop count x, lengths) in
    same_number_lists (drop count y) (drop count x) sizes
    (λ k less. get_or-drop count y k 0 ∙ same (count + k) (omega arith) ∙ sym (get_or-drop count x k 0))

-- bytes that have the same front and the same back
pub record IsAround (at count : ℕ) (x y : List ℕ) : Type 0 where
  pub front : take at y ≡ take at x
  pub back : drop (at + count) y ≡ drop (at + count) x

pub around_torn : (at count : ℕ) (x y : List ℕ) → DiffersWithin at count x y → IsAround at count x y
around_torn at count x y torn = record {
  front = same_front at x y torn.same_length (λ i less. torn.outside i (inl less));
  back = same_back (at + count) x y torn.same_length (λ i past. torn.outside i (inr past));
}

pub around_written : (at : ℕ) (x bytes : List ℕ) → at + length bytes ≤ length x → IsAround at (length bytes) x (written x at bytes)
around_written at x bytes fits =
    let rest = drop (at + length bytes) x in
    let size : length (take at x) ≡ at = length-take-le at x (omega (arith, fits)) in
    record {
      front = take_at (take at x) (bytes ++ rest) at size;
      back = ap (λ (l : List ℕ). drop (at + length bytes) l) (sym (append_assoc (take at x) bytes rest))
          ∙ drop_at (take at x ++ bytes) rest (at + length bytes) (omega (arith, length-append (take at x) bytes, size));
    }

-- what is written around the bytes after a commit byte leaves the commit byte, and the other slot
following : (place : Place) (x y : List ℕ) → IsAround (commit_place place + 1) 511 x y → ChangesAt place (λ before after. commit_of after ≡ commit_of before) x y
following First x y around = record {
  this = get_or-take 512 y 0 0 (omega arith) ∙ sym (get_or-take 1 y 0 0 (omega arith)) ∙ ap (λ (l : List ℕ). get_or l 0 0) around.front
      ∙ get_or-take 1 x 0 0 (omega arith) ∙ sym (get_or-take 512 x 0 0 (omega arith));
  beside = around.back;
}
following Second x y around = record {
  this = get_or-drop 512 y 0 0 ∙ sym (get_or-take 513 y 512 0 (omega arith)) ∙ ap (λ (l : List ℕ). get_or l 512 0) around.front
      ∙ get_or-take 513 x 512 0 (omega arith) ∙ sym (get_or-drop 512 x 0 0);
  beside = sym (take-take 512 513 y (omega arith)) ∙ ap (λ (l : List ℕ). take 512 l) around.front ∙ take-take 512 513 x (omega arith);
}

-- what is written around a commit byte leaves what stands after it, and the other slot
commit : (place : Place) (x y : List ℕ) → IsAround (commit_place place) 1 x y → ChangesAt place (λ before after. after_commit after ≡ after_commit before) x y
commit First x y around = record {
  this = drop-take 1 511 y ∙ ap (λ (l : List ℕ). take 511 l) around.back ∙ sym (drop-take 1 511 x);
  beside = sym (drop-drop 511 1 y) ∙ ap (λ (l : List ℕ). drop 511 l) around.back ∙ drop-drop 511 1 x;
}
commit Second x y around = record { this = drop-drop 1 512 y ∙ around.back ∙ sym (drop-drop 1 512 x); beside = around.front }

pub torn_after : (place : Place) (x y : List ℕ) → DiffersWithin (commit_place place + 1) 511 x y → ChangesAt place (λ before after. commit_of after ≡ commit_of before) x y
torn_after place x y torn = following place x y (around_torn (commit_place place + 1) 511 x y torn)

pub torn_commit : (place : Place) (x y : List ℕ) → DiffersWithin (commit_place place) 1 x y → ChangesAt place (λ before after. after_commit after ≡ after_commit before) x y
torn_commit place x y torn = commit place x y (around_torn (commit_place place) 1 x y torn)

-- what stands after a commit byte once it was written
module _ (x bytes : List ℕ) (size : length x ≡ 1024) (whole : length bytes ≡ 511) where
  new_contents : (place : Place) → after_commit (slot_at place (written x (commit_place place + 1) bytes)) ≡ bytes
  new_contents First =
      let rest = drop (1 + length bytes) x in
      let one : length (take 1 x) ≡ 1 = length-take-le 1 x (omega (arith, size)) in
      drop-take 1 511 (take 1 x ++ (bytes ++ rest)) ∙ ap (λ (l : List ℕ). take 511 l) (drop_at (take 1 x) (bytes ++ rest) 1 one) ∙ take_at bytes rest 511 whole
  new_contents Second =
      let rest = drop (513 + length bytes) x in
      let front : length (take 513 x) ≡ 513 = length-take-le 513 x (omega (arith, size)) in
      drop-drop 1 512 (take 513 x ++ (bytes ++ rest)) ∙ drop_at (take 513 x) (bytes ++ rest) 513 front
      ∙ ap (λ (l : List ℕ). bytes ++ l) (drop_all (513 + length bytes) x (omega (arith, size, whole))) ∙ append-nil bytes

  pub written_after : (place : Place) → ChangesAt place (λ before after. (commit_of after ≡ commit_of before) × (after_commit after ≡ bytes)) x (written x (commit_place place + 1) bytes)
  written_after place =
      let around = around_written (commit_place place + 1) x bytes (fits place) in
      let changes = following place x (written x (commit_place place + 1) bytes) (subst (λ count. IsAround (commit_place place + 1) count x (written x (commit_place place + 1) bytes)) whole around) in
      record { this = (changes.this, new_contents place); beside = changes.beside }
    where
      fits : (place : Place) → commit_place place + 1 + length bytes ≤ length x
      fits First = omega (arith, size, whole)
      fits Second = omega (arith, size, whole)

-- a commit byte once it was written
new_commit : (place : Place) (x : List ℕ) (value : ℕ) → length x ≡ 1024 → commit_of (slot_at place (written x (commit_place place) (value ∷ []))) ≡ value
new_commit First x value size = refl
new_commit Second x value size =
    ap (λ (l : List ℕ). get_or l 0 0) (drop_at (take 512 x) (value ∷ drop 513 x) 512 (length-take-le 512 x (omega (arith, size))))

pub written_commit : (place : Place) (x : List ℕ) (value : ℕ) → length x ≡ 1024
    → ChangesAt place (λ before after. (commit_of after ≡ value) × (after_commit after ≡ after_commit before)) x (written x (commit_place place) (value ∷ []))
written_commit place x value size =
    let changes = commit place x (written x (commit_place place) (value ∷ [])) (around_written (commit_place place) x (value ∷ []) (fits place)) in
    record { this = (new_commit place x value size, changes.this); beside = changes.beside }
  where
    fits : (place : Place) → commit_place place + 1 ≤ length x
    fits First = omega (arith, size)
    fits Second = omega (arith, size)

-- half of a disk is a slot
pub range_is_slot : (place : Place) (at : ℕ) → at ≡ commit_place place → (x : List ℕ) → length x ≡ 1024 → range_of at 512 x ≡ slot_at place x
range_is_slot First at is x size = rw is refl
range_is_slot Second at is x size = rw is (take_all 512 (drop 512 x) (omega (arith, length-drop 512 x, size)))
