-- Which items bytes keep, before and after a group is written.
use Rattle.std.proofs.Common.{◌≡◌, ℕ, zero, suc, ◌+◌, ◌-◌, ◌<◌, ◌≤◌, List, [], ◌∷◌, ◌++◌, Some, length, refl, sym, ◌∙◌, ap, subst, arith}
use Rattle.std.specs.List.{slice_get}
use Rattle.duk_store.specs.Format.{FormatMeaning, IsFormat}
use Rattle.duk_store.specs.Records.{AreClosedFrom, AreKeptFrom, HasContents, IsOpen, after_gate, identity_in, record_at}
use Rattle.duk_store.specs.inner.Groups.{AreWritten, SameRecords}

module _ {I : Type 0} (format : FormatMeaning I) where
  -- the bytes keep one list at most
  pub kept_once : IsFormat format → (one two : List I) (left place : ℕ) (bytes : List ℕ) → AreKeptFrom format one left place bytes → AreKeptFrom format two left place bytes → one ≡ two
  kept_once laws [] [] left place bytes first second = refl
  kept_once laws [] (q ∷ two) zero place bytes first second = absurd (first place (omega arith) second.1)
  kept_once laws [] (q ∷ two) (suc left) place bytes first second = absurd first
  kept_once laws (p ∷ one) [] zero place bytes first second = absurd (second place (omega arith) first.1)
  kept_once laws (p ∷ one) [] (suc left) place bytes first second = absurd second
  kept_once laws (p ∷ one) (q ∷ two) zero place bytes first second =
      let same = laws.one_reading (identity_in format bytes) place first.0 second.0 p q (after_gate (record_at format.record_length place bytes)) first.2 second.2 in
      let rest = kept_once laws one two second.0 (place + 1) bytes (subst (λ (n : ℕ). AreKeptFrom format one n (place + 1) bytes) same.0 first.3) second.3 in
      ap (λ (x : I). x ∷ one) same.1 ∙ ap (λ (l : List I). q ∷ l) rest
  kept_once laws (p ∷ one) (q ∷ two) (suc left) place bytes first second =
      let same = laws.one_reading (identity_in format bytes) place 0 0 p q (after_gate (record_at format.record_length place bytes)) first.1 second.1 in
      ap (λ (x : I). x ∷ one) same.1 ∙ ap (λ (l : List I). q ∷ l) (kept_once laws one two left (place + 1) bytes first.2 second.2)

  -- the item at a place of what is kept stands in its record
  abbrev IsItemAt : List I → ℕ → ℕ → List ℕ → Type 0
  IsItemAt kept place at bytes = (item : I) × (slice_get kept place ≡ Some item) × ((followers : ℕ) × HasContents format (identity_in format bytes) at followers item (record_at format.record_length at bytes))

  pub item_there : (kept : List I) (left at place : ℕ) (bytes : List ℕ) → AreKeptFrom format kept left at bytes → place < length kept → IsItemAt kept place (at + place) bytes
  item_there [] left at place bytes are less = absurd (omega (arith, less))
  item_there (p ∷ kept) zero at zero bytes are less = let here : at ≡ at + 0 = omega arith in (p, refl, (are.0, subst (λ (n : ℕ). HasContents format (identity_in format bytes) n are.0 p (record_at format.record_length n bytes)) here are.2))
  item_there (p ∷ kept) (suc left) at zero bytes are less = let here : at ≡ at + 0 = omega arith in (p, refl, (0, subst (λ (n : ℕ). HasContents format (identity_in format bytes) n 0 p (record_at format.record_length n bytes)) here are.1))
  item_there (p ∷ kept) zero at (suc place) bytes are less =
      let there : at + 1 + place ≡ at + suc place = omega arith in subst (λ (n : ℕ). IsItemAt kept place n bytes) there (item_there kept are.0 (at + 1) place bytes are.3 (omega (arith, less)))
  item_there (p ∷ kept) (suc left) at (suc place) bytes are less =
      let there : at + 1 + place ≡ at + suc place = omega arith in subst (λ (n : ℕ). IsItemAt kept place n bytes) there (item_there kept left (at + 1) place bytes are.2 (omega (arith, less)))

  -- all records behind what is kept are closed
  pub closed_behind : (kept : List I) (left place : ℕ) (bytes : List ℕ) → AreKeptFrom format kept left place bytes → AreClosedFrom format.record_length (place + length kept) bytes
  closed_behind [] zero place bytes are later past = are later (omega (arith, past))
  closed_behind [] (suc left) place bytes are later past = absurd are
  closed_behind (p ∷ kept) zero place bytes are later past = closed_behind kept are.0 (place + 1) bytes are.3 later (omega (arith, past))
  closed_behind (p ∷ kept) (suc left) place bytes are later past = closed_behind kept left (place + 1) bytes are.2 later (omega (arith, past))

  -- records that stay keep what they kept, and what follows them is kept behind it
  pub kept_onto : (kept tail : List I) (left place end : ℕ) (x y : List ℕ) → end ≡ place + length kept → AreKeptFrom format kept left place x → SameRecords format.record_length place end x y → identity_in format y ≡ identity_in format x → AreKeptFrom format tail 0 end y
      → AreKeptFrom format (kept ++ tail) left place y
  kept_onto [] tail zero place end x y end_is are same own more = subst (λ (n : ℕ). AreKeptFrom format tail 0 n y) (omega (arith, end_is)) more
  kept_onto [] tail (suc left) place end x y end_is are same own more = absurd are
  kept_onto (p ∷ kept) tail zero place end x y end_is are same own more =
      let here : record_at format.record_length place y ≡ record_at format.record_length place x = same place (omega arith) (omega (arith, end_is)) in
      (are.0, rw here are.1, subst (λ (i : ℕ). HasContents format i place are.0 p (record_at format.record_length place y)) (sym own) (rw here are.2), kept_onto kept tail are.0 (place + 1) end x y (omega (arith, end_is)) are.3 (λ at from to. same at (omega (arith, from)) to) own more)
  kept_onto (p ∷ kept) tail (suc left) place end x y end_is are same own more =
      let here : record_at format.record_length place y ≡ record_at format.record_length place x = same place (omega arith) (omega (arith, end_is)) in
      (rw here are.0, subst (λ (i : ℕ). HasContents format i place 0 p (record_at format.record_length place y)) (sym own) (rw here are.1), kept_onto kept tail left (place + 1) end x y (omega (arith, end_is)) are.2 (λ at from to. same at (omega (arith, from)) to) own more)

  -- the items of a group after its first
  followers_kept : (rest : List I) (place : ℕ) (bytes : List ℕ)
      → ((index : ℕ) (item : I) → index < length rest → slice_get rest index ≡ Some item → HasContents format (identity_in format bytes) (place + index) 0 item (record_at format.record_length (place + index) bytes))
      → AreClosedFrom format.record_length place bytes → AreKeptFrom format rest (length rest) place bytes
  followers_kept [] place bytes written closed = closed
  followers_kept (p ∷ rest) place bytes written closed = (
    closed place (omega arith),
    subst (λ (n : ℕ). HasContents format (identity_in format bytes) n 0 p (record_at format.record_length n bytes)) (omega arith) (written 0 p (omega arith) refl),
    followers_kept rest (place + 1) bytes
        (λ index item less is. subst (λ (n : ℕ). HasContents format (identity_in format bytes) n 0 item (record_at format.record_length n bytes)) (omega arith) (written (suc index) item (omega (arith, less)) is))
        (λ later past. closed later (omega (arith, past))),
  )

  -- a group that is written and open is kept
  pub group_kept : (group : List I) (place : ℕ) (bytes : List ℕ) → 1 ≤ length group → AreWritten format (identity_in format bytes) (length group) group place bytes → IsOpen (record_at format.record_length place bytes)
      → AreClosedFrom format.record_length (place + 1) bytes → AreKeptFrom format group 0 place bytes
  group_kept [] place bytes some written is_open closed = absurd (omega (arith, some))
  group_kept (p ∷ rest) place bytes some written is_open closed =
      let here : place + 0 ≡ place = omega arith in
      let followers : length (p ∷ rest) - 1 ≡ length rest = omega arith in (
        length rest,
        is_open,
        subst (λ (n : ℕ). HasContents format (identity_in format bytes) n (length rest) p (record_at format.record_length n bytes)) here
            (subst (λ (f : ℕ). HasContents format (identity_in format bytes) (place + 0) f p (record_at format.record_length (place + 0) bytes)) followers (written 0 p (omega arith) refl)),
        followers_kept rest (place + 1) bytes
            (λ index item less is. subst (λ (n : ℕ). HasContents format (identity_in format bytes) n 0 item (record_at format.record_length n bytes)) (omega arith) (written (suc index) item (omega (arith, less)) is))
            closed,
      )
