-- Parts of one size of a slice, and what a write to the middle of it leaves of them.
use Rattle.std.proofs.Common.{◌≡◌, ◌<◌, ◌≤◌, ◌+◌, ◌-◌, ◌++◌, ℕ, List, length, take, drop, get_or, sym, ap, ◌∙◌, arith, rules}
use Rattle.std.proofs.lemmas.List.{places, take-take, drop-take, drop-drop, get_or-append_right, get_or_append_left, length-take-le}
use Rattle.std.proofs.lemmas.Slice.{between-put_mid, take-put_mid_below}
use borrow.Rule.Slice.PartMut.{put_mid, post_of}

module _ {X : Type 0} where
  -- a part of a middle is one of the whole
  pub part_of_middle : (size a i e w : ℕ) (xs : List X) → a + i ≡ e → i + size ≤ w
      → take size (drop i (take w (drop a xs))) ≡ take size (drop e xs)
  part_of_middle size a i e w xs same fits =
      sym (drop-take i size (take w (drop a xs)))
      ∙ ap (drop i) (take-take (i + size) w (drop a xs) fits)
      ∙ drop-take i size (drop a xs)
      ∙ ap (take size) (drop-drop i a xs ∙ ap (λ n. drop n xs) same)

  -- a part before what is written stays
  pub part_before : (size i a k : ℕ) (xs ys : List X) → i + size ≤ a → a ≤ length xs
      → take size (drop i (put_mid a k xs ys)) ≡ take size (drop i xs)
  part_before size i a k xs ys before within =
      sym (drop-take i size (put_mid a k xs ys))
      ∙ ap (drop i) (take-put_mid_below a k xs ys (i + size) before within)
      ∙ drop-take i size xs

  -- a part of what is written
  pub part_within : (size a i e k : ℕ) (xs ys : List X) → a + i ≡ e → i + size ≤ length ys → a ≤ length xs
      → take size (drop e (put_mid a k xs ys)) ≡ take size (drop i ys)
  part_within size a i e k xs ys same fits within =
      sym (part_of_middle size a i e (a + length ys - a) (put_mid a k xs ys) same (omega arith))
      ∙ ap (λ part. take size (drop i part)) (between-put_mid a k xs ys (a + length ys) within (omega arith))

  pub length-written : (a k : ℕ) (xs ys : List X) → length ys ≡ k → a + k ≤ length xs
      → length (put_mid a k xs ys) ≡ length xs
  length-written a k xs ys fits within = search (rules, places)

  -- what is the same behind a place is the same further behind
  pub drop_further : (a i n : ℕ) (xs ys : List X) → a + i ≡ n → drop a xs ≡ drop a ys → drop n xs ≡ drop n ys
  drop_further a i n xs ys same behind =
      ap (λ m. drop m xs) (sym same)
      ∙ sym (drop-drop i a xs)
      ∙ ap (drop i) behind
      ∙ drop-drop i a ys
      ∙ ap (λ m. drop m ys) same

  -- an element before what is written stays
  pub place_before : (i a k : ℕ) (xs ys : List X) (d : X) → i < a → a ≤ length xs
      → get_or (put_mid a k xs ys) i d ≡ get_or xs i d
  place_before i a k xs ys d before within = search (rules, places)

  -- an element of what is written
  pub place_within : (a i e k : ℕ) (xs ys : List X) (d : X) → a + i ≡ e → i < length ys → a ≤ length xs
      → get_or (put_mid a k xs ys) e d ≡ get_or ys i d
  place_within a i e k xs ys d same fits within =
      get_or-append_right (take a xs) (ys ++ post_of a k xs) a e d (length-take-le a xs within) (omega arith)
      ∙ ap (λ n. get_or (ys ++ post_of a k xs) n d) (omega arith)
      ∙ get_or_append_left ys (post_of a k xs) d i fits
