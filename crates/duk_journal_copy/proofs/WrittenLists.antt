-- Bytes that are written one piece after the other, as lists.
use Rattle.std.proofs.Common.{◌≡◌, ◌∙◌, ◌⊎◌, inl, inr, ◌+◌, ◌-◌, ◌<◌, ◌≤◌, ◌++◌, ℕ, zero, suc, List, [], ap, arith, drop, get_or, length, length-drop, refl, replicate, sym, take}
use Rattle.std.proofs.Math.Seq.{take-add}
use Rattle.std.proofs.lemmas.Bool.{cases_lt}
use Rattle.std.proofs.lemmas.Grind.{same_number_lists}
use Rattle.std.proofs.lemmas.List.{drop-drop, get_or-append_right, get_or-drop, get_or-replicate, get_or-take, get_or_append_left, get_or_past, length-append, length-replicate, length-take-le, places, replicate-append-replicate, same_lists}
use Rattle.duk_journal_copy.specs.inner.Head.{HasRestOf}
use Rattle.duk_store.specs.Disk.{DiffersWithin, range_of, written}

-- a piece is written behind another
written_on : (l xs ys : List ℕ) (from : ℕ) → from + length xs + length ys ≤ length l
    → written (written l from xs) (from + length xs) ys ≡ written l from (xs ++ ys)
written_on l xs ys from inside = same_lists _ _ (grind (arith, places)) (λ k d h. grind (arith, places))

pub written_behind : (l xs ys : List ℕ) (from at : ℕ) → at ≡ from + length xs → at + length ys ≤ length l
    → written (written l from xs) at ys ≡ written l from (xs ++ ys)
written_behind l xs ys from at is inside =
    ap (λ (n : ℕ). written (written l from xs) n ys) is ∙ written_on l xs ys from (omega (arith, is, inside))

-- zeros, and a piece of zeros more
pub zeros_on : (l mid : List ℕ) (from at count : ℕ) (bytes : List ℕ) → from ≤ at → at + count ≤ length l
    → bytes ≡ replicate count 0 → mid ≡ written l from (replicate (at - from) 0)
    → written mid at bytes ≡ written l from (replicate (at + count - from) 0)
zeros_on l mid from at count bytes behind inside zeros so_far =
    let first = replicate (at - from) 0 in
    let last = replicate count 0 in
    ap (λ (xs : List ℕ). written mid at xs) zeros
    ∙ ap (λ (xs : List ℕ). written xs at last) so_far
    ∙ written_behind l first last from at (omega (arith, behind, length-replicate {A = ℕ} (at - from) 0)) (omega (arith, inside, length-replicate {A = ℕ} count 0))
    ∙ ap (written l from) (replicate-append-replicate (at - from) count 0)
    ∙ ap (λ (n : ℕ). written l from (replicate n 0)) (omega (arith, behind))

length_range : (at count : ℕ) (old : List ℕ) → at + count ≤ length old → length (range_of at count old) ≡ count
length_range at count old inside = length-take-le count (drop at old) (omega (arith, length-drop at old, inside))

range_on : (from at count : ℕ) (old : List ℕ) → from ≤ at
    → range_of from (at - from) old ++ range_of at count old ≡ range_of from (at + count - from) old
range_on from at count old behind =
    let here : drop at old ≡ drop (at - from) (drop from old) =
    ap (λ (n : ℕ). drop n old) (omega (arith, behind)) ∙ sym (drop-drop (at - from) from old) in
    ap (λ (xs : List ℕ). range_of from (at - from) old ++ take count xs) here
    ∙ sym (take-add (at - from) count (drop from old))
    ∙ ap (λ (n : ℕ). take n (drop from old)) (omega (arith, behind))

-- bytes of another list, and a piece of them more
pub bytes_on : (old l mid : List ℕ) (from at count : ℕ) → from ≤ at → at + count ≤ length l → at + count ≤ length old
    → mid ≡ written l from (range_of from (at - from) old)
    → written mid at (range_of at count old) ≡ written l from (range_of from (at + count - from) old)
bytes_on old l mid from at count behind room inside so_far =
    let first : List ℕ = range_of from (at - from) old in
    let last : List ℕ = range_of at count old in
    let one : length first ≡ at - from = length_range from (at - from) old (omega (arith, behind, inside)) in
    let other : length last ≡ count = length_range at count old inside in
    ap (λ (xs : List ℕ). written xs at last) so_far
    ∙ written_behind l first last from at (omega (arith, behind, one)) (omega (arith, room, other))
    ∙ ap (written l from) (range_on from at count old behind)

-- nothing is written
pub written_none : (l : List ℕ) (from : ℕ) → from ≤ length l → l ≡ written l from []
written_none l from inside = same_lists _ _ (grind (arith, places)) (λ k d h. grind (arith, places))

-- ---- what stands behind the first two bytes, and before it

-- bytes with the rest of others, and their first two, are those
pub whole_by_head : (xs ys : List ℕ) → HasRestOf xs ys → get_or ys 0 0 ≡ get_or xs 0 0 → get_or ys 1 0 ≡ get_or xs 1 0 → ys ≡ xs
whole_by_head xs ys rest gate kind = same_number_lists ys xs rest.same_length (λ k less. here k)
  where
    here : (k : ℕ) → get_or ys k 0 ≡ get_or xs k 0
    here zero = gate
    here (suc zero) = kind
    here (suc (suc k)) = rest.outside (suc (suc k)) (inr (omega arith))

pub length_written : (l xs : List ℕ) (at : ℕ) → at + length xs ≤ length l → length (written l at xs) ≡ length l
length_written l xs at inside = grind (arith, places)

pub at_written : (l xs : List ℕ) (at k : ℕ) → at + length xs ≤ length l → at ≤ k → k < at + length xs
    → get_or (written l at xs) k 0 ≡ get_or xs (k - at) 0
at_written l xs at k inside behind before = grind (arith, places)

pub before_written : (l xs : List ℕ) (at k : ℕ) → at + length xs ≤ length l → k < at → get_or (written l at xs) k 0 ≡ get_or l k 0
before_written l xs at k inside before = grind (arith, places)

behind_written : (l xs : List ℕ) (at k : ℕ) → at + length xs ≤ length l → at + length xs ≤ k → get_or (written l at xs) k 0 ≡ get_or l k 0
behind_written l xs at k inside behind = grind (arith, places)

-- a header is written but for its first two bytes, and for one that is right
pub header_written : (l mid header : List ℕ) → 32 ≤ length l → length header ≡ 32 → DiffersWithin 15 1 l mid → get_or mid 15 0 ≡ get_or header 15 0
    → written (written mid 2 (take 13 (drop 2 header))) 16 (drop 16 header) ≡ written l 2 (drop 2 header)
header_written l mid header room long differs right =
    same_number_lists (written (written mid 2 low) 16 high) (written l 2 all)
    (length_written (written mid 2 low) high 16 (omega (arith, low_written, high_long, room)) ∙ low_written ∙ sym (length_written l all 2 (omega (arith, all_long, room))))
    (λ k less. here k)
  where
    low : List ℕ
    low = take 13 (drop 2 header)

    high : List ℕ
    high = drop 16 header

    all : List ℕ
    all = drop 2 header

    all_long : length all ≡ 30
    all_long = length-drop 2 header ∙ omega (arith, long)

    low_long : length low ≡ 13
    low_long = length-take-le 13 all (omega (arith, all_long))

    high_long : length high ≡ 16
    high_long = length-drop 16 header ∙ omega (arith, long)

    mid_long : length mid ≡ length l
    mid_long = differs.same_length

    low_written : length (written mid 2 low) ≡ length l
    low_written = length_written mid low 2 (omega (arith, low_long, mid_long, room)) ∙ mid_long

    low_at : (k : ℕ) → k < 16 → get_or (written mid 2 low) k 0 ≡ get_or (written l 2 all) k 0
    low_at k less = elim (cases_lt k 2) [
      | inl first ↦
          before_written mid low 2 k (omega (arith, low_long, mid_long, room)) first
          ∙ differs.outside k (inl (omega (arith, first)))
          ∙ sym (before_written l all 2 k (omega (arith, all_long, room)) first)
      | inr behind ↦ elim (cases_lt k 15) [
        | inl before ↦
            at_written mid low 2 k (omega (arith, low_long, mid_long, room)) behind (omega (arith, low_long, before))
            ∙ get_or-take 13 all (k - 2) 0 (omega (arith, behind, before))
            ∙ sym (at_written l all 2 k (omega (arith, all_long, room)) behind (omega (arith, all_long, before)))
        | inr last ↦
            behind_written mid low 2 k (omega (arith, low_long, mid_long, room)) (omega (arith, low_long, last))
            ∙ ap (λ (n : ℕ). get_or mid n 0) (omega (arith, less, last))
            ∙ right
            ∙ ap (λ (n : ℕ). get_or header n 0) (omega (arith, less, last))
            ∙ sym (get_or-drop 2 header (k - 2) 0)
            ∙ sym (at_written l all 2 k (omega (arith, all_long, room)) behind (omega (arith, all_long, less)))
      ]
    ]

    here : (k : ℕ) → get_or (written (written mid 2 low) 16 high) k 0 ≡ get_or (written l 2 all) k 0
    here k = elim (cases_lt k 16) [
      | inl less ↦ before_written (written mid 2 low) high 16 k (omega (arith, low_written, high_long, room)) less ∙ low_at k less
      | inr past ↦ elim (cases_lt k 32) [
        | inl before ↦
            at_written (written mid 2 low) high 16 k (omega (arith, low_written, high_long, room)) past (omega (arith, high_long, before))
            ∙ get_or-drop 16 header (k - 16) 0
            ∙ ap (λ (n : ℕ). get_or header n 0) (omega (arith, past))
            ∙ sym (get_or-drop 2 header (k - 2) 0)
            ∙ sym (at_written l all 2 k (omega (arith, all_long, room)) (omega (arith, past)) (omega (arith, all_long, before)))
        | inr behind ↦
            behind_written (written mid 2 low) high 16 k (omega (arith, low_written, high_long, room)) (omega (arith, high_long, behind))
            ∙ behind_written mid low 2 k (omega (arith, low_long, mid_long, room)) (omega (arith, low_long, behind))
            ∙ differs.outside k (inr (omega (arith, behind)))
            ∙ sym (behind_written l all 2 k (omega (arith, all_long, room)) (omega (arith, all_long, behind)))
      ]
    ]

-- zeros to the end
pub zero_written : (l : List ℕ) (at size k : ℕ) → length l ≡ size → at ≤ size → at ≤ k → get_or (written l at (replicate (size - at) 0)) k 0 ≡ 0
zero_written l at size k long room behind = elim (cases_lt k size) [
  | inl less ↦
      at_written l (replicate (size - at) 0) at k (omega (arith, long, room, length-replicate {A = ℕ} (size - at) 0)) behind (omega (arith, less, length-replicate {A = ℕ} (size - at) 0))
      ∙ get_or-replicate (size - at) (k - at) 0 0 (omega (arith, less, behind))
  | inr past ↦
      get_or_past (written l at (replicate (size - at) 0)) k 0
      (omega (arith, past, long, length_written l (replicate (size - at) 0) at (omega (arith, long, room, length-replicate {A = ℕ} (size - at) 0))))
]

pub zero_of_zeros : (size k : ℕ) → get_or {A = ℕ} (replicate size 0) k 0 ≡ 0
zero_of_zeros size k = elim (cases_lt k size) [
  | inl less ↦ get_or-replicate size k 0 0 less
  | inr past ↦ get_or_past {X = ℕ} (replicate size 0) k 0 (omega (arith, past, length-replicate {A = ℕ} size 0))
]

pub length_to_end : (l : List ℕ) (at size : ℕ) → length l ≡ size → at ≤ size → length (written l at (replicate (size - at) 0)) ≡ size
length_to_end l at size long room =
    length_written l (replicate (size - at) 0) at (omega (arith, long, room, length-replicate {A = ℕ} (size - at) 0)) ∙ long

-- zeros over all
pub all_of_zeros : (l : List ℕ) (size : ℕ) → length l ≡ size → written l 0 (replicate (size - 0) 0) ≡ replicate size 0
all_of_zeros l size long =
    same_number_lists (written l 0 (replicate (size - 0) 0)) (replicate size 0) (length_to_end l 0 size long (omega arith) ∙ sym (length-replicate size 0))
    (λ k less. zero_written l 0 size k long (omega arith) (omega arith) ∙ sym (zero_of_zeros size k))

pub rest_of_zeros : (l mid : List ℕ) (size : ℕ) → length l ≡ size → 2 ≤ size
    → mid ≡ written l 2 (replicate (size - 2) 0) → HasRestOf (replicate size 0) mid
rest_of_zeros l mid size long room is = record {
  same_length = ap length is ∙ length_to_end l 2 size long room ∙ sym (length-replicate size 0);
  outside = outside;
}
  where
    outside : (place : ℕ) → (place < 0) ⊎ (0 + 2 ≤ place) → get_or mid place 0 ≡ get_or (replicate size 0) place 0
    outside place (inl less) = absurd (omega (arith, less))
    outside place (inr far) =
        ap (λ (xs : List ℕ). get_or xs place 0) is ∙ zero_written l 2 size place long room far ∙ sym (zero_of_zeros size place)

-- a byte of the front, and one behind it
pub front_at : (old : List ℕ) (to count k : ℕ) → to ≤ length old → k < to → get_or (take to old ++ replicate count 0) k 0 ≡ get_or old k 0
front_at old to count k inside less =
    get_or_append_left (take to old) (replicate count 0) 0 k (omega (arith, less, length-take-le to old inside)) ∙ get_or-take to old k 0 less

behind_front : (old : List ℕ) (to count k : ℕ) → to ≤ length old → to ≤ k → get_or (take to old ++ replicate count 0) k 0 ≡ 0
behind_front old to count k inside past =
    get_or-append_right (take to old) (replicate count 0) to k 0 (length-take-le to old inside) past ∙ zero_of_zeros count (k - to)

-- the rest of a copy is written: bytes up to a place, and zeros
pub rest_of_copy : (old l mid last : List ℕ) (to size : ℕ) → length mid ≡ size → length l ≡ size → 2 ≤ to → to ≤ size → to ≤ length old
    → mid ≡ written l 2 (range_of 2 (to - 2) old) → last ≡ written mid to (replicate (size - to) 0)
    → HasRestOf (take to old ++ replicate (size - to) 0) last
rest_of_copy old l mid last to size mid_long long some room inside first second = record {
  same_length = ap length second ∙ length_to_end mid to size mid_long room
      ∙ sym (length-append (take to old) (replicate (size - to) 0) ∙ omega (arith, length-take-le to old inside, length-replicate {A = ℕ} (size - to) 0, room));
  outside = outside;
}
  where
    piece : length (range_of 2 (to - 2) old) ≡ to - 2
    piece = length_range 2 (to - 2) old (omega (arith, some, inside))

    copied : (place : ℕ) → 2 ≤ place → place < to → get_or mid place 0 ≡ get_or old place 0
    copied place far less =
        ap (λ (xs : List ℕ). get_or xs place 0) first
        ∙ at_written l (range_of 2 (to - 2) old) 2 place (omega (arith, piece, some, room, long)) far (omega (arith, piece, some, less))
        ∙ get_or-take (to - 2) (drop 2 old) (place - 2) 0 (omega (arith, far, less))
        ∙ get_or-drop 2 old (place - 2) 0
        ∙ ap (λ (i : ℕ). get_or old i 0) (omega (arith, far))

    outside : (place : ℕ) → (place < 0) ⊎ (0 + 2 ≤ place) → get_or last place 0 ≡ get_or (take to old ++ replicate (size - to) 0) place 0
    outside place (inl less) = absurd (omega (arith, less))
    outside place (inr far) = ap (λ (xs : List ℕ). get_or xs place 0) second ∙ elim (cases_lt place to) [
      | inl less ↦
          before_written mid (replicate (size - to) 0) to place (omega (arith, mid_long, room, length-replicate {A = ℕ} (size - to) 0)) less
          ∙ copied place far less ∙ sym (front_at old to (size - to) place inside less)
      | inr past ↦ zero_written mid to size place mid_long room past ∙ sym (behind_front old to (size - to) place inside past)
    ]

-- ---- bytes that differ in a range alone

pub differs_not : (from count : ℕ) (x : List ℕ) → DiffersWithin from count x x
differs_not from count x = record { same_length = refl; outside = λ place out. refl }

pub differs_then : (from count : ℕ) (x y z : List ℕ) → DiffersWithin from count x y → DiffersWithin from count y z → DiffersWithin from count x z
differs_then from count x y z one two = record {
  same_length = two.same_length ∙ one.same_length;
  outside = λ place out. two.outside place out ∙ one.outside place out;
}

pub differs_wider : (from count at some : ℕ) (x y : List ℕ) → from ≤ at → at + some ≤ from + count → DiffersWithin at some x y → DiffersWithin from count x y
differs_wider from count at some x y low high differs = record {
  same_length = differs.same_length;
  outside = outside;
}
  where
    outside : (place : ℕ) → (place < from) ⊎ (from + count ≤ place) → get_or y place 0 ≡ get_or x place 0
    outside place (inl less) = differs.outside place (inl (omega (arith, less, low)))
    outside place (inr past) = differs.outside place (inr (omega (arith, past, high)))
