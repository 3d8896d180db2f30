-- Records that are looked through from the end of their bytes on.
use Rattle.std.proofs.Common.{◌≡◌, ◌≢◌, ◌∙◌, inl, inr, ◌+◌, ◌-◌, ◌*◌, ◌%◌, ◌<◌, ◌≤◌, ℕ, List, [], ◌∷◌, Option, Some, None, ap, arith, drop, length, refl, subst, sym, take}
use Rattle.std.proofs.lemmas.Bool.{cases_lt}
use Rattle.std.proofs.lemmas.List.{drop-drop, drop-take, drop_all, take-take}
use Rattle.duk_store.specs.Disk.{range_of}
use Rattle.duk_service.specs.LeftRecords.{AreClosedFrom, AreInGroups, HasFront, IsForeignAt, IsLeftBy, IsOpen, IsWhole, IsZero, followers_in, gate_of, most_of_group, record_at, record_length}
use Rattle.duk_service.specs.inner.LeftRecords.{HasLast, HasMark, HasNone, IsLastIn, LacksMark, MayBeUsed, MayStand}
use Rattle.duk_service.specs.declared.left_records.Mark.{Mark}
use Rattle.duk_service.specs.declared.left_records.Mark.TheVariants.{Gated, Used}
use Rattle.duk_journal_copy.specs.declared.version.Version.TheVariants.{One, Two}
use Rattle.duk_service.specs.declared.left_records.Layout.{Layout}
use Rattle.duk_service.specs.declared.left_records.Layout.TheVariants.{Journal, Ledger, Log}

-- ---- records of a piece

pub range_within : (n a b c : ℕ) (bytes : List ℕ) → a + n ≤ b → take n (drop a (take b (drop c bytes))) ≡ take n (drop (c + a) bytes)
range_within n a b c bytes inside =
    ap (λ (m : ℕ). take n (drop a (take m (drop c bytes)))) (let e : b ≡ a + (b - a) = omega (arith, inside) in e)
    ∙ ap (take n) (drop-take a (b - a) (drop c bytes))
    ∙ take-take n (b - a) (drop a (drop c bytes)) (omega (arith, inside))
    ∙ ap (take n) (drop-drop a c bytes)

-- a record of a piece is that of the whole
pub record_in_piece : (layout : Layout) (at count k : ℕ) (bytes : List ℕ) → k < count
    → record_at layout k (range_of (record_length layout * at) (record_length layout * count) bytes) ≡ record_at layout (at + k) bytes
record_in_piece Log at count k bytes inside =
    range_within 16 (16 * k) (16 * count) (16 * at) bytes (omega (arith, inside))
    ∙ ap (λ (m : ℕ). take 16 (drop m bytes)) (let e : 16 * at + 16 * k ≡ 16 * (at + k) = omega arith in e)
record_in_piece (Journal version) at count k bytes inside =
    range_within 32 (32 * k) (32 * count) (32 * at) bytes (omega (arith, inside))
    ∙ ap (λ (m : ℕ). take 32 (drop m bytes)) (let e : 32 * at + 32 * k ≡ 32 * (at + k) = omega arith in e)
record_in_piece (Ledger One) at count k bytes inside =
    range_within 16 (16 * k) (16 * count) (16 * at) bytes (omega (arith, inside))
    ∙ ap (λ (m : ℕ). take 16 (drop m bytes)) (let e : 16 * at + 16 * k ≡ 16 * (at + k) = omega arith in e)
record_in_piece (Ledger Two) at count k bytes inside =
    range_within 32 (32 * k) (32 * count) (32 * at) bytes (omega (arith, inside))
    ∙ ap (λ (m : ℕ). take 32 (drop m bytes)) (let e : 32 * at + 32 * k ≡ 32 * (at + k) = omega arith in e)

-- what is found in a piece is found in the whole
pub none_of_piece : (layout : Layout) (mark : Mark) (at count : ℕ) (bytes piece : List ℕ)
    → piece ≡ range_of (record_length layout * at) (record_length layout * count) bytes
    → HasNone layout mark 0 count piece → HasNone layout mark at (at + count) bytes
none_of_piece layout mark at count bytes piece is none place behind before =
    let k : ℕ = place - at in
    let inside : k < count = omega (arith, behind, before) in
    let same : record_at layout k piece ≡ record_at layout place bytes =
    ap (λ (b : List ℕ). record_at layout k b) is ∙ record_in_piece layout at count k bytes inside
    ∙ ap (λ (n : ℕ). record_at layout n bytes) (let e : at + k ≡ place = omega (arith, behind) in e) in
    subst (λ (b : List ℕ). LacksMark mark b) same (none k (omega arith) inside)

pub last_of_piece : (layout : Layout) (mark : Mark) (at count place : ℕ) (bytes piece : List ℕ)
    → piece ≡ range_of (record_length layout * at) (record_length layout * count) bytes
    → HasLast layout mark 0 count piece place → HasLast layout mark at (at + count) bytes (at + place)
last_of_piece layout mark at count place bytes piece is last =
    let same : (k : ℕ) → k < count → record_at layout k piece ≡ record_at layout (at + k) bytes =
    (λ k inside. ap (λ (b : List ℕ). record_at layout k b) is ∙ record_in_piece layout at count k bytes inside) in
    record {
      behind = omega arith;
      before = omega (arith, last.before);
      marked = subst (λ (b : List ℕ). HasMark mark b) (same place last.before) last.marked;
      last = λ later after below.
          let k : ℕ = later - at in
          let inside : k < count = omega (arith, after, below) in
          let there : record_at layout (at + k) bytes ≡ record_at layout later bytes =
          ap (λ (n : ℕ). record_at layout n bytes) (let e : at + k ≡ later = omega (arith, after) in e) in
          subst (λ (b : List ℕ). LacksMark mark b) (same k inside ∙ there) (last.last k (omega (arith, after)) inside);
    }

-- ---- records of a piece, one before the other

-- ---- a piece before others

-- ---- records behind the bytes

-- there is none
pub no_record : (layout : Layout) (place records : ℕ) (bytes : List ℕ) → length bytes ≡ record_length layout * records → records ≤ place
    → record_at layout place bytes ≡ []
no_record Log place records bytes size past = ap (take 16) (drop_all (16 * place) bytes (omega (arith, size, past)))
no_record (Journal version) place records bytes size past = ap (take 32) (drop_all (32 * place) bytes (omega (arith, size, past)))
no_record (Ledger One) place records bytes size past = ap (take 16) (drop_all (16 * place) bytes (omega (arith, size, past)))
no_record (Ledger Two) place records bytes size past = ap (take 32) (drop_all (32 * place) bytes (omega (arith, size, past)))

pub none_is_zero : IsZero []
none_is_zero = λ k d inside. absurd (let never : ⊥ = omega (arith, inside) in never)

pub zero_gate : (bytes : List ℕ) → IsZero bytes → gate_of bytes ≡ 0
zero_gate [] zero = refl
zero_gate (b ∷ bs) zero = zero 0 0 (omega arith)

pub zero_closed : (bytes : List ℕ) → IsZero bytes → ¬ IsOpen bytes
zero_closed bytes zero open_now = omega (arith, zero_gate bytes zero, open_now)

-- behind the last record that is used all are zeros
pub zeros_behind : (layout : Layout) (from records : ℕ) (bytes : List ℕ) → length bytes ≡ record_length layout * records
    → ((place : ℕ) → from ≤ place → place < records → IsZero (record_at layout place bytes))
    → (place : ℕ) → from ≤ place → IsZero (record_at layout place bytes)
zeros_behind layout from records bytes size zero place behind =
    elim (cases_lt place records) [
      | inl inside ↦ zero place behind inside
      | inr past ↦ subst (λ (b : List ℕ). IsZero b) (sym (no_record layout place records bytes size past)) none_is_zero
    ]

pub closed_behind : (layout : Layout) (from : ℕ) (bytes : List ℕ) → ((place : ℕ) → from ≤ place → IsZero (record_at layout place bytes))
    → AreClosedFrom layout from bytes
closed_behind layout from bytes zero place behind = zero_closed (record_at layout place bytes) (zero place behind)

-- ---- how many records are in groups

same_first : (layout : Layout) (bytes : List ℕ) (first other : ℕ) → IsOpen (record_at layout first bytes) → AreClosedFrom layout (first + 1) bytes
    → IsOpen (record_at layout other bytes) → AreClosedFrom layout (other + 1) bytes → first ≡ other
same_first layout bytes first other is_open closed other_open other_closed =
    elim (cases_lt first other) [
      | inl before ↦ absurd (closed other (omega (arith, before)) other_open)
      | inr behind ↦ elim (cases_lt other first) [
        | inl after ↦ absurd (other_closed first (omega (arith, after)) is_open)
        | inr same ↦ omega (arith, behind, same)
      ]
    ]

pub one_count : (layout : Layout) (bytes : List ℕ) (kept other : ℕ) → AreInGroups layout kept bytes → AreInGroups layout other bytes → kept ≡ other
one_count layout bytes kept other (inl none) (inl other_none) = none.0 ∙ sym other_none.0
one_count layout bytes kept other (inl none) (inr ends) = absurd (none.1 ends.0 (omega arith) ends.1)
one_count layout bytes kept other (inr ends) (inl none) = absurd (none.1 ends.0 (omega arith) ends.1)
one_count layout bytes kept other (inr ends) (inr other_ends) =
    let same : ends.0 ≡ other_ends.0 = same_first layout bytes ends.0 other_ends.0 ends.1 ends.2 other_ends.1 other_ends.2 in
    ends.3 ∙ ap (λ (first : ℕ). first + 1 + followers_in layout first (record_at layout first bytes)) same ∙ sym other_ends.3

-- ---- what is left

some_records : (layout : Layout) (records : ℕ) → record_length layout ≡ record_length layout * records → records ≡ 1
some_records Log records is = omega (arith, is)
some_records (Journal version) records is = omega (arith, is)
some_records (Ledger One) records is = omega (arith, is)
some_records (Ledger Two) records is = omega (arith, is)

one_record : (layout : Layout) → record_length layout * 1 ≡ record_length layout
one_record Log = refl
one_record (Journal version) = refl
one_record (Ledger One) = refl
one_record (Ledger Two) = refl

-- where no record is used, nothing is kept
pub blank_left : (layout : Layout) (records : ℕ) (bytes : List ℕ) → 1 ≤ records → length bytes ≡ record_length layout * records
    → HasFront layout bytes → HasNone layout Used 0 records bytes → IsLeftBy layout bytes
blank_left layout records bytes some size front none =
    let zero : (place : ℕ) → 0 ≤ place → IsZero (record_at layout place bytes) = zeros_behind layout 0 records bytes size none in
    record {
      whole = (records, some, size);
      front = front;
      kept = 0;
      groups = inl (refl, closed_behind layout 0 bytes zero);
      gates = λ place behind. zero_gate (record_at layout place bytes) (zero place (omega arith));
      zeros = λ place behind. zero place (omega arith);
      lone = λ one none. zero 0 (omega arith);
    }

stands : (layout : Layout) (bytes : List ℕ) (last kept records : ℕ) (gated : Option ℕ) → IsLastIn layout Gated 0 (last + 1) bytes gated → MayStand gated kept records
    → (place : ℕ) → kept < place → place ≤ last → gate_of (record_at layout place bytes) ≡ 0
stands layout bytes last kept records None none stand place behind before = none place (omega arith) (omega (arith, before))
stands layout bytes last kept records (Some gated) found stand place behind before = found.last place (omega (arith, stand.0, behind)) (omega (arith, before))

no_lone : (layout : Layout) (bytes : List ℕ) (kept records : ℕ) → MayBeUsed kept records → records ≡ 1 → kept ≡ 0 → IsZero (record_at layout 0 bytes)
no_lone layout bytes kept records (inl many) one empty = absurd (let never : ⊥ = omega (arith, many, one) in never)
no_lone layout bytes kept records (inr some) one empty = absurd (let never : ⊥ = omega (arith, some, empty) in never)

used_there : (kept records : ℕ) (gated : Option ℕ) → MayStand gated kept records → MayBeUsed kept records
used_there kept records None stand = stand
used_there kept records (Some gated) stand = stand.1

may_be_used : (layout : Layout) (bytes : List ℕ) (last kept records : ℕ) → HasLast layout Used 0 records bytes last
    → (records ≤ 1 → kept ≡ 0 → IsZero (record_at layout 0 bytes)) → MayBeUsed kept records
may_be_used layout bytes last kept records used lone =
    elim (cases_lt 1 records) [
      | inl many ↦ inl many
      | inr few ↦ elim (cases_lt 0 kept) [
        | inl some ↦ inr some
        | inr none ↦
            let first : last ≡ 0 = omega (arith, used.before, few) in
            absurd (used.marked (subst (λ (n : ℕ). IsZero (record_at layout n bytes)) (sym first) (lone few (omega (arith, none)))))
      ]
    ]

may_stand : (layout : Layout) (bytes : List ℕ) (last kept records : ℕ) (gated : Option ℕ) → IsLastIn layout Gated 0 (last + 1) bytes gated
    → ((place : ℕ) → kept < place → gate_of (record_at layout place bytes) ≡ 0) → MayBeUsed kept records → MayStand gated kept records
may_stand layout bytes last kept records None none gates used = used
may_stand layout bytes last kept records (Some gated) found gates used =
    let order : gated ≤ kept = elim (cases_lt kept gated) [ inl behind ↦ absurd (found.marked (gates gated behind)) | inr order ↦ order ] in
    (order, used)

-- where one is used, the last of them, the last with a gate and those in groups tell
pub used_left : (layout : Layout) (records last kept : ℕ) (gated : Option ℕ) (bytes : List ℕ) → length bytes ≡ record_length layout * records
    → HasLast layout Used 0 records bytes last → (AreClosedFrom layout (last + 1) bytes → AreInGroups layout kept bytes)
    → IsLastIn layout Gated 0 (last + 1) bytes gated
    → HasFront layout bytes → last < kept + most_of_group layout → MayStand gated kept records → IsLeftBy layout bytes
used_left layout records last kept gated bytes size used counted found front near stand =
    let zero : (place : ℕ) → last + 1 ≤ place → IsZero (record_at layout place bytes) =
    zeros_behind layout (last + 1) records bytes size (λ place behind inside. used.last place (omega (arith, behind)) inside) in
    record {
      whole = (records, omega (arith, used.before), size);
      front = front;
      kept = kept;
      groups = counted (closed_behind layout (last + 1) bytes zero);
      gates = λ place behind.
          elim (cases_lt last place) [
            | inl past ↦ zero_gate (record_at layout place bytes) (zero place (omega (arith, past)))
            | inr before ↦ stands layout bytes last kept records gated found stand place behind before
          ];
      zeros = λ place behind. zero place (omega (arith, near, behind));
      lone = λ one none. no_lone layout bytes kept records (used_there kept records gated stand) (some_records layout records (sym one ∙ size)) none;
    }

pub left_used : (layout : Layout) (records last kept : ℕ) (gated : Option ℕ) (bytes : List ℕ) → length bytes ≡ record_length layout * records
    → HasLast layout Used 0 records bytes last → (AreClosedFrom layout (last + 1) bytes → AreInGroups layout kept bytes)
    → IsLastIn layout Gated 0 (last + 1) bytes gated
    → IsLeftBy layout bytes → (last < kept + most_of_group layout) × MayStand gated kept records
left_used layout records last kept gated bytes size used counted found left =
    let zero : (place : ℕ) → last + 1 ≤ place → IsZero (record_at layout place bytes) =
    zeros_behind layout (last + 1) records bytes size (λ place behind inside. used.last place (omega (arith, behind)) inside) in
    let same : left.kept ≡ kept = one_count layout bytes left.kept kept left.groups (counted (closed_behind layout (last + 1) bytes zero)) in
    let near : last < left.kept + most_of_group layout =
    elim (cases_lt last (left.kept + most_of_group layout)) [ inl near ↦ near | inr far ↦ absurd (used.marked (left.zeros last far)) ] in (
      subst (λ (n : ℕ). last < n + most_of_group layout) same near,
      may_stand layout bytes last kept records gated found
          (λ place behind. left.gates place (subst (λ (n : ℕ). n < place) (sym same) behind))
          (may_be_used layout bytes last kept records used
          (λ few none. left.lone
          (size ∙ ap (λ (n : ℕ). record_length layout * n) (let e : records ≡ 1 = omega (arith, few, used.before) in e) ∙ one_record layout)
          (same ∙ none))),
    )

-- the last record that is used is open only where it is left
open_inside : (layout : Layout) (bytes : List ℕ) (last kept : ℕ) → AreClosedFrom layout (last + 1) bytes → AreInGroups layout kept bytes
    → IsOpen (record_at layout last bytes) → last < kept
open_inside layout bytes last kept closed (inl none) is_open = absurd (none.1 last (omega arith) is_open)
open_inside layout bytes last kept closed (inr ends) is_open =
    elim (cases_lt ends.0 last) [
      | inl before ↦ absurd (ends.2 last (omega (arith, before)) is_open)
      | inr behind ↦ omega (arith, behind, ends.3)
    ]

gate_inside : (layout : Layout) (bytes : List ℕ) (last kept records : ℕ) (gated : Option ℕ) → IsLastIn layout Gated 0 (last + 1) bytes gated → last < kept
    → MayStand gated kept records
gate_inside layout bytes last kept records None none inside = inr (omega (arith, inside))
gate_inside layout bytes last kept records (Some gated) found inside = (omega (arith, found.before, inside), inr (omega (arith, inside)))

pub foreign_seen : (layout : Layout) (records last kept : ℕ) (gated : Option ℕ) (bytes : List ℕ) → length bytes ≡ record_length layout * records
    → HasLast layout Used 0 records bytes last → (AreClosedFrom layout (last + 1) bytes → AreInGroups layout kept bytes)
    → IsLastIn layout Gated 0 (last + 1) bytes gated
    → HasFront layout bytes → ¬ ((last < kept + most_of_group layout) × MayStand gated kept records) → IsForeignAt layout last bytes
foreign_seen layout records last kept gated bytes size used counted found front not_so =
    let zero : (place : ℕ) → last + 1 ≤ place → IsZero (record_at layout place bytes) =
    zeros_behind layout (last + 1) records bytes size (λ place behind inside. used.last place (omega (arith, behind)) inside) in
    let closed : AreClosedFrom layout (last + 1) bytes = closed_behind layout (last + 1) bytes zero in
    record {
      front = front;
      not_left = λ left. not_so (left_used layout records last kept gated bytes size used counted found left);
      not_open = λ is_open.
          let inside : last < kept = open_inside layout bytes last kept closed (counted closed) is_open in
          not_so (omega (arith, inside), gate_inside layout bytes last kept records gated found inside);
      not_zero = used.marked;
      last = λ later behind. zero later (omega (arith, behind));
    }

-- ---- sizes of no whole records

pub empty_not_left : (layout : Layout) (bytes : List ℕ) → length bytes ≡ 0 → ¬ IsLeftBy layout bytes
empty_not_left Log bytes none left = omega (arith, none, left.whole.1, left.whole.2)
empty_not_left (Journal version) bytes none left = omega (arith, none, left.whole.1, left.whole.2)
empty_not_left (Ledger One) bytes none left = omega (arith, none, left.whole.1, left.whole.2)
empty_not_left (Ledger Two) bytes none left = omega (arith, none, left.whole.1, left.whole.2)

pub some_bytes : (size : ℕ) → size ≢ 0 → 0 < size
some_bytes size some = omega (arith, some)

pub cut_not_whole : (layout : Layout) (size n : ℕ) → n ≡ record_length layout → size % n ≢ 0 → ¬ IsWhole layout size
cut_not_whole Log size n is cut whole = cut (subst (λ (m : ℕ). size % m ≡ 0) (sym is) (omega (arith, whole.2)))
cut_not_whole (Journal version) size n is cut whole = cut (subst (λ (m : ℕ). size % m ≡ 0) (sym is) (omega (arith, whole.2)))
cut_not_whole (Ledger One) size n is cut whole = cut (subst (λ (m : ℕ). size % m ≡ 0) (sym is) (omega (arith, whole.2)))
cut_not_whole (Ledger Two) size n is cut whole = cut (subst (λ (m : ℕ). size % m ≡ 0) (sym is) (omega (arith, whole.2)))

pub size_not_left : (layout : Layout) (size : ℕ) (bytes : List ℕ) → length bytes ≡ size → ¬ IsWhole layout size → ¬ IsLeftBy layout bytes
size_not_left layout size bytes is not_whole left = not_whole (subst (λ (n : ℕ). IsWhole layout n) is left.whole)

-- ---- what is found, as it is given

pub blank_seen : (layout : Layout) (records : ℕ) (bytes : List ℕ) (found : Option ℕ) → found ≡ None → 1 ≤ records
    → length bytes ≡ record_length layout * records → HasFront layout bytes → IsLastIn layout Used 0 records bytes found → IsLeftBy layout bytes
blank_seen layout records bytes found is some size front last =
    blank_left layout records bytes some size front (subst (λ (o : Option ℕ). IsLastIn layout Used 0 records bytes o) is last)

pub last_used : (layout : Layout) (records last : ℕ) (before bytes : List ℕ) (found : Option ℕ) → found ≡ Some last → before ≡ bytes
    → IsLastIn layout Used 0 records before found → HasLast layout Used 0 records bytes last
last_used layout records last before bytes found is same seen =
    subst (λ (b : List ℕ). HasLast layout Used 0 records b last) same (subst (λ (o : Option ℕ). IsLastIn layout Used 0 records before o) is seen)
