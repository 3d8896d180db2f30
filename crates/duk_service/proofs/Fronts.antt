-- Records in front of bytes, behind which all bytes are zeros.
use Rattle.std.proofs.Common.{◌≡◌, ◌≢◌, ◌∙◌, inl, inr, ◌+◌, ◌-◌, ◌*◌, ◌/◌, ◌%◌, ◌<◌, ◌≤◌, ◌++◌, ℕ, Bool, false, true, List, [], Option, Some, None, ap, arith, drop, get_or, length, length-append, length-drop, refl, replicate, subst, sym, take}
use Rattle.std.specs.Prelude.{⊤}
use Rattle.std.proofs.lemmas.Bool.{cases_lt, false≢true}
use Rattle.std.proofs.lemmas.Grind.{same_number_lists}
use Rattle.std.proofs.lemmas.List.{drop_all, drop_at, get_or-drop, get_or-replicate, get_or-take, length-replicate, length-take, length-take-le, take-append-drop, take_all, take_at}
use Rattle.std.specs.List.{All}
use Rattle.duk_store.specs.Disk.{DiskState}
use Rattle.duk_service.specs.GrowJournal.{IsGrowable}
use Rattle.duk_service.specs.LeftRecords.{AreClosedFrom, AreInGroups, HasFront, IsForeignAt, IsFront, IsLedgerFront, IsLeftBy, IsOpen, IsZero, followers_in, record_at, record_length}
use Rattle.duk_service.specs.inner.GrowJournal.{AreSeenZeros, AreZerosBehind, IsPartSeen, IsSeenToGrow, front_of}
use Rattle.duk_service.specs.inner.LeftRecords.{HasMark, IsFrontSeen, IsLastIn, IsSeen, LacksMark}
use Rattle.duk_service.specs.declared.left_records.Mark.{Mark}
use Rattle.duk_journal_copy.specs.declared.version.Version.TheVariants.{One, Two}
use Rattle.duk_service.specs.declared.left_records.Layout.{Layout}
use Rattle.duk_service.specs.declared.left_records.Layout.TheVariants.{Journal, Ledger, Log}
use Rattle.duk_service.specs.declared.left_records.Seen.{Seen}
use Rattle.duk_service.specs.declared.left_records.Seen.TheVariants.{Cut, Empty, Foreign, Left, OtherFront}
use Rattle.duk_service.proofs.LeftRecords.{no_record, none_is_zero, record_in_piece, zero_closed}

module _ (layout : Layout) (records : ℕ) (bytes : List ℕ) where
  abbrev front : List ℕ
  front = front_of layout records bytes

  -- a record of the front is that of the whole
  front_record : (place : ℕ) → place < records → record_at layout place front ≡ record_at layout place bytes
  front_record place inside = record_in_piece layout 0 records place bytes inside ∙ ap (λ (n : ℕ). record_at layout n bytes) (let e : 0 + place ≡ place = omega arith in e)

  -- what is found in front of the whole is found in the front
  pub last_in_front : (mark : Mark) (below : ℕ) (found : Option ℕ) → below ≤ records → IsLastIn layout mark 0 below bytes found → IsLastIn layout mark 0 below front found
  last_in_front mark below None within none =
      λ place from before. subst (λ (b : List ℕ). LacksMark mark b) (sym (front_record place (omega (arith, before, within)))) (none place from before)
  last_in_front mark below (Some place) within last = record {
    behind = last.behind;
    before = last.before;
    marked = subst (λ (b : List ℕ). HasMark mark b) (sym (front_record place (omega (arith, last.before, within)))) last.marked;
    last = λ later after before. subst (λ (b : List ℕ). LacksMark mark b) (sym (front_record later (omega (arith, before, within)))) (last.last later after before);
  }

-- it begins as the layout does where the whole does
pub part_begins : (layout : Layout) (records : ℕ) (bytes : List ℕ) → 1 ≤ records → HasFront layout bytes → HasFront layout (front_of layout records bytes)
part_begins Log records bytes some begins = begins
part_begins (Journal version) records bytes some begins =
    subst (λ (b : List ℕ). IsFront version b) (sym (front_record (Journal version) records bytes 0 (omega (arith, some)))) begins
part_begins (Ledger version) records bytes some begins =
    subst (λ (b : List ℕ). IsLedgerFront version b) (sym (front_record (Ledger version) records bytes 0 (omega (arith, some)))) begins

pub whole_begins : (layout : Layout) (records : ℕ) (bytes : List ℕ) → 1 ≤ records → HasFront layout (front_of layout records bytes) → HasFront layout bytes
whole_begins Log records bytes some begins = begins
whole_begins (Journal version) records bytes some begins =
    subst (λ (b : List ℕ). IsFront version b) (front_record (Journal version) records bytes 0 (omega (arith, some))) begins
whole_begins (Ledger version) records bytes some begins =
    subst (λ (b : List ℕ). IsLedgerFront version b) (front_record (Ledger version) records bytes 0 (omega (arith, some))) begins

part_zero : (n a b : ℕ) (bytes : List ℕ) → b ≤ a → All (λ byte. byte ≡ 0) (drop b bytes) → IsZero (take n (drop a bytes))
part_zero n a b bytes order zeros k d inside =
    let few : k < n = omega (arith, inside, length-take n (drop a bytes)) in
    let far : a + k < length bytes = omega (arith, inside, length-take n (drop a bytes), length-drop a bytes) in
    let at : b + (a + k - b) ≡ a + k = omega (arith, order) in
    get_or-take n (drop a bytes) k d few ∙ get_or-drop a bytes k d ∙ ap (λ (i : ℕ). get_or bytes i d) (sym at) ∙ sym (get_or-drop b bytes (a + k - b) d)
    ∙ zeros (a + k - b) d (omega (arith, far, order, length-drop b bytes))

-- a record behind the front is zero, or there is none
pub behind_zero : (layout : Layout) (records place : ℕ) (bytes : List ℕ) → AreZerosBehind layout records bytes → records ≤ place → IsZero (record_at layout place bytes)
behind_zero Log records place bytes zeros past = part_zero 16 (16 * place) (16 * records) bytes (omega (arith, past)) zeros
behind_zero (Journal version) records place bytes zeros past = part_zero 32 (32 * place) (32 * records) bytes (omega (arith, past)) zeros
behind_zero (Ledger One) records place bytes zeros past = part_zero 16 (16 * place) (16 * records) bytes (omega (arith, past)) zeros
behind_zero (Ledger Two) records place bytes zeros past = part_zero 32 (32 * place) (32 * records) bytes (omega (arith, past)) zeros

pub front_length : (layout : Layout) (records : ℕ) (bytes : List ℕ) → record_length layout * records ≤ length bytes → length (front_of layout records bytes) ≡ record_length layout * records
front_length Log records bytes inside = length-take-le (16 * records) (drop (16 * 0) bytes) (omega (arith, inside, length-drop (16 * 0) bytes))
front_length (Journal version) records bytes inside = length-take-le (32 * records) (drop (32 * 0) bytes) (omega (arith, inside, length-drop (32 * 0) bytes))
front_length (Ledger One) records bytes inside = length-take-le (16 * records) (drop (16 * 0) bytes) (omega (arith, inside, length-drop (16 * 0) bytes))
front_length (Ledger Two) records bytes inside = length-take-le (32 * records) (drop (32 * 0) bytes) (omega (arith, inside, length-drop (32 * 0) bytes))

module _ (layout : Layout) (records : ℕ) (bytes : List ℕ) (inside : record_length layout * records ≤ length bytes) (zeros : AreZerosBehind layout records bytes) where
  abbrev part : List ℕ
  part = front_of layout records bytes

  closed_whole : (below : ℕ) → AreClosedFrom layout below part → AreClosedFrom layout below bytes
  closed_whole below closed later past = elim (cases_lt later records) [
    | inl here ↦ subst (λ (b : List ℕ). ¬ IsOpen b) (front_record layout records bytes later here) (closed later past)
    | inr behind ↦ zero_closed (record_at layout later bytes) (behind_zero layout records later bytes zeros behind)
  ]

  closed_part : (below : ℕ) → AreClosedFrom layout below bytes → AreClosedFrom layout below part
  closed_part below closed later past = elim (cases_lt later records) [
    | inl here ↦ subst (λ (b : List ℕ). ¬ IsOpen b) (sym (front_record layout records bytes later here)) (closed later past)
    | inr behind ↦ subst (λ (b : List ℕ). ¬ IsOpen b) (sym (no_record layout later records part (front_length layout records bytes inside) behind)) (zero_closed [] none_is_zero)
  ]

  groups_part : (kept : ℕ) → AreInGroups layout kept bytes → AreInGroups layout kept part
  groups_part kept (inl none) = inl (none.0, closed_part 0 none.1)
  groups_part kept (inr ends) = elim (cases_lt ends.0 records) [
    | inl here ↦
        let same = sym (front_record layout records bytes ends.0 here) in
        inr (
          ends.0,
          subst (λ (b : List ℕ). IsOpen b) same ends.1,
          closed_part (ends.0 + 1) ends.2,
          ends.3 ∙ ap (λ (b : List ℕ). ends.0 + 1 + followers_in layout ends.0 b) same,
        )
    | inr behind ↦ absurd (zero_closed (record_at layout ends.0 bytes) (behind_zero layout records ends.0 bytes zeros behind) ends.1)
  ]

  pub counted_part : (below kept : ℕ) → (AreClosedFrom layout below bytes → AreInGroups layout kept bytes) → AreClosedFrom layout below part → AreInGroups layout kept part
  counted_part below kept counted closed = groups_part kept (counted (closed_whole below closed))

-- ---- where the front is the whole

pub whole_size_of : (layout : Layout) (size n : ℕ) → n ≡ record_length layout → size % n ≡ 0 → size ≡ record_length layout * (size / n)
whole_size_of Log size n is whole = subst (λ (m : ℕ). size ≡ 16 * (size / m)) (sym is) (omega (arith, subst (λ (m : ℕ). size % m ≡ 0) is whole))
whole_size_of (Journal version) size n is whole = subst (λ (m : ℕ). size ≡ 32 * (size / m)) (sym is) (omega (arith, subst (λ (m : ℕ). size % m ≡ 0) is whole))
whole_size_of (Ledger One) size n is whole = subst (λ (m : ℕ). size ≡ 16 * (size / m)) (sym is) (omega (arith, subst (λ (m : ℕ). size % m ≡ 0) is whole))
whole_size_of (Ledger Two) size n is whole = subst (λ (m : ℕ). size ≡ 32 * (size / m)) (sym is) (omega (arith, subst (λ (m : ℕ). size % m ≡ 0) is whole))

all_front : (layout : Layout) (records : ℕ) (bytes : List ℕ) → length bytes ≡ record_length layout * records → front_of layout records bytes ≡ bytes
all_front Log records bytes size = take_all (16 * records) bytes (omega (arith, size))
all_front (Journal version) records bytes size = take_all (32 * records) bytes (omega (arith, size))
all_front (Ledger One) records bytes size = take_all (16 * records) bytes (omega (arith, size))
all_front (Ledger Two) records bytes size = take_all (32 * records) bytes (omega (arith, size))

none_behind : (layout : Layout) (records : ℕ) (bytes : List ℕ) → length bytes ≡ record_length layout * records → AreZerosBehind layout records bytes
none_behind layout records bytes size =
    subst (λ (b : List ℕ). All (λ byte. byte ≡ 0) b) (sym (drop_all (record_length layout * records) bytes (let e : length bytes ≤ record_length layout * records = omega (arith, size) in e))) none_is_zero

pub whole_seen : (layout : Layout) (records : ℕ) (disk : DiskState) → (disk.honest → length disk.reads ≡ record_length layout * records) → (seen : Seen)
    → IsPartSeen layout records disk seen → IsSeen layout disk seen
whole_seen layout records disk size Left says =
    λ honest. subst (λ (b : List ℕ). IsLeftBy layout b) (all_front layout records disk.reads (size honest)) (says honest (none_behind layout records disk.reads (size honest)))
whole_seen layout records disk size (Foreign place) says =
    λ honest. subst (λ (b : List ℕ). IsForeignAt layout place b) (all_front layout records disk.reads (size honest)) (says honest (none_behind layout records disk.reads (size honest)))
whole_seen layout records disk size Empty says = absurd says
whole_seen layout records disk size Cut says = absurd says
whole_seen layout records disk size OtherFront says = absurd says

-- ---- a file that may be made larger

same_parts : (layout : Layout) (a b m n : ℕ) → record_length layout * a + m ≡ record_length layout * b + n → m < record_length layout → n < record_length layout → (a ≡ b) × (m ≡ n)
same_parts Log a b m n is less below = (omega (arith, is, less, below), omega (arith, is, less, below))
same_parts (Journal version) a b m n is less below = (omega (arith, is, less, below), omega (arith, is, less, below))
same_parts (Ledger One) a b m n is less below = (omega (arith, is, less, below), omega (arith, is, less, below))
same_parts (Ledger Two) a b m n is less below = (omega (arith, is, less, below), omega (arith, is, less, below))

take_front : (layout : Layout) (records : ℕ) (front zeros : List ℕ) → length front ≡ record_length layout * records → front_of layout records (front ++ zeros) ≡ front
take_front Log records front zeros size = take_at front zeros (16 * records) size
take_front (Journal version) records front zeros size = take_at front zeros (32 * records) size
take_front (Ledger One) records front zeros size = take_at front zeros (16 * records) size
take_front (Ledger Two) records front zeros size = take_at front zeros (32 * records) size

pub zeros_of : (n : ℕ) → All {X = ℕ} (λ byte. byte ≡ 0) (replicate n 0)
zeros_of n k d inside = get_or-replicate n k 0 d (omega (arith, inside, length-replicate {A = ℕ} n 0))

-- its front and its zeros are those that its size tells
pub parts_of : (layout : Layout) (records rest : ℕ) (bytes : List ℕ) → length bytes ≡ record_length layout * records + rest → rest < record_length layout → IsGrowable layout bytes
    → (1 ≤ records) × IsLeftBy layout (front_of layout records bytes) × All (λ byte. byte ≡ 0) (drop (record_length layout * records) bytes)
parts_of layout records rest bytes size less growable =
    let whole = growable.left.whole in
    let long : length bytes ≡ record_length layout * whole.0 + growable.rest =
    ap length growable.is ∙ length-append growable.front (replicate growable.rest 0) ∙ ap (λ (n : ℕ). n + length {A = ℕ} (replicate growable.rest 0)) whole.2 ∙ ap (λ (n : ℕ). record_length layout * whole.0 + n) (length-replicate {A = ℕ} growable.rest 0) in
    let same = same_parts layout records whole.0 rest growable.rest (sym size ∙ long) less growable.short in
    let there : length growable.front ≡ record_length layout * records = whole.2 ∙ ap (λ (n : ℕ). record_length layout * n) (sym same.0) in (
      subst (λ (n : ℕ). 1 ≤ n) (sym same.0) whole.1,
      subst (λ (b : List ℕ). IsLeftBy layout b) (sym (ap (front_of layout records) growable.is ∙ take_front layout records growable.front (replicate growable.rest 0) there)) growable.left,
      subst (λ (b : List ℕ). All (λ byte. byte ≡ 0) b) (sym (ap (drop (record_length layout * records)) growable.is ∙ drop_at growable.front (replicate growable.rest 0) (record_length layout * records) there)) (zeros_of growable.rest),
    )

are_replicated : (zeros : List ℕ) → All (λ byte. byte ≡ 0) zeros → zeros ≡ replicate (length zeros) 0
are_replicated zeros all = same_number_lists zeros (replicate (length zeros) 0) (sym (length-replicate {A = ℕ} (length zeros) 0))
    (λ k less. all k 0 less ∙ sym (get_or-replicate (length zeros) k 0 0 less))

front_is : (layout : Layout) (records : ℕ) (bytes : List ℕ) → front_of layout records bytes ≡ take (record_length layout * records) bytes
front_is Log records bytes = refl
front_is (Journal version) records bytes = refl
front_is (Ledger One) records bytes = refl
front_is (Ledger Two) records bytes = refl

pub growable_of : (layout : Layout) (records rest : ℕ) (bytes : List ℕ) → length bytes ≡ record_length layout * records + rest → rest < record_length layout
    → IsLeftBy layout (front_of layout records bytes) → All (λ byte. byte ≡ 0) (drop (record_length layout * records) bytes) → IsGrowable layout bytes
growable_of layout records rest bytes size less left zeros =
    let at : ℕ = record_length layout * records in
    let behind : List ℕ = drop at bytes in
    let count : length behind ≡ rest = length-drop at bytes ∙ omega (arith, size) in
    record {
      front = front_of layout records bytes;
      rest = rest;
      short = less;
      is = sym (take-append-drop at bytes) ∙ ap (λ (l : List ℕ). l ++ behind) (sym (front_is layout records bytes))
          ∙ ap (λ (l : List ℕ). front_of layout records bytes ++ l) (are_replicated behind zeros ∙ ap (λ (n : ℕ). replicate n 0) count);
      left = left;
    }

-- ---- a disk that is seen to be such a file

-- a size is that of whole records, and of less than one
size_parts : (layout : Layout) (size n : ℕ) → n ≡ record_length layout → (size ≡ record_length layout * (size / n) + (size - n * (size / n))) × (size - n * (size / n) < record_length layout)
size_parts Log size n is = subst (λ (m : ℕ). (size ≡ 16 * (size / m) + (size - m * (size / m))) × (size - m * (size / m) < 16)) (sym is) (omega arith, omega arith)
size_parts (Journal version) size n is = subst (λ (m : ℕ). (size ≡ 32 * (size / m) + (size - m * (size / m))) × (size - m * (size / m) < 32)) (sym is) (omega arith, omega arith)
size_parts (Ledger One) size n is = subst (λ (m : ℕ). (size ≡ 16 * (size / m) + (size - m * (size / m))) × (size - m * (size / m) < 16)) (sym is) (omega arith, omega arith)
size_parts (Ledger Two) size n is = subst (λ (m : ℕ). (size ≡ 32 * (size / m) + (size - m * (size / m))) × (size - m * (size / m) < 32)) (sym is) (omega arith, omega arith)

pub grown_parts : (layout : Layout) (size n : ℕ) → n ≡ record_length layout → (bytes : List ℕ) → length bytes ≡ size → IsGrowable layout bytes
    → (1 ≤ size / n) × IsLeftBy layout (front_of layout (size / n) bytes) × All (λ byte. byte ≡ 0) (drop (record_length layout * (size / n)) bytes)
grown_parts layout size n is bytes long growable =
    let parts = size_parts layout size n is in
    parts_of layout (size / n) (size - n * (size / n)) bytes (long ∙ parts.0) parts.1 growable

pub not_to_grow : (layout : Layout) (disk : DiskState) → (disk.honest → ¬ IsGrowable layout disk.reads) → IsSeenToGrow layout disk false
not_to_grow layout disk not = record { growable = λ is_true. absurd (false≢true is_true); foreign = λ is_false. not }

pub other_front : (layout : Layout) (size n : ℕ) → n ≡ record_length layout → (disk : DiskState) → (disk.honest → length disk.reads ≡ size) → (found : Bool) → found ≡ false
    → IsFrontSeen layout disk found → IsSeenToGrow layout disk false
other_front layout size n is disk long true is_false seen = absurd (false≢true (sym is_false))
other_front layout size n is disk long false is_false seen = not_to_grow layout disk (λ honest growable.
    let parts = grown_parts layout size n is disk.reads (long honest) growable in
    seen.1 honest (whole_begins layout (size / n) disk.reads parts.0 parts.1.front))

pub other_bytes : (layout : Layout) (size n : ℕ) → n ≡ record_length layout → (disk : DiskState) → (disk.honest → length disk.reads ≡ size) → (found : Bool) → found ≡ false
    → AreSeenZeros (n * (size / n)) (size - n * (size / n)) disk found → IsSeenToGrow layout disk false
other_bytes layout size n is disk long found is_false seen = not_to_grow layout disk (λ honest growable.
    let parts = grown_parts layout size n is disk.reads (long honest) growable in
    let at : record_length layout * (size / n) ≡ n * (size / n) = ap (λ (m : ℕ). m * (size / n)) (sym is) in
    seen.others is_false honest (part_zero (size - n * (size / n)) (n * (size / n)) (n * (size / n)) disk.reads (omega arith)
    (subst (λ (m : ℕ). All {X = ℕ} (λ byte. byte ≡ 0) (drop m disk.reads)) at parts.2)))

pub zeros_seen : (layout : Layout) (size n : ℕ) → n ≡ record_length layout → (mid last : DiskState) → (mid.honest → length mid.reads ≡ size) → (last.honest → mid.honest)
    → last.reads ≡ mid.reads → (found : Bool) → found ≡ true
    → AreSeenZeros (n * (size / n)) (size - n * (size / n)) mid found → last.honest → AreZerosBehind layout (size / n) last.reads
zeros_seen layout size n is mid last long was same found is_true seen honest =
    let at : n * (size / n) ≡ record_length layout * (size / n) = ap (λ (m : ℕ). m * (size / n)) is in
    let count : length (drop (n * (size / n)) mid.reads) ≡ size - n * (size / n) = length-drop (n * (size / n)) mid.reads ∙ ap (λ (m : ℕ). m - n * (size / n)) (long (was honest)) in
    let all : All {X = ℕ} (λ byte. byte ≡ 0) (drop (n * (size / n)) mid.reads) =
    subst (λ (b : List ℕ). All {X = ℕ} (λ byte. byte ≡ 0) b) (take_all (size - n * (size / n)) (drop (n * (size / n)) mid.reads) (omega (arith, count))) (seen.zeros is_true (was honest)) in
    subst (λ (b : List ℕ). AreZerosBehind layout (size / n) b) (sym same) (subst (λ (m : ℕ). All {X = ℕ} (λ byte. byte ≡ 0) (drop m mid.reads)) at all)

pub left_to_grow : (layout : Layout) (size n : ℕ) → n ≡ record_length layout → (disk : DiskState) → (disk.honest → length disk.reads ≡ size)
    → (disk.honest → AreZerosBehind layout (size / n) disk.reads) → (seen : Seen) → seen ≡ Left → IsPartSeen layout (size / n) disk seen → IsSeenToGrow layout disk true
left_to_grow layout size n is disk long zeros seen left says = record {
  growable = λ is_true honest.
      let parts = size_parts layout size n is in
      growable_of layout (size / n) (size - n * (size / n)) disk.reads (long honest ∙ parts.0) parts.1
      (subst (λ (s : Seen). IsPartSeen layout (size / n) disk s) left says honest (zeros honest)) (zeros honest);
  foreign = λ is_false. absurd (false≢true (sym is_false));
}

-- not that of a log or a journal
abbrev IsOther : Seen → Type 0
IsOther Left = ⊥
IsOther _ = ⊤

other_seen : (layout : Layout) (size n : ℕ) → n ≡ record_length layout → (disk : DiskState) → (disk.honest → length disk.reads ≡ size)
    → (disk.honest → AreZerosBehind layout (size / n) disk.reads) → (seen : Seen) → IsOther seen → IsPartSeen layout (size / n) disk seen → IsSeenToGrow layout disk false
other_seen layout size n is disk long zeros Left other says = absurd other
other_seen layout size n is disk long zeros Empty other says = absurd says
other_seen layout size n is disk long zeros Cut other says = absurd says
other_seen layout size n is disk long zeros OtherFront other says = absurd says
other_seen layout size n is disk long zeros (Foreign place) other says = not_to_grow layout disk (λ honest growable.
    let parts = grown_parts layout size n is disk.reads (long honest) growable in (says honest (zeros honest)).not_left parts.1)

pub foreign_to_grow : (layout : Layout) (size n : ℕ) → n ≡ record_length layout → (disk : DiskState) → (disk.honest → length disk.reads ≡ size)
    → (disk.honest → AreZerosBehind layout (size / n) disk.reads) → (found seen : Seen) → found ≡ seen → IsOther seen → IsPartSeen layout (size / n) disk found → IsSeenToGrow layout disk false
foreign_to_grow layout size n is disk long zeros found seen same other says =
    other_seen layout size n is disk long zeros seen other (subst (λ (s : Seen). IsPartSeen layout (size / n) disk s) same says)
