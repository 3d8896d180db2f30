-- Records that are copied behind others, and what is said of them.
use Rattle.std.proofs.Common.{◌≡◌, ◌∙◌, inl, inr, ◌+◌, ◌*◌, ◌-◌, ◌<◌, ◌≤◌, ◌++◌, ℕ, List, [], ap, arith, drop, length, refl, subst, sym, take}
use Rattle.std.proofs.Math.Seq.{drop-append_seam}
use Rattle.std.proofs.lemmas.Bool.{cases_lt}
use Rattle.std.proofs.lemmas.List.{drop-drop, drop-take, length-append, take-append-le, take-take}
use Rattle.duk_journal.specs.RecordFormat.{record_at}
use Rattle.duk_journal_copy.specs.Version.{format_of}
use Rattle.duk_journal_copy.specs.declared.convert.Spot.{Spot}
use Rattle.duk_journal_copy.specs.declared.copy.CopyFault.{CopyFault}
use Rattle.duk_journal_copy.specs.declared.copy.CopyFault.TheVariants.{Old, Changed, New}
use Rattle.duk_journal_copy.specs.declared.copy.Kept.{Kept}
use Rattle.duk_journal_copy.specs.declared.version.Version.{Version}
use Rattle.duk_journal_copy.specs.inner.Convert.{IsConverted}
use Rattle.duk_journal_copy.specs.inner.Copy.{AreConvertedFrom, CauseOf, IsPieceCopied, PieceUncopied, RecordsUncopied, StaysRead, new_spot, old_spot}
use Rattle.duk_store.specs.Disk.{DiskState, HasFailed, PreservesDisk, range_of, written}
use Rattle.duk_store.specs.Records.{HasContents}
use Rattle.duk_store.specs.declared.fault.StoreFault.{StoreFault}
use Rattle.duk_store.specs.declared.fault.StoreFault.TheVariants.{Device}
use Rattle.duk_journal_copy.proofs.RecordPlaces.{record_is}
use Rattle.duk_journal_copy.proofs.WrittenDisks.{bytes_then, fails_later, keeps_none, keeps_on, stays_none, stays_on}
use Rattle.duk_journal_copy.proofs.WrittenLists.{written_behind, written_none}

-- ---- as lists

-- a record of a range of records
pub record_in_range : (at count place : ℕ) (xs : List ℕ) → place < count
    → record_at place (range_of (32 * at) (32 * count) xs) ≡ record_at (at + place) xs
record_in_range at count place xs less =
    let ys : List ℕ = drop (32 * at) xs in
    let more : ℕ = 32 * count - 32 * place in
    let whole : 32 * count ≡ 32 * place + more = omega (arith, less) in
    ap (λ (n : ℕ). take 32 (drop (32 * place) (take n ys))) whole
    ∙ ap (take 32) (drop-take (32 * place) more ys)
    ∙ take-take 32 more (drop (32 * place) ys) (omega (arith, less))
    ∙ ap (take 32) (drop-drop (32 * place) (32 * at) xs)
    ∙ ap (λ (n : ℕ). take 32 (drop n xs)) (omega arith)

-- a record of what stands in front, and one of what stands behind
pub record_in_front : (place : ℕ) (xs ys : List ℕ) → 32 * place + 32 ≤ length xs → record_at place (xs ++ ys) ≡ record_at place xs
record_in_front place xs ys inside =
    record_is place (xs ++ ys) ∙ ap (drop (32 * place)) (take-append-le (32 * place + 32) xs ys inside) ∙ sym (record_is place xs)

pub drop_behind : (n k : ℕ) (xs ys : List ℕ) → length xs ≡ n → drop (n + k) (xs ++ ys) ≡ drop k ys
drop_behind n k xs ys long =
    sym (drop-drop k n (xs ++ ys))
    ∙ ap (λ (m : ℕ). drop k (drop m (xs ++ ys))) (sym long)
    ∙ ap (drop k) (drop-append_seam xs ys)

pub record_behind : (at place : ℕ) (xs ys : List ℕ) → length xs ≡ 32 * at → record_at (at + place) (xs ++ ys) ≡ record_at place ys
record_behind at place xs ys long =
    let there : 32 * (at + place) ≡ 32 * at + 32 * place = omega arith in
    ap (λ (n : ℕ). take 32 (drop n (xs ++ ys))) there ∙ ap (take 32) (drop_behind (32 * at) (32 * place) xs ys long)

-- ---- as records that say the same

abbrev pub spot : ℕ → ℕ → Spot
spot identity place = record { identity = identity; place = place }

-- what is said at one place is said at another that is the same
moved : (version : Version) (own identity m n j k : ℕ) (bytes x y : List ℕ) → m ≡ n → j ≡ k → x ≡ y
    → IsConverted version (spot own m) (spot identity j) (record_at m bytes) x → IsConverted version (spot own n) (spot identity k) (record_at n bytes) y
moved version own identity m n j k bytes x y there here is it =
    subst (λ (l : List ℕ). IsConverted version (spot own n) (spot identity k) (record_at n bytes) l) is
    (subst (λ (i : ℕ). IsConverted version (spot own n) (spot identity i) (record_at n bytes) x) here
    (subst (λ (i : ℕ). IsConverted version (spot own i) (spot identity j) (record_at i bytes) x) there it))

-- records behind others
converted_on : (version : Version) (own identity m m' j j' at count : ℕ) (bytes xs ys : List ℕ) → length xs ≡ 32 * at → m' ≡ m + at → j' ≡ j + at
    → AreConvertedFrom version (spot own m) (spot identity j) at bytes xs → AreConvertedFrom version (spot own m') (spot identity j') count bytes ys
    → AreConvertedFrom version (spot own m) (spot identity j) (at + count) bytes (xs ++ ys)
converted_on version own identity m m' j j' at count bytes xs ys long there here one two = each
  where
    each : (place : ℕ) → place < at + count → IsConverted version (spot own (m + place)) (spot identity (j + place)) (record_at (m + place) bytes) (record_at place (xs ++ ys))
    each place less = elim (cases_lt place at) [
      | inl before ↦
          subst (λ (l : List ℕ). IsConverted version (spot own (m + place)) (spot identity (j + place)) (record_at (m + place) bytes) l)
          (sym (record_in_front place xs ys (omega (arith, before, long)))) (one place before)
      | inr past ↦
          let behind : ℕ = place - at in
          moved version own identity (m' + behind) (m + place) (j' + behind) (j + place) bytes (record_at behind ys) (record_at place (xs ++ ys))
          (omega (arith, there, past)) (omega (arith, here, past))
          (sym (record_behind at behind xs ys long) ∙ ap (λ (n : ℕ). record_at n (xs ++ ys)) (omega (arith, past)))
          (two behind (omega (arith, less, past)))
    ]

-- no record
pub none_on : (version : Version) (own identity : ℕ) (old new : DiskState) → (new.honest → 32 ≤ length new.reads)
    → IsPieceCopied version (old_spot version own 0) (new_spot identity 0) (0 - 0) old old new new
none_on version own identity old new room = record {
  stays = stays_none old;
  nature = keeps_none new;
  no_failure = refl;
  copied = λ k. ([], refl, λ h place less. absurd (omega (arith, less)), written_none new.reads 32 (room k));
}

-- a piece of records more
pub piece_on : (version : Version) (own identity headers at count : ℕ) (old old' old'' new new' new'' : DiskState)
    → (new.honest → length new.reads ≡ new.size) → headers ≡ (format_of version).headers → 32 * (1 + (at + count)) ≤ new.size
    → IsPieceCopied version (old_spot version own 0) (new_spot identity 0) (at - 0) old old' new new'
    → IsPieceCopied version (spot own (headers + at)) (new_spot identity at) count old' old'' new' new''
    → IsPieceCopied version (old_spot version own 0) (new_spot identity 0) (at + count - 0) old old'' new new''
piece_on version own identity headers at count old old' old'' new new' new'' long is room one two = record {
  stays = stays_on old old' old'' one.stays two.stays;
  nature = keeps_on new new' new'' one.nature two.nature;
  no_failure = two.no_failure ∙ one.no_failure;
  copied = λ k.
      let first = one.copied k in
      let second = two.copied (one.nature.honest.0 k) in
      let first_long : length first.0 ≡ 32 * at = first.1 ∙ omega arith in
      let all_long : length (first.0 ++ second.0) ≡ 32 * (at + count - 0) = length-append first.0 second.0 ∙ omega (arith, first_long, second.1) in
      let behind : 32 * (1 + at) ≡ 32 + length first.0 = omega (arith, first_long) in (
        first.0 ++ second.0,
        all_long,
        λ h place less.
            converted_on version own identity ((format_of version).headers + 0) (headers + at) 1 (1 + at) at count old.reads first.0 second.0 first_long
            (omega (arith, is)) refl
            (λ p q. first.2 h p (omega (arith, q)))
            (subst (λ (l : List ℕ). AreConvertedFrom version (spot own (headers + at)) (new_spot identity at) count l second.0) one.stays.bytes.reads
            (second.2 (one.stays.nature.honest.0 h)))
            place (omega (arith, less)),
        second.3 ∙ ap (λ (l : List ℕ). written l (32 * (1 + at)) second.0) first.3
            ∙ written_behind new.reads first.0 second.0 32 (32 * (1 + at)) behind (omega (arith, second.1, long k, room)),
      );
}

-- a piece that is not copied, behind others that are
cause_on : (version : Version) (own headers at count all : ℕ) (old old' old'' new new' new'' : DiskState) (why : CopyFault)
    → headers ≡ (format_of version).headers → at + count ≤ all → StaysRead old old' → PreservesDisk new new' → new'.failures ≡ new.failures
    → CauseOf version (spot own (headers + at)) count old' old'' new' new'' why
    → CauseOf version (old_spot version own 0) all old old'' new new'' why
cause_on version own headers at count all old old' old'' new new' new'' Old is within stays nature no_failure cause =
    fails_later old old' old'' _ stays.nature stays.no_failure cause
cause_on version own headers at count all old old' old'' new new' new'' New is within stays nature no_failure cause =
    fails_later new new' new'' _ nature no_failure cause
cause_on version own headers at count all old old' old'' new new' new'' Changed is within stays nature no_failure cause = λ h.
    let none = cause (stays.nature.honest.0 h) in
    let there : (format_of version).headers + 0 + (at + none.0) ≡ headers + at + none.0 = omega (arith, is) in (
      at + none.0,
      omega (arith, none.1, within),
      λ followers entry has.
          none.2 followers entry
          (subst (λ (l : List ℕ). HasContents (format_of version) own (headers + at + none.0) followers entry (record_at (headers + at + none.0) l)) (sym stays.bytes.reads)
          (subst (λ (n : ℕ). HasContents (format_of version) own n followers entry (record_at n old.reads)) there has)),
    )

pub piece_not : (kept : Kept) (own headers at count : ℕ) (old old' old'' new new' new'' : DiskState) (why : CopyFault)
    → headers ≡ (format_of kept.version).headers → at + count ≤ kept.count → StaysRead old old' → PreservesDisk new new' → new'.failures ≡ new.failures
    → PieceUncopied kept.version (spot own (headers + at)) count old' old'' new' new'' why
    → RecordsUncopied kept own old old'' new new'' why
piece_not kept own headers at count old old' old'' new new' new'' why is within stays nature no_failure not_copied = record {
  nature = keeps_on old old' old'' stays.nature not_copied.nature;
  bytes = bytes_then old old' old'' stays.bytes not_copied.bytes;
  new_nature = keeps_on new new' new'' nature not_copied.new_nature;
  cause = cause_on kept.version own headers at count kept.count old old' old'' new new' new'' why is within stays nature no_failure not_copied.cause;
}

-- records that are not copied, behind a header that is written
pub front_not : (kept : Kept) (own : ℕ) (old old' new front new' : DiskState) (why : CopyFault) → PreservesDisk new front → front.failures ≡ new.failures
    → RecordsUncopied kept own old old' front new' why → RecordsUncopied kept own old old' new new' why
front_not kept own old old' new front new' why nature none not_copied = record {
  nature = not_copied.nature;
  bytes = not_copied.bytes;
  new_nature = keeps_on new front new' nature not_copied.new_nature;
  cause = cause why not_copied.cause;
}
  where
    cause : (why : CopyFault) → CauseOf kept.version (old_spot kept.version own 0) kept.count old old' front new' why → CauseOf kept.version (old_spot kept.version own 0) kept.count old old' new new' why
    cause Old it = it
    cause Changed it = it
    cause New it = fails_later new front new' _ nature none it

-- records that are, and what stands behind them is not written
pub later_not : (kept : Kept) (own : ℕ) (old old' new mid last : DiskState) (fault : StoreFault) → StaysRead old old' → PreservesDisk new mid → mid.failures ≡ new.failures
    → PreservesDisk mid last → HasFailed mid last fault → RecordsUncopied kept own old old' new last New
later_not kept own old old' new mid last fault stays nature none later failed = record {
  nature = stays.nature;
  bytes = stays.bytes;
  new_nature = keeps_on new mid last nature later;
  cause = fails_later new mid last Device nature none (record { fault_is = refl; failure = failed.failure; not_calm = failed.not_calm });
}
