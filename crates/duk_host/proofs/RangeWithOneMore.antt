-- A key serial number that comes into ranges: they stay ranges, and hold it and what they held.
use Rattle.std.proofs.Common.{◌≡◌, ◌≢◌, ◌⊎◌, ℕ, ◌<◌, ◌≤◌, sym, ap, ◌∙◌, subst, arith, inl, inr}
use Rattle.std.proofs.lemmas.Bool.{cases_order}
use Rattle.duk_tree.specs.Next.{IsNextUsable}
use Rattle.duk_tree.specs.Path.{IsUsable}
use Rattle.duk_tree.specs.Serial.{IsSerial, Serial, serial_number}
use Rattle.duk_host.specs.declared.ranges.Range.{Range}
use Rattle.duk_host.specs.inner.Index.{AreApart, AreRanges, BeginsAfter, BeginsBefore, HasNoneAfter, HasRange, HoldsOneMore, IsHeld, IsInRange, IsRange, Ranges, counter_of, iksn_of}
use Rattle.duk_host.proofs.RangeNumbers.{begins_as, counters_in_order, ending_at, in_order, of_same_terminal, one_end, one_next, same_number, same_serial, same_terminal, split, up_to}

-- what is known of ranges as a key serial number comes, and of those with it
pub record IsJoined (old new : Ranges) (ksn : Serial) (range : Range) : Type 0 where
  pub are : AreRanges old
  pub serial : IsSerial ksn
  pub usable : IsUsable ksn.counter
  pub fresh : (first last : ℕ) → HasRange old first last → BeginsBefore first ksn → last < ksn.counter
  pub below : ((range.first ≡ serial_number ksn) × ((first last : ℕ) → HasRange old first last → BeginsBefore first ksn → AreApart last ksn.counter))
      ⊎ ((last : ℕ) × HasRange old range.first last × BeginsBefore range.first ksn × IsNextUsable last ksn.counter)
  pub above : ((range.last ≡ ksn.counter) × HasNoneAfter old ksn)
      ⊎ ((first : ℕ) × HasRange old first range.last × BeginsAfter ksn first)
  pub here : HasRange new range.first range.last
  pub only : (first last : ℕ) → HasRange new first last
      → ((first ≡ range.first) × (last ≡ range.last)) ⊎ (HasRange old first last × (first ≢ range.first) × (¬ BeginsAfter ksn first))
  pub kept : (first last : ℕ) → HasRange old first last
      → HasRange new first last ⊎ ((first ≡ range.first) ⊎ BeginsAfter ksn first)

module _ (old new : Ranges) (ksn : Serial) (range : Range) (joined : IsJoined old new ksn range) where
  -- the range with the key serial number begins at or below it
  begins : BeginsBefore range.first ksn
  begins = elim joined.below [
    | inl alone ↦
        let parts = split ksn joined.serial in
        record {
          same_terminal = subst (λ first. iksn_of first ≡ ksn.iksn) (sym alone.0) parts.terminal;
          at_or_below = subst (λ first. counter_of first ≤ ksn.counter) (sym alone.0) (omega (arith, parts.counter));
        }
    | inr before ↦ before.2
  ]

  -- and ends at or above it
  reaches : ksn.counter ≤ range.last
  reaches = elim joined.above [
    | inl alone ↦ omega (arith, alone.0)
    | inr after ↦
        let second = joined.are.each after.0 range.last after.1 in omega (arith, second.is_forward, after.2.is_next.is_above)
  ]

  begins_usable : IsUsable (counter_of range.first)
  begins_usable = elim joined.below [
    | inl alone ↦
        let parts = split ksn joined.serial in
        subst (λ counter. IsUsable counter) (sym (ap (λ first. counter_of first) alone.0 ∙ parts.counter)) joined.usable
    | inr before ↦ (joined.are.each range.first before.0 before.1).begins_usable
  ]

  ends_usable : IsUsable range.last
  ends_usable = elim joined.above [
    | inl alone ↦ subst (λ counter. IsUsable counter) (sym alone.0) joined.usable
    | inr after ↦ (joined.are.each after.0 range.last after.1).ends_usable
  ]

  -- an old range that begins behind the first of the new one begins behind the key serial number
  begins_behind : (second end : ℕ) → HasRange old second end → iksn_of range.first ≡ iksn_of second → range.first < second → ksn.counter < counter_of second
  begins_behind second end has same behind =
      let usable = (joined.are.each second end has).begins_usable in
      elim joined.below [
        | inl alone ↦
            let parts = split ksn joined.serial in
            let first : counter_of range.first ≡ ksn.counter = ap (λ first. counter_of first) alone.0 ∙ parts.counter in
            let below = counters_in_order range.first second same behind in omega (arith, first, below)
        | inr before ↦
            let gap = joined.are.apart range.first before.0 second end before.1 has same behind in
            let least = before.3.is_least gap.between gap.is_usable gap.is_above in omega (arith, least, gap.is_below)
      ]

  -- it is apart from the new one, unless this joined it
  apart_above : (second end : ℕ) → HasRange old second end → ¬ BeginsAfter ksn second → iksn_of range.first ≡ iksn_of second → range.first < second → AreApart range.last (counter_of second)
  apart_above second end has not_after same behind =
      let above = begins_behind second end has same behind in
      let terminal = of_same_terminal second range.first ksn.iksn (sym same) begins.same_terminal in
      elim joined.above [
        | inl alone ↦ subst (λ last. AreApart last (counter_of second)) (sym alone.0) (alone.1 second end has terminal above)
        | inr after ↦
            let least = after.2.is_next.is_least (counter_of second) (joined.are.each second end has).begins_usable above in
            let differ : counter_of after.0 ≢ counter_of second =
            λ is. not_after (record { same_terminal = terminal; is_next = subst (λ counter. IsNextUsable ksn.counter counter) is after.2.is_next }) in
            let terminals = same_terminal after.0 second ksn.iksn after.2.same_terminal terminal in
            joined.are.apart after.0 range.last second end after.1 has terminals (in_order after.0 second terminals (omega (arith, least, differ)))
      ]

  -- an old range that begins before the new one is apart from it
  apart_below : (first last : ℕ) → HasRange old first last → iksn_of first ≡ iksn_of range.first → first < range.first → AreApart last (counter_of range.first)
  apart_below first last has same before_it = elim joined.below [
    | inl alone ↦
        let parts = split ksn joined.serial in
        let counter : counter_of range.first ≡ ksn.counter = ap (λ first. counter_of first) alone.0 ∙ parts.counter in
        let below = counters_in_order first range.first same before_it in
        let is_before : BeginsBefore first ksn = record {
          same_terminal = of_same_terminal first range.first ksn.iksn same begins.same_terminal;
          at_or_below = omega (arith, below, counter);
        } in
        subst (λ counter. AreApart last counter) (sym counter) (alone.1 first last has is_before)
    | inr before ↦ joined.are.apart first last range.first before.0 has before.1 same before_it
  ]

  still_each : (first last : ℕ) → HasRange new first last → IsRange first last
  still_each first last has = elim (joined.only first last has) [
    | inl same ↦
        let whole : IsRange range.first range.last = record {
          begins_usable = begins_usable;
          ends_usable = ends_usable;
          is_forward = omega (arith, begins.at_or_below, reaches);
        } in
        subst (λ first. IsRange first last) (sym same.0) (subst (λ last. IsRange range.first last) (sym same.1) whole)
    | inr was ↦ joined.are.each first last was.0
  ]

  still_apart : (first last second end : ℕ) → HasRange new first last → HasRange new second end → iksn_of first ≡ iksn_of second → first < second → AreApart last (counter_of second)
  still_apart first last second end has others same below = elim (joined.only first last has) [
    | inl is ↦ elim (joined.only second end others) [
      | inl is_too ↦ absurd (omega (arith, is.0, is_too.0, below))
      | inr was ↦
          let same : iksn_of range.first ≡ iksn_of second = subst (λ first. iksn_of first ≡ iksn_of second) is.0 same in
          subst (λ last. AreApart last (counter_of second)) (sym is.1) (apart_above second end was.0 was.2 same (omega (arith, is.0, below)))
    ]
    | inr was ↦ elim (joined.only second end others) [
      | inl is ↦
          let same : iksn_of first ≡ iksn_of range.first = subst (λ second. iksn_of first ≡ iksn_of second) is.0 same in
          subst (λ second. AreApart last (counter_of second)) (sym is.0) (apart_below first last was.0 same (omega (arith, is.0, below)))
      | inr was_too ↦ joined.are.apart first last second end was.0 was_too.0 same below
    ]
  ]

  pub still_ranges : AreRanges new
  still_ranges = record { each = still_each; apart = still_apart }

  -- what is in the new range was in an old one, or is the key serial number
  from_new : (other : Serial) → IsInRange range.first range.last other → IsHeld old other ⊎ (other ≡ ksn)
  from_new other is_in =
      let iksn : other.iksn ≡ ksn.iksn = sym is_in.same_terminal ∙ begins.same_terminal in
      elim (cases_order other.counter ksn.counter) [
        | inl same ↦ inr (same_serial other ksn iksn same)
        | inr (inl less) ↦ elim joined.below [
          | inl alone ↦
              let parts = split ksn joined.serial in
              let first : counter_of range.first ≡ ksn.counter = ap (λ first. counter_of first) alone.0 ∙ parts.counter in
              absurd (omega (arith, first, is_in.from_first, less))
          | inr before ↦ inl (record {
            first = range.first;
            last = before.0;
            is_range = before.1;
            is_in = ending_at range.first range.last before.0 other is_in (up_to before.0 other.counter ksn.counter is_in.is_usable before.3 less);
          })
        ]
        | inr (inr more) ↦ elim joined.above [
          | inl alone ↦ absurd (omega (arith, alone.0, is_in.to_last, more))
          | inr after ↦ inl (record {
            first = after.0;
            last = range.last;
            is_range = after.1;
            is_in = record {
              same_terminal = after.2.same_terminal ∙ sym iksn;
              from_first = after.2.is_next.is_least other.counter is_in.is_usable more;
              to_last = is_in.to_last;
              is_usable = is_in.is_usable;
            };
          })
        ]
      ]

  -- what was in the range that it joined above is in the new range
  in_joined : (other : Serial) (held : IsHeld old other) → BeginsAfter ksn held.first → IsInRange range.first range.last other
  in_joined other held after =
      let is_in = held.is_in in
      let above : range.last ≡ held.last = elim joined.above [
        | inl alone ↦
            let gap = alone.1 held.first held.last held.is_range after.same_terminal after.is_next.is_above in
            let least = after.is_next.is_least gap.between gap.is_usable gap.is_above in absurd (omega (arith, least, gap.is_below))
        | inr found ↦
            let terminals = same_terminal found.0 held.first ksn.iksn found.2.same_terminal after.same_terminal in
            let counters = one_next ksn.counter (counter_of found.0) (counter_of held.first) found.2.is_next after.is_next in
            let first = same_number found.0 held.first terminals counters in
            one_end old held.first range.last held.last (subst (λ first. HasRange old first range.last) first found.1) held.is_range
      ] in
      record {
        same_terminal = begins.same_terminal ∙ sym after.same_terminal ∙ is_in.same_terminal;
        from_first = omega (arith, begins.at_or_below, after.is_next.is_above, is_in.from_first);
        to_last = omega (arith, is_in.to_last, above);
        is_usable = is_in.is_usable;
      }

  -- what was in an old range is in a new one
  still_held : (other : Serial) → IsHeld old other → IsHeld new other
  still_held other held =
      let is_in = held.is_in in
      elim (joined.kept held.first held.last held.is_range) [
        | inl stays ↦ record { first = held.first; last = held.last; is_range = stays; is_in = is_in }
        | inr (inl is) ↦
            let is_before : BeginsBefore held.first ksn = subst (λ first. BeginsBefore first ksn) (sym is) begins in
            let below = joined.fresh held.first held.last held.is_range is_before in
            let wider = ending_at held.first held.last range.last other is_in (omega (arith, is_in.to_last, below, reaches)) in
            record { first = range.first; last = range.last; is_range = joined.here; is_in = subst (λ first. IsInRange first range.last other) is wider }
        | inr (inr after) ↦
            record { first = range.first; last = range.last; is_range = joined.here; is_in = in_joined other held after }
      ]

  pub holds_one_more : HoldsOneMore old ksn new
  holds_one_more other = (
    λ held. elim (joined.only held.first held.last held.is_range) [
      | inl is ↦
          from_new other (subst (λ first. IsInRange first range.last other) is.0 (subst (λ last. IsInRange held.first last other) is.1 held.is_in))
      | inr was ↦ inl (record { first = held.first; last = held.last; is_range = was.0; is_in = held.is_in })
    ],
    elim [
      | inl held ↦ still_held other held
      | inr is ↦
          let whole : IsHeld new ksn = record {
            first = range.first;
            last = range.last;
            is_range = joined.here;
            is_in = record {
              same_terminal = begins.same_terminal;
              from_first = begins.at_or_below;
              to_last = reaches;
              is_usable = joined.usable;
            };
          } in subst (λ serial. IsHeld new serial) (sym is) whole
    ],
  )

  -- it was in no old range
  pub was_fresh : ¬ IsHeld old ksn
  was_fresh held =
      let is_before = begins_as held.first held.last ksn held.is_in in
      let below = joined.fresh held.first held.last held.is_range is_before in omega (arith, below, held.is_in.to_last)
