-- The ranges before and after a key serial number, as they are found, and what comes of them.
use Rattle.std.proofs.Common.{◌≡◌, ◌≢◌, ◌⊎◌, ◌↔◌, ℕ, ◌<◌, ◌≤◌, Option, Some, None, MatchOption, sym, ap, ◌∙◌, subst, arith, inl, inr}
use Rattle.std.specs.BTreeMap.{IsUnchanged, is_at}
use Rattle.std.specs.Map.{lookup}
use Rattle.std.specs.Ordering.{nat_cmp}
use Rattle.std.proofs.lemmas.Bool.{cases_lt}
use Rattle.duk_tree.specs.Next.{IsLast, IsNextUsable}
use Rattle.duk_tree.specs.Path.{IsUsable}
use Rattle.duk_tree.specs.Serial.{IsSerial, Serial, serial_number}
use Rattle.duk_host.specs.declared.ranges.Range.{Range}
use Rattle.duk_host.specs.inner.Index.{AreApart, AreRanges, BeginsAfter, BeginsAt, BeginsBefore, BeginsWith, EndsWith, HasNoneAfter, HasNoneBefore, HasRange, IsHeld, IsLastBefore, IsLastUpTo, IsNextNumber, IsOfTerminal, IsPut, IsRangeAfter, Ranges, Reaches, counter_of, iksn_of}
use Rattle.duk_host.proofs.NumbersOfRanges.{HaveOnePath, usable_fits}
use Rattle.duk_host.proofs.RangeNumbers.{before_number, begins_as, counters_in_order, of_one_between, one_end, one_next, same_number, same_terminal, split_at, up_to}
use Rattle.duk_host.proofs.RangeWithOneMore.{IsJoined}

-- the range before a key serial number that is in none ends below it, and so does each earlier one
pub ends_before : (ranges : Ranges) (ksn : Serial) (before : Option Range) → AreRanges ranges
    → MatchOption before (HasNoneBefore ranges ksn) (IsLastBefore ranges ksn) → (¬ Reaches before ksn.counter)
    → (first last : ℕ) → HasRange ranges first last → BeginsBefore first ksn → last < ksn.counter
ends_before ranges ksn None are none unreached first last has begins = absurd (none first last has begins)
ends_before ranges ksn (Some before) are found unreached first last has begins =
    let below : before.last < ksn.counter = elim (cases_lt before.last ksn.counter) [
      | inl below ↦ below
      | inr reached ↦ absurd (unreached reached)
    ] in
    elim (cases_lt first before.first) [
      | inl earlier ↦
          let terminals = same_terminal first before.first ksn.iksn begins.same_terminal found.begins.same_terminal in
          let gap = are.apart first last before.first before.last has found.is_range terminals earlier in
          omega (arith, gap.is_above, gap.is_below, found.begins.at_or_below)
      | inr later ↦
          let same : first ≡ before.first = omega (arith, later, found.is_last first last has begins) in
          let end = one_end ranges before.first last before.last (subst (λ first. HasRange ranges first last) same has) found.is_range in
          omega (arith, end, below)
    ]

pub joins_below : (ranges : Ranges) (ksn : Serial) (before : Option Range) (start : ℕ) → AreRanges ranges
    → MatchOption before (HasNoneBefore ranges ksn) (IsLastBefore ranges ksn) → BeginsWith ksn before start
    → ((start ≡ serial_number ksn) × ((first last : ℕ) → HasRange ranges first last → BeginsBefore first ksn → AreApart last ksn.counter))
    ⊎ ((last : ℕ) × HasRange ranges start last × BeginsBefore start ksn × IsNextUsable last ksn.counter)
joins_below ranges ksn None start are none with = inl (with, λ first last has begins. absurd (none first last has begins))
joins_below ranges ksn (Some before) start are found (inl joins) = inr (
  before.last,
  subst (λ first. HasRange ranges first before.last) (sym joins.1) found.is_range,
  subst (λ first. BeginsBefore first ksn) (sym joins.1) found.begins,
  joins.0,
)
joins_below ranges ksn (Some before) start are found (inr alone) = inl (
  alone.1,
  λ first last has begins. elim (cases_lt first before.first) [
    | inl earlier ↦
        let terminals = same_terminal first before.first ksn.iksn begins.same_terminal found.begins.same_terminal in
        let gap = are.apart first last before.first before.last has found.is_range terminals earlier in
        record {
          between = gap.between;
          is_usable = gap.is_usable;
          is_above = gap.is_above;
          is_below = omega (arith, gap.is_below, found.begins.at_or_below);
        }
    | inr later ↦
        let same : first ≡ before.first = omega (arith, later, found.is_last first last has begins) in
        let end = one_end ranges before.first last before.last (subst (λ first. HasRange ranges first last) same has) found.is_range in
        subst (λ last. AreApart last ksn.counter) (sym end) alone.0
  ],
)

-- the next number begins right after
next_begins_after : HaveOnePath → (ksn : Serial) → IsSerial ksn → (next : ℕ) → IsNextNumber ksn next → BeginsAfter ksn next
next_begins_after paths ksn serial next is_next =
    let fits = usable_fits paths is_next.counter is_next.is_next.is_usable in
    let parts = split_at ksn.iksn is_next.counter serial.iksn_is.counter_is_zero fits in
    record {
      same_terminal = ap (λ number. iksn_of number) is_next.number_is ∙ parts.0;
      is_next = subst (λ counter. IsNextUsable ksn.counter counter) (sym (ap (λ number. counter_of number) is_next.number_is ∙ parts.1)) is_next.is_next;
    }

-- where none begins right after, none does
none_begins_after : (ranges : Ranges) (ksn : Serial) → HasNoneAfter ranges ksn → (first last : ℕ) → HasRange ranges first last → ¬ BeginsAfter ksn first
none_begins_after ranges ksn none first last has after =
    let gap = none first last has after.same_terminal after.is_next.is_above in
    let least = after.is_next.is_least gap.between gap.is_usable gap.is_above in omega (arith, least, gap.is_below)

-- of a terminal that has used all its numbers no range begins above
pub none_above_last : (ranges : Ranges) (ksn : Serial) → AreRanges ranges → IsLast ksn.counter → HasNoneAfter ranges ksn
none_above_last ranges ksn are is_last first last has terminal above =
    let below = is_last (counter_of first) (are.each first last has).begins_usable in absurd (omega (arith, below, above))

-- where no range begins at the next number, that lies before each that begins above
none_at_next : HaveOnePath → (ranges : Ranges) (ksn : Serial) → IsSerial ksn → (next : ℕ) → AreRanges ranges → IsNextNumber ksn next
    → ((last : ℕ) → ¬ HasRange ranges next last) → HasNoneAfter ranges ksn
none_at_next paths ranges ksn serial next are is_next none first last has terminal above =
    let after = next_begins_after paths ksn serial next is_next in
    let least = after.is_next.is_least (counter_of first) (are.each first last has).begins_usable above in
    let differ : counter_of next ≢ counter_of first =
    λ same.
    let is : next ≡ first = same_number next first (same_terminal next first ksn.iksn after.same_terminal terminal) same in
    none last (subst (λ first. HasRange ranges first last) (sym is) has) in
    record {
      between = counter_of next;
      is_usable = after.is_next.is_usable;
      is_above = after.is_next.is_above;
      is_below = omega (arith, least, differ);
    }

-- the last range up to a number of its terminal from a key serial number on is the last before that one, unless it begins above it
before_up_to : (ranges : Ranges) (ksn : Serial) (until : ℕ) (range : Range) (found : Option Range)
    → iksn_of until ≡ ksn.iksn → serial_number ksn ≤ until → IsLastUpTo ranges until range
    → (iksn_of range.first ≡ ksn.iksn → counter_of range.first ≤ ksn.counter)
    → MatchOption found (iksn_of range.first ≢ ksn.iksn) (IsOfTerminal range ksn)
    → MatchOption found (HasNoneBefore ranges ksn) (IsLastBefore ranges ksn)
before_up_to ranges ksn until range None of_ksn below greatest within differ = λ first last has is_before.
    let first_below : first ≤ until = omega (arith, below, before_number ksn first is_before) in
    let same = same_terminal first until ksn.iksn is_before.same_terminal of_ksn in
    differ (of_one_between first range.first until same (greatest.is_last first last has first_below) greatest.is_up_to ∙ of_ksn)
before_up_to ranges ksn until range (Some found) of_ksn below greatest within is_of =
    let is_last_before : IsLastBefore ranges ksn range = record {
      is_range = greatest.is_range;
      begins = record { same_terminal = is_of.same_terminal; at_or_below = within is_of.same_terminal };
      is_last = λ first last has is_before. greatest.is_last first last has (omega (arith, below, before_number ksn first is_before));
    } in subst (λ range. IsLastBefore ranges ksn range) (sym is_of.is_same) is_last_before

next_above : (ksn : Serial) (next : ℕ) (is_next : IsNextNumber ksn next) → serial_number ksn < next
next_above ksn next is_next = omega (arith, is_next.number_is, is_next.is_next.is_above)

module _ (paths : HaveOnePath) (ranges : Ranges) (ksn : Serial) (serial : IsSerial ksn) (next : ℕ) (are : AreRanges ranges) (is_next : IsNextNumber ksn next) where
  -- up to the next number, where another range than one that begins there is the last
  pub before_next : (range : Range) (found : Option Range) → IsLastUpTo ranges next range → range.first ≢ next
      → MatchOption found (iksn_of range.first ≢ ksn.iksn) (IsOfTerminal range ksn)
      → MatchOption found (HasNoneBefore ranges ksn) (IsLastBefore ranges ksn)
  before_next range found greatest differ is_of =
      let after = next_begins_after paths ksn serial next is_next in
      let above = next_above ksn next is_next in
      let within : iksn_of range.first ≡ ksn.iksn → counter_of range.first ≤ ksn.counter = λ same.
      let lower : range.first < next = omega (arith, greatest.is_up_to, differ) in
      let terminals = same_terminal range.first next ksn.iksn same after.same_terminal in
      let below = counters_in_order range.first next terminals lower in
      up_to ksn.counter (counter_of range.first) (counter_of next) (are.each range.first range.last greatest.is_range).begins_usable after.is_next below in
      before_up_to ranges ksn next range found after.same_terminal (omega (arith, above)) greatest within is_of

  -- and then none begins there
  pub none_after_other : (range : Range) → IsLastUpTo ranges next range → range.first ≢ next → HasNoneAfter ranges ksn
  none_after_other range up_to differ =
      none_at_next paths ranges ksn serial next are is_next
      (λ last has. let least = up_to.is_last next last has (omega arith) in differ (omega (arith, least, up_to.is_up_to)))

joins_above : (ranges : Ranges) (ksn : Serial) (after : Option Range) (end : ℕ)
    → MatchOption after (HasNoneAfter ranges ksn) (IsRangeAfter ranges ksn) → EndsWith ksn.counter after end
    → ((end ≡ ksn.counter) × HasNoneAfter ranges ksn) ⊎ ((first : ℕ) × HasRange ranges first end × BeginsAfter ksn first)
joins_above ranges ksn None end none ends = inl (ends, none)
joins_above ranges ksn (Some after) end is_after ends = inr (
  after.first,
  subst (λ last. HasRange ranges after.first last) (sym ends) is_after.is_range,
  is_after.begins,
)

-- the range after a key serial number is the one that begins right after it
begins_at_after : (ranges : Ranges) (ksn : Serial) (after : Option Range) → MatchOption after (HasNoneAfter ranges ksn) (IsRangeAfter ranges ksn)
    → (first : ℕ) → BeginsAt after first → BeginsAfter ksn first
begins_at_after ranges ksn None none first at = absurd at
begins_at_after ranges ksn (Some after) is_after first at = subst (λ first. BeginsAfter ksn first) (sym at) is_after.begins

after_begins_at : (ranges : Ranges) (ksn : Serial) (after : Option Range) → MatchOption after (HasNoneAfter ranges ksn) (IsRangeAfter ranges ksn)
    → (first last : ℕ) → HasRange ranges first last → BeginsAfter ksn first → BeginsAt after first
after_begins_at ranges ksn None none first last has begins = none_begins_after ranges ksn none first last has begins
after_begins_at ranges ksn (Some after) is_after first last has begins =
    let terminals = same_terminal first after.first ksn.iksn begins.same_terminal is_after.begins.same_terminal in
    same_number first after.first terminals (one_next ksn.counter (counter_of first) (counter_of after.first) begins.is_next is_after.begins.is_next)

-- what the functions found and did is what is known as a key serial number comes
pub is_joined : (old new : Ranges) (ksn : Serial) (range : Range) (before after : Option Range)
    → AreRanges old → IsSerial ksn → IsUsable ksn.counter
    → MatchOption before (HasNoneBefore old ksn) (IsLastBefore old ksn) → (¬ Reaches before ksn.counter) → BeginsWith ksn before range.first
    → MatchOption after (HasNoneAfter old ksn) (IsRangeAfter old ksn) → EndsWith ksn.counter after range.last
    → IsPut old new range after → IsJoined old new ksn range
is_joined old new ksn range before after are serial usable found unreached begins_with is_after ends_with put = record {
  are = are;
  serial = serial;
  usable = usable;
  fresh = ends_before old ksn before are found unreached;
  below = joins_below old ksn before range.first are found begins_with;
  above = joins_above old ksn after range.last is_after ends_with;
  here = put.here;
  only = λ first last has. elim (put.only first last has) [
    | inl same ↦ inl same
    | inr was ↦ inr (was.0, was.1, λ begins. was.2 (after_begins_at old ksn after is_after first last was.0 begins))
  ];
  kept = λ first last has. elim (put.kept first last has) [
    | inl stays ↦ inl stays
    | inr (inl same) ↦ inr (inl same)
    | inr (inr joins) ↦ inr (inr (begins_at_after old ksn after is_after first joins))
  ];
}

-- a key serial number that the range before it reaches is in that one; in none before it or where that one does not reach, it is in none
pub held_iff_reached : (ranges : Ranges) (ksn : Serial) (before : Option Range) → AreRanges ranges
    → MatchOption before (HasNoneBefore ranges ksn) (IsLastBefore ranges ksn)
    → (Reaches before ksn.counter × IsUsable ksn.counter) ↔ IsHeld ranges ksn
held_iff_reached ranges ksn None are none = (
  λ reached. absurd reached.0,
  λ held. absurd (none held.first held.last held.is_range (begins_as held.first held.last ksn held.is_in)),
)
held_iff_reached ranges ksn (Some before) are found = (
  λ reached. record {
    first = before.first;
    last = before.last;
    is_range = found.is_range;
    is_in = record {
      same_terminal = found.begins.same_terminal;
      from_first = found.begins.at_or_below;
      to_last = reached.0;
      is_usable = reached.1;
    };
  },
  λ held.
      let is_before = begins_as held.first held.last ksn held.is_in in (
        elim (cases_lt before.last ksn.counter) [
          | inl below ↦
              let ends = ends_before ranges ksn (Some before) are found (λ reached. omega (arith, reached, below)) held.first held.last held.is_range is_before in
              absurd (omega (arith, ends, held.is_in.to_last))
          | inr reached ↦ reached
        ],
        held.is_in.is_usable,
      ),
)

-- ranges with the entries of others are as those are
pub ranges_unchanged : (old new : Ranges) → IsUnchanged old new → AreRanges old → AreRanges new
ranges_unchanged old new same are =
    let was = λ (first last : ℕ) (has : HasRange new first last). subst (λ entries. lookup (is_at (nat_cmp first)) entries ≡ Some last) same has in
    record {
      each = λ first last has. are.each first last (was first last has);
      apart = λ first last second end has others. are.apart first last second end (was first last has) (was second end others);
    }
