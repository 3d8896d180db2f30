-- A file's bytes: a header, records, and zeros behind them. They are written in turn, but for the first two.
use Rattle.std.proofs.Common.{◌≡◌, ◌∙◌, ◌⊎◌, inl, inr, ◌+◌, ◌*◌, ◌-◌, ◌<◌, ◌≤◌, ◌++◌, ℕ, List, ap, arith, drop, get_or, length, length-drop, replicate, sym, take}
use Rattle.std.proofs.Math.Seq.{drop-append_seam, take-append_seam}
use Rattle.std.proofs.lemmas.Bool.{cases_lt}
use Rattle.std.proofs.lemmas.List.{get_or-append_right, get_or-drop, get_or_append_left, get_or_past, length-append, length-replicate}
use Rattle.duk_journal.specs.Header.{header_of}
use Rattle.duk_journal.specs.RecordFormat.{record_at}
use Rattle.duk_journal_copy.specs.inner.Head.{HasRestOf}
use Rattle.duk_journal_copy.specs.inner.Rest.{file_bytes}
use Rattle.duk_store.specs.Disk.{written}
use Rattle.duk_journal_copy.proofs.CopiedRecords.{drop_behind, record_behind, record_in_front}
use Rattle.duk_journal_copy.proofs.WrittenLists.{at_written, before_written, length_written, written_behind}

-- a header, and other bytes behind it
module _ (kind identity : ℕ) (long : length (header_of kind identity) ≡ 32) (tail : List ℕ) where
  abbrev header : List ℕ
  header = header_of kind identity

  whole_length : length (header ++ tail) ≡ 32 + length tail
  whole_length = length-append header tail ∙ omega (arith, long)

  pub in_front : (k : ℕ) → k < 32 → get_or (header ++ tail) k 0 ≡ get_or header k 0
  in_front k less = get_or_append_left header tail 0 k (omega (arith, less, long))

  -- the rest of it is written: the header from its third byte on, and the other bytes
  pub rest_of_whole : (l front last : List ℕ) → length l ≡ 32 + length tail → front ≡ written l 2 (drop 2 header) → last ≡ written front 32 tail
      → HasRestOf (header ++ tail) last
  rest_of_whole l front last size_is first second = record {
    same_length = ap length second ∙ length_written front tail 32 (omega (arith, front_length)) ∙ front_length ∙ sym whole_length;
    outside = outside;
  }
    where
      part : length (drop 2 header) ≡ 30
      part = length-drop 2 header ∙ omega (arith, long)

      front_length : length front ≡ 32 + length tail
      front_length = ap length first ∙ length_written l (drop 2 header) 2 (omega (arith, part, size_is)) ∙ size_is

      given : (place : ℕ) → 2 ≤ place → place < 32 → get_or front place 0 ≡ get_or header place 0
      given place far less =
          ap (λ (xs : List ℕ). get_or xs place 0) first
          ∙ at_written l (drop 2 header) 2 place (omega (arith, part, size_is)) far (omega (arith, part, less))
          ∙ get_or-drop 2 header (place - 2) 0
          ∙ ap (λ (i : ℕ). get_or header i 0) (omega (arith, far))

      behind : (place : ℕ) → 32 ≤ place → get_or (written front 32 tail) place 0 ≡ get_or (header ++ tail) place 0
      behind place past = elim (cases_lt place (32 + length tail)) [
        | inl less ↦
            at_written front tail 32 place (omega (arith, front_length)) past less
            ∙ sym (get_or-append_right header tail 32 place 0 long past)
        | inr over ↦
            get_or_past (written front 32 tail) place 0
            (omega (arith, over, front_length, length_written front tail 32 (omega (arith, front_length))))
            ∙ sym (get_or_past (header ++ tail) place 0 (omega (arith, over, whole_length)))
      ]

      outside : (place : ℕ) → (place < 0) ⊎ (0 + 2 ≤ place) → get_or last place 0 ≡ get_or (header ++ tail) place 0
      outside place (inl less) = absurd (omega (arith, less))
      outside place (inr far) = ap (λ (xs : List ℕ). get_or xs place 0) second ∙ elim (cases_lt place 32) [
        | inl less ↦
            before_written front tail 32 place (omega (arith, front_length)) less
            ∙ given place far less ∙ sym (in_front place less)
        | inr past ↦ behind place past
      ]

-- so many records behind a header, and zeros
module _ (kind identity : ℕ) (front_long : length (header_of kind identity) ≡ 32) (records : List ℕ) (count size : ℕ)
    (many : length records ≡ 32 * count) (room : 32 * (1 + count) ≤ size) where
  abbrev zeros : List ℕ
  zeros = replicate (size - 32 - length records) 0

  pub header_first : record_at 0 (file_bytes kind identity records size) ≡ header_of kind identity
  header_first =
      ap (λ (n : ℕ). take n (file_bytes kind identity records size)) (sym front_long)
      ∙ take-append_seam (header_of kind identity) (records ++ zeros)

  pub record_in : (place : ℕ) → place < count → record_at (1 + place) (file_bytes kind identity records size) ≡ record_at place records
  record_in place less =
      record_behind 1 place (header_of kind identity) (records ++ zeros) front_long
      ∙ record_in_front place records zeros (omega (arith, less, many))

  pub zeros_behind : drop (32 * (1 + count)) (file_bytes kind identity records size) ≡ replicate (size - 32 * (1 + count)) 0
  zeros_behind =
      let there : 32 * (1 + count) ≡ 32 + 32 * count = omega arith in
      let left : size - 32 - length records ≡ size - 32 * (1 + count) = omega (arith, many) in
      ap (λ (n : ℕ). drop n (file_bytes kind identity records size)) there
      ∙ drop_behind 32 (32 * count) (header_of kind identity) (records ++ zeros) front_long
      ∙ ap (λ (n : ℕ). drop n (records ++ zeros)) (sym many)
      ∙ drop-append_seam records zeros
      ∙ ap (λ (n : ℕ). replicate n 0) left

  -- and they are written in turn
  pub rest_of_file : (l front mid last : List ℕ) → length l ≡ size → front ≡ written l 2 (drop 2 (header_of kind identity))
      → mid ≡ written front 32 records → last ≡ written mid (32 * (1 + count)) (replicate (size - 32 * (1 + count)) 0)
      → HasRestOf (file_bytes kind identity records size) last
  rest_of_file l front mid last size_is first second third =
      let left : size - 32 * (1 + count) ≡ size - 32 - length records = omega (arith, many) in
      let part : length (drop 2 (header_of kind identity)) ≡ 30 = length-drop 2 (header_of kind identity) ∙ omega (arith, front_long) in
      let front_length : length front ≡ size =
      ap length first ∙ length_written l (drop 2 (header_of kind identity)) 2 (omega (arith, part, size_is, room)) ∙ size_is in
      let zeros_long : length zeros ≡ size - 32 - length records = length-replicate {A = ℕ} (size - 32 - length records) 0 in
      let tail_long : length l ≡ 32 + length (records ++ zeros) =
      size_is ∙ omega (arith, length-append records zeros, zeros_long, many, room) in
      rest_of_whole kind identity front_long (records ++ zeros) l front last tail_long first
      (third
      ∙ ap (λ (n : ℕ). written mid (32 * (1 + count)) (replicate n 0)) left
      ∙ ap (λ (xs : List ℕ). written xs (32 * (1 + count)) zeros) second
      ∙ written_behind front records zeros 32 (32 * (1 + count)) (omega (arith, many)) (omega (arith, zeros_long, front_length, many, room)))
