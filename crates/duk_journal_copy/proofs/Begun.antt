-- A disk that is written with a header, and zeros behind it.
use Rattle.std.proofs.Common.{◌≡◌, ◌∙◌, ◌*◌, ◌-◌, ◌<◌, ◌≤◌, ◌^◌, ◌++◌, ℕ, List, [], ap, arith, drop, get_or, length, refl, replicate, subst, sym, take}
use Rattle.std.proofs.lemmas.List.{get_or-append_right, get_or-drop, get_or-take, length-replicate}
use Rattle.std.proofs.Math.Seq.{take-append_seam}
use Rattle.duk_journal_copy.specs.Blank.{IsFileBegun, IsJournalBegun, begun_bytes}
use Rattle.duk_journal_copy.specs.inner.Head.{HasRestOf}
use Rattle.duk_journal.specs.Groups.{KeepsChecked}
use Rattle.duk_journal.specs.Header.{header_of, journal_kind}
use Rattle.duk_journal.specs.RecordFormat.{IsOpen, gate_of, record_at}
use Rattle.duk_store.specs.Disk.{DiskState, written}
use Rattle.duk_journal_copy.proofs.WholeBytes.{in_front, rest_of_whole}
use Rattle.duk_journal_copy.proofs.WrittenLists.{zero_of_zeros}

-- the gate of a record
pub gate_at : (place : ℕ) (x : List ℕ) → gate_of (record_at place x) ≡ get_or x (32 * place) 0
gate_at place x =
    get_or-take 32 (drop (32 * place) x) 0 0 (omega arith) ∙ get_or-drop (32 * place) x 0 0
    ∙ ap (λ (i : ℕ). get_or x i 0) (omega arith)

module _ (kind identity : ℕ) (long : length (header_of kind identity) ≡ 32) (size : ℕ) (room : 32 ≤ size) where
  abbrev header : List ℕ
  header = header_of kind identity

  abbrev zeros : List ℕ
  zeros = replicate (size - 32) 0

  abbrev whole : List ℕ
  whole = begun_bytes kind identity size

  pub begun_in_front : (k : ℕ) → k < 32 → get_or whole k 0 ≡ get_or header k 0
  begun_in_front k less = in_front kind identity long zeros k less

  -- the rest of it is written: the header from its third byte on, and zeros
  pub rest_of_begun : (l front last : List ℕ) → length l ≡ size → front ≡ written l 2 (drop 2 header) → last ≡ written front 32 zeros
      → HasRestOf whole last
  rest_of_begun l front last size_is first second =
      rest_of_whole kind identity long zeros l front last (size_is ∙ omega (arith, room, length-replicate {A = ℕ} (size - 32) 0)) first second

  -- it keeps nothing
  pub header_first : record_at 0 whole ≡ header
  header_first = ap (λ (m : ℕ). take m whole) (sym long) ∙ take-append_seam header zeros

  pub begun_closed : (later : ℕ) → 1 ≤ later → ¬ IsOpen (record_at later whole)
  begun_closed later past open_now =
      let zero_gate : gate_of (record_at later whole) ≡ 0 =
      gate_at later whole ∙ get_or-append_right header zeros 32 (32 * later) 0 long (omega (arith, past)) ∙ zero_of_zeros (size - 32) (32 * later - 32) in
      omega (arith, zero_gate, open_now)

pub begun_keeps : (identity size : ℕ) → length (header_of journal_kind identity) ≡ 32 → 32 ≤ size → identity < 2 ^ 64
    → KeepsChecked (begun_bytes journal_kind identity size) []
begun_keeps identity size long room fits = record {
  header = λ has. (identity, fits, header_first journal_kind identity long size room);
  listed = λ later past. begun_closed journal_kind identity long size room later (omega (arith, past));
}

-- a disk that is begun so is that of a new journal
pub journal_begun : (identity : ℕ) (old new : DiskState) → length (header_of journal_kind identity) ≡ 32 → identity < 2 ^ 64 → 32 ≤ old.size → IsFileBegun journal_kind identity old new → IsJournalBegun identity old new
journal_begun identity old new long fits room begun =
    let nature = begun.nature in
    let reads = begun.reads in
    let leaves = begun.leaves in
    let header : List ℕ = header_of journal_kind identity in
    let sizes : new.size - length header ≡ old.size - 32 = omega (arith, long, nature.size) in
    let is : old.honest → new.reads ≡ header ++ replicate (new.size - length header) 0 =
    (λ h. reads h ∙ ap (λ (n : ℕ). header ++ replicate n 0) (sym sizes)) in
    record {
      nature = nature;
      no_failure = begun.no_failure;
      fresh = λ h size. record {
        identity_fits = fits;
        fresh = record {
          size = (size.0, size.1, nature.size ∙ size.2);
          header_is = record { whole = long ∙ omega arith; header_is = λ has. (identity, fits, refl) };
          fresh = λ bytes. (λ left. (leaves h bytes).0 left ∙ is h, λ same. (leaves h bytes).1 (same ∙ sym (is h)));
        };
      };
      sound = λ h size. record {
        size = (size.0, size.1, nature.size ∙ size.2);
        each_keeps = λ bytes left. ([], subst (λ (l : List ℕ). KeepsChecked l []) (sym ((leaves h bytes).0 left ∙ reads h)) (begun_keeps identity old.size long room fits));
      };
    }
