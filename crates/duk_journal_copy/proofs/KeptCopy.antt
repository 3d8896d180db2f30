-- A disk with the records that another keeps, copied one by one, keeps the same entries.
use Rattle.std.proofs.Common.{◌≡◌, ◌∙◌, ◌↔◌, ◌+◌, ◌*◌, ◌-◌, ◌<◌, ◌^◌, ℕ, zero, suc, List, [], ◌∷◌, ap, arith, drop, get_or, length, replicate, subst, sym}
use Rattle.std.proofs.lemmas.List.{get_or-drop}
use Rattle.duk_journal_copy.specs.Copy.{IsRecordCopied}
use Rattle.duk_journal_copy.specs.Version.{KeepsIn, format_of}
use Rattle.duk_journal_copy.specs.declared.version.Version.{Version}
use Rattle.duk_journal_copy.specs.declared.version.Version.TheVariants.{One, Two}
use Rattle.duk_journal.specs.CheckedFormat.{checked_format}
use Rattle.duk_journal.specs.Groups.{Entries, KeepsChecked}
use Rattle.duk_journal.specs.Header.{header_of, identity_of, journal_kind}
use Rattle.duk_journal.specs.RecordFormat.{IsOpen, gate_of, record_at}
use Rattle.duk_journal.specs.declared.entry.Entry.{Entry}
use Rattle.duk_store.specs.Format.{FormatMeaning, IsFormat}
use Rattle.duk_store.specs.Records as records
use Rattle.duk_journal_copy.proofs.Begun.{gate_at}
use Rattle.duk_journal_copy.proofs.WrittenLists.{zero_of_zeros}

-- a record of either format, and the same in version 2
record IsSameRecord (format : FormatMeaning Entry) (identity place : ℕ) (old new : List ℕ) : Type 0 where
  followers : ℕ
  entry : Entry
  was : records.HasContents format (records.identity_in format old) (format.headers + place) followers entry
      (records.record_at format.record_length (format.headers + place) old)
  is : records.HasContents checked_format identity (1 + place) followers entry (record_at (1 + place) new)
  gate : IsOpen (record_at (1 + place) new) ↔ IsOpen (records.record_at format.record_length (format.headers + place) old)

same_in : (version : Version) (identity place : ℕ) (old new : List ℕ) → IsRecordCopied version identity place old new
    → IsSameRecord (format_of version) identity place old new
same_in One identity place old new copied =
    record { followers = copied.followers; entry = copied.entry; was = copied.was; is = copied.is; gate = copied.gate }
same_in Two identity place old new copied =
    record { followers = copied.followers; entry = copied.entry; was = copied.was; is = copied.is; gate = copied.gate }

module _ (format : FormatMeaning Entry) (is_format : IsFormat format) (identity count : ℕ) (old new : List ℕ)
    (own : records.identity_in checked_format new ≡ identity)
    (same : (place : ℕ) → place < count → IsSameRecord format identity place old new)
    (closed : records.AreClosedFrom 32 (1 + count) new) where
  abbrev old_record : ℕ → List ℕ
  old_record spot = records.record_at format.record_length spot old

  abbrev Stands : ℕ → ℕ → Entry → Type 0
  Stands at followers entry = records.HasContents checked_format (records.identity_in checked_format new) at followers entry (record_at at new)

  -- the entry of the old record stands in the new one
  said : (spot place followers : ℕ) (entry : Entry) → spot ≡ format.headers + place → place < count
      → records.HasContents format (records.identity_in format old) spot followers entry (old_record spot)
      → Stands (1 + place) followers entry
  said spot place followers entry there less has =
      let it : IsSameRecord format identity place old new = same place less in
      let here : records.HasContents format (records.identity_in format old) (format.headers + place) followers entry (old_record (format.headers + place)) =
      subst (λ (n : ℕ). records.HasContents format (records.identity_in format old) n followers entry (old_record n)) there has in
      let one : (it.followers ≡ followers) × (it.entry ≡ entry) =
      is_format.one_reading (records.identity_in format old) (format.headers + place) it.followers followers it.entry entry
      (records.after_gate (old_record (format.headers + place))) it.was here in
      subst (λ (n : ℕ). records.HasContents checked_format n (1 + place) followers entry (record_at (1 + place) new)) (sym own)
      (subst (λ (f : ℕ). records.HasContents checked_format identity (1 + place) f entry (record_at (1 + place) new)) one.0
      (subst (λ (e : Entry). records.HasContents checked_format identity (1 + place) it.followers e (record_at (1 + place) new)) one.1 it.is))

  kept_from : (items : Entries) (left spot place : ℕ) → spot ≡ format.headers + place → place + length items ≡ count
      → records.AreKeptFrom format items left spot old → (at : ℕ) → at ≡ 1 + place → records.AreKeptFrom checked_format items left at new
  kept_from [] zero spot place there ends kept at here = λ later past. closed later (omega (arith, past, ends, here))
  kept_from [] (suc left) spot place there ends kept at here = kept
  kept_from (entry ∷ later) zero spot place there ends kept at here =
      let less : place < count = omega (arith, ends) in
      let opened : IsOpen (record_at (1 + place) new) =
      (same place less).gate.1 (subst (λ (n : ℕ). IsOpen (old_record n)) there kept.1) in (
        kept.0,
        subst (λ (n : ℕ). IsOpen (record_at n new)) (sym here) opened,
        subst (λ (n : ℕ). Stands n kept.0 entry) (sym here) (said spot place kept.0 entry there less kept.2),
        kept_from later kept.0 (spot + 1) (place + 1) (omega (arith, there)) (omega (arith, ends)) kept.3 (at + 1) (omega (arith, here)),
      )
  kept_from (entry ∷ later) (suc left) spot place there ends kept at here =
      let less : place < count = omega (arith, ends) in (
        λ opened. kept.0 (subst (λ (n : ℕ). IsOpen (old_record n)) (sym there)
            ((same place less).gate.0 (subst (λ (n : ℕ). IsOpen (record_at n new)) here opened))),
        subst (λ (n : ℕ). Stands n 0 entry) (sym here) (said spot place 0 entry there less kept.1),
        kept_from later left (spot + 1) (place + 1) (omega (arith, there)) (omega (arith, ends)) kept.2 (at + 1) (omega (arith, here)),
      )

-- records of zeros are closed
pub closed_zeros : (place size : ℕ) (bytes : List ℕ) → drop (32 * place) bytes ≡ replicate size 0 → records.AreClosedFrom 32 place bytes
closed_zeros place size bytes zeros = λ later past open_now.
    let far : ℕ = 32 * later - 32 * place in
    let gate : gate_of (record_at later bytes) ≡ 0 =
    gate_at later bytes
    ∙ ap (λ (i : ℕ). get_or bytes i 0) (omega (arith, past))
    ∙ sym (get_or-drop (32 * place) bytes far 0)
    ∙ ap (λ (xs : List ℕ). get_or xs far 0) zeros
    ∙ zero_of_zeros size far in
    omega (arith, gate, open_now)

pub kept_copy : (version : Version) → IsFormat (format_of version) → (identity count size : ℕ) (old new : List ℕ) → identity < 2 ^ 64
    → identity_of (header_of journal_kind identity) ≡ identity
    → record_at 0 new ≡ header_of journal_kind identity
    → ((place : ℕ) → place < count → IsRecordCopied version identity place old new)
    → drop (32 * (1 + count)) new ≡ replicate size 0
    → (entries : Entries) → KeepsIn version old entries → length entries ≡ count → KeepsChecked new entries
kept_copy version is_format identity count size old new fits back header each behind entries keeps many =
    let own : records.identity_in checked_format new ≡ identity = ap identity_of header ∙ back in
    record {
      header = λ has. (identity, fits, header);
      listed = kept_from (format_of version) is_format identity count old new own
          (λ place less. same_in version identity place old new (each place less))
          (closed_zeros (1 + count) size new behind) entries 0 (format_of version).headers 0 (omega arith) (omega (arith, many)) keeps.listed 1 (omega arith);
    }
