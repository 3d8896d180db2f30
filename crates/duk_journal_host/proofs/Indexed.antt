-- What holds of an index, and one entry more.
use Rattle.std.proofs.Common.{◌≡◌, ◌++◌, ◌∷◌, [], ℕ, Contains, eqb, length, inl, inr, sym, ap, subst, arith}
use Rattle.indexmap.specs.IndexMap.{IndexMap, IsUnique}
use Rattle.std.proofs.lemmas.List.Elements.{All-nil}
use Rattle.duk_host.specs.Used.{IsUsed}
use Rattle.duk_journal.specs.declared.entry.Entry.{Entry}
use Rattle.duk_store.specs.Log.{Numbers}
use Rattle.duk_tree.specs.Path.{IsUsable}
use Rattle.duk_tree.specs.Serial.{Serial}
use Rattle.duk_journal_host.specs.declared.latest.Kept.{Kept}
use Rattle.duk_journal_host.specs.inner.Index.{IsIndexed, IsListed, IsWider}
use Rattle.duk_journal_host.specs.inner.Latest.{HasNoNumber, IsRing, entries_in, with_latest}
use Rattle.duk_journal_host.proofs.Members.{end_or}
use Rattle.duk_journal_host.proofs.OneNumber.{latest_kept}

-- no number is used
pub none_listed : IsListed []
none_listed = (
  [],
  record {
    usable = record { usable = All-nil (λ (ksn : Serial). IsUsable ksn.counter); once = λ i j d before within. absurd (omega (arith, within)) };
    members = λ ksn. (λ contains. contains, λ is_used. is_used);
  },
)

-- more numbers are used
pub wider_index : {S : Type 0} (used more : Numbers) (map : IndexMap ℕ Kept S) (oldest : ℕ) → IsIndexed used map oldest → IsWider used more → IsIndexed more map oldest
wider_index used more map oldest is wider = record {
  listed = wider.listed is.listed;
  unique = is.unique;
  ring = is.ring;
  are_used = λ entry contains. wider.kept entry.number (is.are_used entry contains);
}

-- the same entries in another map
pub same_places : {S : Type 0} (used : Numbers) (map other : IndexMap ℕ Kept S) (oldest : ℕ) → IsIndexed used map oldest → other.entries ≡ map.entries → IsUnique eqb other → IsIndexed used other oldest
same_places used map other oldest is same unique = record {
  listed = is.listed;
  unique = unique;
  ring = subst (λ places. IsRing oldest (length places)) (sym same) is.ring;
  are_used = λ entry contains. is.are_used entry (subst (λ places. Contains (entries_in oldest places) entry) same contains);
}

-- a number that is not used is none of an entry's
pub no_number : {S : Type 0} (used : Numbers) (map : IndexMap ℕ Kept S) (oldest : ℕ) (ksn : Serial) → IsIndexed used map oldest → ¬ IsUsed used ksn → HasNoNumber (entries_in oldest map.entries) ksn
no_number used map oldest ksn is fresh = λ entry contains same. fresh (subst (λ number. IsUsed used number) same (is.are_used entry contains))

-- one more entry, whose number is used then
pub indexed_more :
    {S : Type 0} (used more : Numbers) (map other : IndexMap ℕ Kept S) (oldest next : ℕ) (entry : Entry) → IsIndexed used map oldest → IsWider used more → IsUsed more entry.number
    → IsUnique eqb other → IsRing next (length other.entries) → entries_in next other.entries ≡ with_latest (entries_in oldest map.entries) entry → IsIndexed more other next
indexed_more used more map other oldest next entry is wider now_used unique ring last = record {
  listed = wider.listed is.listed;
  unique = unique;
  ring = ring;
  are_used = λ one contains.
      let old = entries_in oldest map.entries in
      let kept = latest_kept (old ++ entry ∷ []) one (subst (λ entries. Contains entries one) last contains) in
      elim (end_or old entry one kept) [
        | inl before ↦ wider.kept one.number (is.are_used one before)
        | inr new ↦ subst (λ number. IsUsed more number) (ap (λ (entry : Entry). entry.number) (sym new)) now_used
      ];
}
