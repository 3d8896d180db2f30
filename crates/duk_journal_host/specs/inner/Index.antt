-- What holds of the index of a host over a journal: this project's own.
use Rattle.std.specs.Prelude.{◌≡◌, ◌↔◌, ◌⊎◌, ◌∷◌, ◌++◌, [], ℕ, Contains, length, nat_eq}
use Rattle.indexmap.specs.IndexMap.{IndexMap, IsUnique}
use Rattle.duk_frame.specs.declared.code.Code.{Code}
use Rattle.duk_frame.specs.declared.code.Code.TheVariants.{Approved}
use Rattle.duk_host.specs.Used.{IsOneMore, IsUsed, Lists}
use Rattle.duk_journal.specs.Entry.{reversed_by}
use Rattle.duk_journal.specs.Groups.{Entries}
use Rattle.duk_journal.specs.declared.entry.Decided.{Decided}
use Rattle.duk_journal.specs.declared.entry.Decided.TheVariants.{Payment, Reversal}
use Rattle.duk_journal.specs.declared.entry.Entry.{Entry}
use Rattle.duk_store.specs.Log.{Numbers}
use Rattle.duk_tree.specs.Serial.{Serial}
use Rattle.duk_journal_host.specs.Host.{HasSets, IndexOf}
use Rattle.duk_journal_host.specs.declared.latest.Kept.{Kept}
use Rattle.duk_journal_host.specs.declared.sets.NumberSets.{NumberSets}
use Rattle.duk_journal_host.specs.inner.Latest.{IsRing, entries_in}

-- the used numbers are those of a list of different usable numbers
abbrev pub IsListed : Numbers → Type 0
IsListed used = (numbers : Numbers) × Lists numbers used

-- the used numbers are those of a list, and the entries are a ring of different numbers, each of
-- them used
pub record IsIndexed {S : Type 0} (used : Numbers) (map : IndexMap ℕ Kept S) (oldest : ℕ) : Type 0 where
  pub listed : IsListed used
  pub unique : IsUnique nat_eq map
  pub ring : IsRing oldest (length map.entries)
  pub are_used : (entry : Entry) → Contains (entries_in oldest map.entries) entry
      → IsUsed used entry.number

-- no used number is lost, and they stay those of a list
pub record IsWider (old new : Numbers) : Type 0 where
  pub listed : IsListed old → IsListed new
  pub kept : (ksn : Serial) → IsUsed old ksn → IsUsed new ksn

-- an entry is taken into the sets: of whatever entries they were, they are those of these and it
abbrev pub TakesNumbers : IndexOf → IndexOf → Entry → Type 0
TakesNumbers old new entry =
    (entries : Entries) → HasSets entries old → HasSets (entries ++ entry ∷ []) new

-- the old numbers, and one more where this holds
abbrev pub IsOneMoreWhere : Type 0 → Numbers → Serial → Numbers → Type 0
IsOneMoreWhere holds old ksn new =
    (other : Serial) → IsUsed new other ↔ (IsUsed old other ⊎ ((other ≡ ksn) × holds))

-- an index with these sets
abbrev pub index_with : NumberSets → Entries → IndexOf
index_with sets latest = record {
  used = sets.used;
  others = sets.others;
  reversed = sets.reversed;
  latest = latest;
}

-- an entry is taken into the sets as they lie in memory, whatever the latest entries are
abbrev pub TakesSets : NumberSets → NumberSets → Entry → Type 0
TakesSets old new entry =
    (latest more : Entries) → TakesNumbers (index_with old latest) (index_with new more) entry

-- a payment of a number is noted: no approved one is kept under it where it was declined
pub record IsPaymentNoted (old new : NumberSets) (number : Serial) (code : Code) : Type 0 where
  pub used : new.used ≡ old.used
  pub others : IsOneMoreWhere (¬ (code ≡ Approved)) old.others number new.others
  pub reversed : new.reversed ≡ old.reversed

-- a reversal under one number is noted, of another. No approved payment is kept under its own, nor
-- under the other where that was not used
pub record IsReversalNoted (old new : NumberSets) (number reversed : Serial) : Type 0 where
  pub used : IsOneMore old.used reversed new.used
  pub others : (ksn : Serial) → IsUsed new.others ksn
      ↔ ((IsUsed old.others ksn ⊎ (ksn ≡ number)) ⊎ ((ksn ≡ reversed) × ¬ IsUsed old.used reversed))
  pub reversed_are : IsOneMore old.reversed reversed new.reversed

-- what was decided under a number is noted
abbrev pub IsNoted : NumberSets → NumberSets → Serial → Decided → Type 0
IsNoted old new number (Payment amount code) = IsPaymentNoted old new number code
IsNoted old new number (Reversal counter state) =
    IsReversalNoted old new number (reversed_by number counter)
