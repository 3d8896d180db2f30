-- What holds of entries that a restart takes one after the other, and of the map that is made of them.
use Rattle.std.proofs.Common.{◌≡◌, ◌-◌, ◌+◌, ◌<◌, ◌≤◌, ◌++◌, ◌∷◌, ◌∙◌, [], ℕ, List, Contains, length, drop, take, get_or, eqb, inl, inr, refl, sym, ap, subst, arith, length-append}
use Rattle.std.proofs.lemmas.List.{get_or-drop, get_or-take, get_or_default, length-drop, length-take-le, take_more}
use Rattle.std.proofs.lemmas.List.Quantifiers.{all_pairs_push}
use Rattle.indexmap.specs.IndexMap.{IndexMap, IsUnique, spare}
use Rattle.duk_host.specs.Used.{IsUsed}
use Rattle.duk_journal.specs.Groups.{Entries}
use Rattle.duk_journal.specs.declared.entry.Entry.{Entry}
use Rattle.duk_store.specs.Log.{Numbers}
use Rattle.duk_journal_host.specs.Latest.{most_latest}
use Rattle.duk_journal_host.specs.declared.latest.Kept.{Kept}
use Rattle.duk_journal_host.specs.inner.Gathered.{HaveOwnNumbers, IsGathered}
use Rattle.duk_journal_host.specs.inner.Index.{IsListed, IsWider}
use Rattle.duk_journal_host.specs.inner.Latest.{HasNoNumber, with_latest}
use Rattle.duk_journal_host.proofs.Indexed.{none_listed}
use Rattle.duk_journal_host.proofs.Members.{contains_at, end_or, none_in}
use Rattle.duk_journal_host.proofs.OneNumber.{latest_kept}
use Rattle.duk_journal_host.proofs.Ring.{push_nothing_gone}

-- ---- numbers of their own

abbrev Differ : Entry → Entry → Type 0
Differ earlier later = ¬ (earlier.number ≡ later.number)

own_dropped : (count : ℕ) (entries : Entries) → HaveOwnNumbers entries → HaveOwnNumbers (drop count entries)
own_dropped count entries own i j d before within =
    subst (λ earlier. Differ earlier (get_or (drop count entries) j d)) (sym (get_or-drop count entries i d))
    (subst (λ later. Differ (get_or entries (count + i) d) later) (sym (get_or-drop count entries j d))
    (own (count + i) (count + j) d (omega (arith, before)) (omega (arith, within, length-drop count entries))))

own_more : (entries : Entries) (entry : Entry) → HaveOwnNumbers entries → HasNoNumber entries entry.number → HaveOwnNumbers (entries ++ entry ∷ [])
own_more entries entry own new =
    all_pairs_push Differ entries entry own (λ k d within. new (get_or entries k d) (contains_at entries k d (get_or entries k d) within refl))

-- none before an entry has its number
pub none_before : (entries : Entries) (count : ℕ) (entry : Entry) → HaveOwnNumbers entries → count < length entries → entry ≡ get_or entries count entry → HasNoNumber (take count entries) entry.number
none_before entries count entry own within is = λ earlier contains.
    let place = contains.0 in
    let below : place < count = omega (arith, contains.1, length-take-le count entries (omega (arith, within))) in
    let first : get_or entries place earlier ≡ earlier = sym (get_or-take count entries place earlier below) ∙ contains.2 in
    let differ = own place count entry below within in
    subst (λ earlier. Differ earlier entry) (get_or_default entries place entry earlier (omega (arith, below, within)) ∙ first) (subst (λ later. Differ (get_or entries place entry) later) (sym is) differ)

-- ---- entries that are taken

-- none is yet
pub none_gathered : {S : Type 0} (used : Numbers) (map : IndexMap ℕ Kept S) (latest : Entries) → used ≡ [] → map.entries ≡ [] → IsUnique eqb map → latest ≡ [] → IsGathered used map latest
none_gathered used map latest unused empty unique none = record {
  listed = subst IsListed (sym unused) none_listed;
  unique = unique;
  empty = empty;
  room = omega (arith, ap length none);
  most = omega (arith, ap length none);
  own = λ i j d before within. absurd (omega (arith, within, ap length none));
  are_used = λ entry contains. absurd (none_in entry (subst (λ entries. Contains entries entry) none contains));
}

-- more numbers are used, and another map has room for the same entries
pub still_gathered :
    {S : Type 0} (used more : Numbers) (map other : IndexMap ℕ Kept S) (latest same : Entries) → IsGathered used map latest → IsWider used more → other.entries ≡ map.entries → IsUnique eqb other → length latest ≤ spare other
    → same ≡ latest → IsGathered more other same
still_gathered {S} used more map other latest same is wider entries unique room same_is = subst (λ latest. IsGathered more other latest) (sym same_is) (record {
  listed = wider.listed is.listed;
  unique = unique;
  empty = entries ∙ is.empty;
  room = room;
  most = is.most;
  own = is.own;
  are_used = λ entry contains. wider.kept entry.number (is.are_used entry contains);
})

-- one more is taken
pub gathered_more :
    {S : Type 0} (used more : Numbers) (map other : IndexMap ℕ Kept S) (latest last : Entries) (entry : Entry) → IsGathered used map latest → IsWider used more → IsUsed more entry.number → ¬ IsUsed used entry.number
    → other.entries ≡ map.entries → IsUnique eqb other → length latest + 1 ≤ spare other → last ≡ with_latest latest entry → IsGathered more other last
gathered_more {S} used more map other latest last entry is wider now_used fresh entries unique room last_is =
    let all = latest ++ entry ∷ [] in
    let gone = length all - most_latest in
    let none : HasNoNumber latest entry.number = λ earlier contains same. fresh (subst (λ number. IsUsed used number) same (is.are_used earlier contains)) in
    subst (λ latest. IsGathered more other latest) (sym last_is) (record {
      listed = wider.listed is.listed;
      unique = unique;
      empty = entries ∙ is.empty;
      room = omega (arith, room, length-drop gone all, length-append latest (entry ∷ []));
      most = omega (arith, length-drop gone all);
      own = own_dropped gone all (own_more latest entry is.own none);
      are_used = λ one contains. elim (end_or latest entry one (latest_kept all one contains)) [
        | inl before ↦ wider.kept one.number (is.are_used one before)
        | inr new ↦ subst (λ number. IsUsed more number) (ap (λ (entry : Entry). entry.number) (sym new)) now_used
      ];
    })

-- ---- entries that are put into a map

-- the first of them, and the next one
pub next_of : (entries : Entries) (count : ℕ) (entry : Entry) → count < length entries → length entries ≤ most_latest → entry ≡ get_or entries count entry → with_latest (take count entries) entry ≡ take (count + 1) entries
next_of entries count entry within few is =
    sym (push_nothing_gone (take count entries) entry (omega (arith, within, few, length-take-le count entries (omega (arith, within)))))
    ∙ ap (λ entry. take count entries ++ entry ∷ []) is ∙ sym (take_more entries count entry within)
