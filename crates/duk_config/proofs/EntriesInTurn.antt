-- Entries, and one more after them.
use Rattle.std.proofs.Common.{◌≡◌, ℕ, zero, suc, ◌+◌, ◌<◌, List, [], ◌∷◌, ◌++◌, length, map, take, drop, get_or, ap, sym, ◌∙◌, arith}
use Rattle.std.specs.List.{AllZip}
use Rattle.std.proofs.lemmas.List.{length-map, length-take-le, map-append, take_more}
use Rattle.std.proofs.lemmas.List.Quantifiers.{all_pairs_push}
use Rattle.toml.specs.Data.{Data}
use Rattle.toml.specs.View.{view}
use Rattle.toml.specs.declared.value.Value.{Value}
use Rattle.duk_config.specs.Entries.{AreEntries, IsBadAfter, IsFirstBadEntry}
use Rattle.duk_config.specs.inner.Entries.{IsNextEntry}

-- one more pair after the others
zip_push : {A B : Type 0} (R : A → B → Type 0) (xs : List A) (ys : List B) (x : A) (y : B) → AllZip R xs ys → R x y → AllZip R (xs ++ x ∷ []) (ys ++ y ∷ [])
zip_push R [] [] x y zipped pair = (pair, tt)
zip_push R [] (b ∷ ys) x y zipped pair = absurd zipped
zip_push R (a ∷ xs) [] x y zipped pair = absurd zipped
zip_push R (a ∷ xs) (b ∷ ys) x y zipped pair = (zipped.0, zip_push R xs ys x y zipped.1 pair)

-- the entries of one value more
entries_push : {Entry : Type 0} (States : Data → Entry → Type 0) (Repeats : Entry → Entry → Type 0) (values : List Data) (entries : List Entry) (value : Data) (entry : Entry)
    → AreEntries States Repeats values entries → IsNextEntry States Repeats entries value entry
    → AreEntries States Repeats (values ++ value ∷ []) (entries ++ entry ∷ [])
entries_push States Repeats values entries value entry are next = record {
  each = zip_push States values entries value entry are.each next.stated;
  distinct = all_pairs_push (λ a b. ¬ Repeats a b) entries entry are.distinct next.new;
}

-- what was seen of the first values, and of one more
viewed_more : (values : List Value) (i : ℕ) (value : Value) → i < length values → value ≡ get_or values i value
    → map view (take (i + 1) values) ≡ map view (take i values) ++ view value ∷ []
viewed_more values i value within at =
    ap (map view) (take_more values i value within) ∙ (map-append view (take i values) (get_or values i value ∷ []) ∙ ap (λ v. map view (take i values) ++ view v ∷ []) (sym at))

-- the entries of the first values, and of one more
pub entries_more : {Entry : Type 0} (States : Data → Entry → Type 0) (Repeats : Entry → Entry → Type 0) (values : List Value) (entries : List Entry) (i : ℕ) (value : Value) (entry : Entry)
    → i < length values → value ≡ get_or values i value
    → AreEntries States Repeats (map view (take i values)) entries → IsNextEntry States Repeats entries (view value) entry
    → AreEntries States Repeats (map view (take (i + 1) values)) (entries ++ entry ∷ [])
entries_more States Repeats values entries i value entry within at are next =
    rw (viewed_more values i value within at) (entries_push States Repeats (map view (take i values)) entries (view value) entry are next)

-- the values before a place, the value there, and those after it
parted : (values : List Value) (i : ℕ) (value : Value) → i < length values → value ≡ get_or values i value
    → map view values ≡ map view (take i values) ++ view value ∷ map view (drop (suc i) values)
parted [] i value within at = absurd (omega arith)
parted (v ∷ values) zero value within at = ap (λ x. view x ∷ map view values) (sym at)
parted (v ∷ values) (suc i) value within at = ap (λ rest. view v ∷ rest) (parted values i value (omega arith) at)

-- the first value that is bad after the entries of those before it
pub first_bad : {Entry : Type 0} (States : Data → Entry → Type 0) (Repeats : Entry → Entry → Type 0) (values : List Value) (earlier : List Entry) (i : ℕ) (value : Value)
    → i < length values → value ≡ get_or values i value
    → AreEntries States Repeats (map view (take i values)) earlier → IsBadAfter States Repeats earlier (view value)
    → IsFirstBadEntry States Repeats (map view values) (i + 1)
first_bad States Repeats values earlier i value within at are bad = record {
  before = map view (take i values);
  item = view value;
  after = map view (drop (suc i) values);
  items_are = parted values i value within at;
  place_is = ap (λ n. n + 1) (sym (length-map (take i values) view ∙ length-take-le i values (omega arith)));
  earlier_right = (earlier, are);
  wrong = (earlier, are, bad);
}
