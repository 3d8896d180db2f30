-- What bytes keep where zeros stand behind them.
use Rattle.std.proofs.Common.{◌≡◌, ℕ, zero, suc, ◌+◌, ◌-◌, ◌*◌, ◌≤◌, List, [], ◌∷◌, ◌++◌, inl, inr, length, take, drop, replicate, get_or, refl, sym, ◌∙◌, ap, subst, arith, length-drop}
use Rattle.std.proofs.lemmas.Bool.{cases_lt}
use Rattle.std.proofs.lemmas.Grind.{same_number_lists}
use Rattle.std.proofs.lemmas.List.{drop-append-le, get_or-append_right, get_or-drop, get_or-replicate, get_or-take, get_or_append_left, get_or_past, length-replicate, length-take, take-append-le}
use Rattle.duk_store.specs.Format.{FormatMeaning, IsFormat}
use Rattle.duk_store.specs.Grown.{SaysNoZeros}
use Rattle.duk_store.specs.Records.{AreKeptFrom, HasContents, KeepsItems, after_gate, gate_of, identity_in, record_at}
use Rattle.duk_store.proofs.Identity.{identity_behind}
use Rattle.duk_store.proofs.Places.{ends as next_inside, no_later}
use Rattle.duk_store.proofs.WrittenBytes.{gate_is}

zero_at : (count i : ℕ) → ◌≡◌ {A = ℕ} (get_or (replicate count 0) i 0) 0
zero_at count i = elim (cases_lt i count) [
  | inl inside ↦ get_or-replicate count i 0 0 inside
  | inr past ↦ get_or_past (replicate count 0) i 0 (omega (arith, past, length-replicate {A = ℕ} count 0))
]

module _ {I : Type 0} (format : FormatMeaning I) (laws : IsFormat format) (bytes : List ℕ) (count : ℕ) where
  abbrev long : ℕ
  long = format.record_length

  abbrev more : List ℕ
  more = bytes ++ replicate count 0

  -- a byte behind them is zero, or there is none
  pub behind : (i : ℕ) → length bytes ≤ i → get_or more i 0 ≡ 0
  behind i past = get_or-append_right bytes (replicate count 0) (length bytes) i 0 refl past ∙ zero_at count (i - length bytes)

  -- a gate is the same, or is a zero where there was no byte
  same_gate : (place : ℕ) → gate_of (record_at long place more) ≡ gate_of (record_at long place bytes)
  same_gate place =
      let start : ℕ = long * place in
      gate_is long laws.has_contents place more
      ∙ elim (cases_lt start (length bytes)) [
        | inl inside ↦ get_or_append_left bytes (replicate count 0) 0 start inside
        | inr past ↦ behind start past ∙ sym (get_or_past bytes start 0 past)
      ]
      ∙ sym (gate_is long laws.has_contents place bytes)

  -- a record of theirs is the same
  pub same_record : (place : ℕ) → long * place + long ≤ length bytes → record_at long place more ≡ record_at long place bytes
  same_record place inside =
      let start : ℕ = long * place in
      ap (take long) (drop-append-le start bytes (replicate count 0) (omega (arith, inside)))
      ∙ take-append-le long (drop start bytes) (replicate count 0) (omega (arith, inside, length-drop start bytes))

  -- a record that says something is whole
  whole_there : (place : ℕ) → length (after_gate (record_at long place bytes)) + 1 ≡ long → long * place + long ≤ length bytes
  whole_there place whole =
      let start : ℕ = long * place in
      omega (arith, whole, laws.has_contents, length-drop 1 (record_at long place bytes), length-take long (drop start bytes), length-drop start bytes)

  still_kept : identity_in format more ≡ identity_in format bytes → (items : List I) (left place : ℕ) → AreKeptFrom format items left place bytes → AreKeptFrom format items left place more
  still_kept own [] zero place are = λ later past is_open. are later past (sym (same_gate later) ∙ is_open)
  still_kept own [] (suc left) place are = absurd are
  still_kept own (p ∷ items) zero place are =
      let here = same_record place (whole_there place (laws.whole (identity_in format bytes) place are.0 p _ are.2)) in
      (are.0, rw here are.1, subst (λ (i : ℕ). HasContents format i place are.0 p (record_at long place more)) (sym own) (rw here are.2), still_kept own items are.0 (place + 1) are.3)
  still_kept own (p ∷ items) (suc left) place are =
      let here = same_record place (whole_there place (laws.whole (identity_in format bytes) place 0 p _ are.1)) in
      (rw here are.0, subst (λ (i : ℕ). HasContents format i place 0 p (record_at long place more)) (sym own) (rw here are.1), still_kept own items left (place + 1) are.2)

  pub keeps_grown : (items : List I) → long ≤ length bytes → KeepsItems format bytes items → KeepsItems format more items
  keeps_grown items some keeps = record {
    header = λ has. subst (λ (l : List ℕ). format.is_header l) (sym (same_record 0 (omega (arith, some)))) (keeps.header has);
    listed = still_kept (identity_behind format laws bytes (replicate count 0) some) items 0 format.headers keeps.listed;
  }

  -- ---- and back, where a record of zeros says nothing

  module _ (silent : SaysNoZeros format) (records : ℕ) (size : length bytes ≡ long * records) where
    -- a record behind them says nothing
    nothing_behind : (identity place followers : ℕ) (item : I) → records ≤ place → ¬ format.says identity place followers item (after_gate (record_at long place more))
    nothing_behind identity place followers item past says =
        let start : ℕ = long * place in
        let from : length bytes ≤ start = subst (λ (n : ℕ). n ≤ start) (sym size) (no_later long records place past) in
        let contents : List ℕ = after_gate (record_at long place more) in
        let whole : length contents + 1 ≡ long = laws.whole identity place followers item contents says in
        let zeros : contents ≡ replicate (long - 1) 0 =
        same_number_lists contents (replicate (long - 1) 0) (let e : length contents ≡ long - 1 = omega (arith, whole) in e ∙ sym (length-replicate {A = ℕ} (long - 1) 0))
        (λ k less.
        get_or-drop 1 (record_at long place more) k 0
        ∙ get_or-take long (drop start more) (1 + k) 0 (omega (arith, less, whole))
        ∙ get_or-drop start more (1 + k) 0
        ∙ behind (start + (1 + k)) (omega (arith, from))
        ∙ sym (zero_at (long - 1) k)) in
        silent identity place followers item (subst (λ (l : List ℕ). format.says identity place followers item l) zeros says)

    here_or_not : (identity place followers : ℕ) (item : I) → format.says identity place followers item (after_gate (record_at long place more)) → record_at long place more ≡ record_at long place bytes
    here_or_not identity place followers item says = elim (cases_lt place records) [
      | inl inside ↦
          let start : ℕ = long * place in
          let ends : long * place + long ≤ long * records = next_inside long place records inside in
          same_record place (subst (λ (n : ℕ). long * place + long ≤ n) (sym size) ends)
      | inr past ↦ absurd (nothing_behind identity place followers item past says)
    ]

    was_kept : identity_in format more ≡ identity_in format bytes → (items : List I) (left place : ℕ) → AreKeptFrom format items left place more → AreKeptFrom format items left place bytes
    was_kept own [] zero place are = λ later past is_open. are later past (same_gate later ∙ is_open)
    was_kept own [] (suc left) place are = absurd are
    was_kept own (p ∷ items) zero place are =
        let here = sym (here_or_not (identity_in format more) place are.0 p are.2) in
        (are.0, rw here are.1, subst (λ (i : ℕ). HasContents format i place are.0 p (record_at long place bytes)) own (rw here are.2), was_kept own items are.0 (place + 1) are.3)
    was_kept own (p ∷ items) (suc left) place are =
        let here = sym (here_or_not (identity_in format more) place 0 p are.1) in
        (rw here are.0, subst (λ (i : ℕ). HasContents format i place 0 p (record_at long place bytes)) own (rw here are.1), was_kept own items left (place + 1) are.2)

    pub kept_before : (items : List I) → 1 ≤ records → KeepsItems format more items → KeepsItems format bytes items
    kept_before items some keeps =
        let one : long * 0 + long ≤ length bytes = subst (λ (n : ℕ). long * 0 + long ≤ n) (sym size) (next_inside long 0 records some) in
        record {
          header = λ has. subst (λ (l : List ℕ). format.is_header l) (same_record 0 one) (keeps.header has);
          listed = was_kept (identity_behind format laws bytes (replicate count 0) (omega (arith, one))) items 0 format.headers keeps.listed;
        }
