-- What each record that is read says of the items that are kept.
use Rattle.std.proofs.Common.{◌≡◌, ◌⊎◌, inl, inr, ℕ, zero, suc, ◌+◌, ◌-◌, ◌*◌, ◌≤◌, List, [], ◌∷◌, ◌++◌, length, drop, take, refl, sym, ◌∙◌, ap, subst, arith, length-append}
use Rattle.std.proofs.lemmas.Bool.{cases_lt}
use Rattle.std.proofs.lemmas.List.{append-nil, append_assoc, drop_all}
use Rattle.duk_store.specs.Format.{FormatMeaning, IsFormat}
use Rattle.duk_store.specs.Records.{AreClosedFrom, AreKeptFrom, AreListed, HasContents, IsOpen, after_gate, identity_in, record_at}
use Rattle.duk_store.specs.inner.Reading.{HasNoContents, HasReadBehind, HasReadGroups, IsRecordAt, ListsNone}
use Rattle.duk_store.proofs.Places.{no_later}

pub nothing_read : {I : Type 0} (format : FormatMeaning I) (bytes : List ℕ) → HasReadGroups format 0 0 [] format.headers bytes
nothing_read format bytes = record {
  counted = refl;
  all_kept = omega arith;
  joins = λ rest kept. kept;
  parts = λ listed kept. (listed, kept, refl);
}

nothing_taken : (n : ℕ) → take {A = ℕ} n [] ≡ []
nothing_taken zero = refl
nothing_taken (suc n) = refl

-- what a record says on the disk of an identity, and where it stands
module _ {I : Type 0} (format : FormatMeaning I) (identity at place followers : ℕ) (item : I) (record_bytes bytes : List ℕ) (stands : IsRecordAt format identity record_bytes place bytes) (here : place ≡ at) where
  pub said_there : HasContents format identity at followers item record_bytes → HasContents format (identity_in format bytes) place followers item (record_at format.record_length place bytes)
  said_there has =
      subst (λ (i : ℕ). HasContents format i place followers item (record_at format.record_length place bytes)) (sym stands.1)
      (subst (λ (r : List ℕ). HasContents format identity place followers item r) (sym stands.0) (subst (λ (n : ℕ). HasContents format identity n followers item record_bytes) (sym here) has))

  pub said_here : HasContents format (identity_in format bytes) place followers item (record_at format.record_length place bytes) → HasContents format identity at followers item record_bytes
  said_here has =
      subst (λ (n : ℕ). HasContents format identity n followers item record_bytes) here
      (subst (λ (r : List ℕ). HasContents format identity place followers item r) stands.0
      (subst (λ (i : ℕ). HasContents format i place followers item (record_at format.record_length place bytes)) stands.1 has))

module _ {I : Type 0} (format : FormatMeaning I) (kept place : ℕ) (items : List I) (bytes : List ℕ) where
  abbrev long : ℕ
  long = format.record_length

  -- behind the groups
  pub end_read : HasReadGroups format kept 0 items place bytes → ¬ IsOpen (record_at long place bytes) → HasReadBehind format kept items (place + 1) bytes
  end_read was closed = record {
    counted = was.counted;
    in_front = omega (arith, was.all_kept);
    closed = λ other from to. let is : place ≡ other = omega (arith, from, to, was.all_kept) in subst (λ (at : ℕ). ¬ IsOpen (record_at long at bytes)) is closed;
    joins = λ rest. subst (λ (l : List I). AreListed format l bytes) (append-nil items) (was.joins [] (λ later past. rest later (omega (arith, past, was.all_kept))));
    parts = λ listed keeps. let found = was.parts listed keeps in only_closed found.0 found.1;
  }
    where
      only_closed : (rest : List I) → AreKeptFrom format rest 0 place bytes → AreClosedFrom long (format.headers + kept) bytes
      only_closed [] are later past = are later (omega (arith, past, was.all_kept))
      only_closed (p ∷ rest) are later past = absurd (closed are.1)

  pub behind_read : HasReadBehind format kept items place bytes → ¬ IsOpen (record_at long place bytes) → HasReadBehind format kept items (place + 1) bytes
  behind_read was closed = record {
    counted = was.counted;
    in_front = omega (arith, was.in_front);
    closed = λ other from to. elim (cases_lt other place) [
      | inl before ↦ was.closed other from before
      | inr past ↦ let is : place ≡ other = omega (arith, past, to) in subst (λ (at : ℕ). ¬ IsOpen (record_at long at bytes)) is closed
    ];
    joins = was.joins;
    parts = was.parts;
  }

  pub not_behind : HasReadBehind format kept items place bytes → IsOpen (record_at long place bytes) → ListsNone format bytes
  not_behind was is_open listed keeps = was.parts listed keeps place was.in_front is_open

  -- after the last record there is nothing
  past_end : (records later : ℕ) → length bytes ≡ long * records → records ≤ later → record_at long later bytes ≡ []
  past_end records later size past = ap (take long) (drop_all (long * later) bytes (let less = no_later long records later past in omega (arith, size, less))) ∙ nothing_taken long

  not_open : (r : List ℕ) → r ≡ [] → ¬ IsOpen r
  not_open r none is_open = absurd (omega (arith, subst IsOpen none is_open))

  pub all_read : length bytes ≡ long * place → HasReadGroups format kept 0 items place bytes → AreListed format items bytes
  all_read size was = subst (λ (l : List I). AreListed format l bytes) (append-nil items) (was.joins [] (λ later past. not_open (record_at long later bytes) (past_end place later size past)))

  pub all_behind : length bytes ≡ long * place → HasReadBehind format kept items place bytes → AreListed format items bytes
  all_behind size was = was.joins closed
    where
      closed : AreClosedFrom long (format.headers + kept) bytes
      closed later past = elim (cases_lt later place) [
        | inl before ↦ was.closed later past before
        | inr following ↦ not_open (record_at long later bytes) (past_end place later size following)
      ]

  module _ (laws : IsFormat format) where
    no_contents : (identity followers : ℕ) (item : I) (r : List ℕ) → r ≡ [] → ¬ HasContents format identity place followers item r
    no_contents identity followers item r none has =
        let whole = laws.whole identity place followers item (after_gate r) has in
        let nothing : length (after_gate r) ≡ 0 = ap (λ (l : List ℕ). length (drop 1 l)) none in absurd (omega (arith, whole, nothing, laws.has_contents))

    pub cut_group : (left : ℕ) → 1 ≤ left → length bytes ≡ long * place → HasReadGroups format kept left items place bytes → ListsNone format bytes
    cut_group left some size was listed keeps = let found = was.parts listed keeps in none left some found.0 found.1
      where
        none : (left : ℕ) → 1 ≤ left → (rest : List I) → ¬ AreKeptFrom format rest left place bytes
        none zero some rest are = absurd (omega (arith, some))
        none (suc left) some [] are = are
        none (suc left) some (p ∷ rest) are = no_contents (identity_in format bytes) 0 p (record_at long place bytes) (past_end place place size (omega arith)) are.1

    -- in a group's place
    pub first_read : (followers : ℕ) (item : I) → HasReadGroups format kept 0 items place bytes → IsOpen (record_at long place bytes) → HasContents format (identity_in format bytes) place followers item (record_at long place bytes)
        → HasReadGroups format (kept + 1) followers (items ++ item ∷ []) (place + 1) bytes
    first_read followers item was is_open has = record {
      counted = length-append items (item ∷ []) ∙ ap (λ (n : ℕ). n + 1) was.counted;
      all_kept = omega (arith, was.all_kept);
      joins = λ rest are. subst (λ (l : List I). AreListed format l bytes) (sym (append_assoc items (item ∷ []) rest)) (was.joins (item ∷ rest) (followers, is_open, has, are));
      parts = λ listed keeps. let before = was.parts listed keeps in after listed before.0 before.1 before.2;
    }
      where
        after : (listed rest : List I) → AreKeptFrom format rest 0 place bytes → listed ≡ items ++ rest → (more : List I) × AreKeptFrom format more followers (place + 1) bytes × (listed ≡ (items ++ item ∷ []) ++ more)
        after listed [] are is = absurd (are place (omega arith) is_open)
        after listed (p ∷ rest) are is =
            let one = laws.one_reading (identity_in format bytes) place are.0 followers p item (after_gate (record_at long place bytes)) are.2 has in (
              rest,
              subst (λ (n : ℕ). AreKeptFrom format rest n (place + 1) bytes) one.0 are.3,
              is ∙ ap (λ (q : I). items ++ q ∷ rest) one.1 ∙ sym (append_assoc items (item ∷ []) rest),
            )

  pub no_first : HasReadGroups format kept 0 items place bytes → IsOpen (record_at long place bytes) → HasNoContents format (identity_in format bytes) place (record_at long place bytes) → ListsNone format bytes
  no_first was is_open none listed keeps = let before = was.parts listed keeps in never before.0 before.1
    where
      never : (rest : List I) → ¬ AreKeptFrom format rest 0 place bytes
      never [] are = are place (omega arith) is_open
      never (p ∷ rest) are = none are.0 p are.2

  module _ (laws : IsFormat format) where
    -- inside a group
    pub follower_read : (left : ℕ) (item : I) → 1 ≤ left → HasReadGroups format kept left items place bytes → ¬ IsOpen (record_at long place bytes) → HasContents format (identity_in format bytes) place 0 item (record_at long place bytes)
        → HasReadGroups format (kept + 1) (left - 1) (items ++ item ∷ []) (place + 1) bytes
    follower_read zero item some was closed has = absurd (omega (arith, some))
    follower_read (suc left) item some was closed has =
        let less : left ≡ suc left - 1 = omega arith in
        subst (λ (n : ℕ). HasReadGroups format (kept + 1) n (items ++ item ∷ []) (place + 1) bytes) less (record {
          counted = length-append items (item ∷ []) ∙ ap (λ (n : ℕ). n + 1) was.counted;
          all_kept = omega (arith, was.all_kept);
          joins = λ rest are. subst (λ (l : List I). AreListed format l bytes) (sym (append_assoc items (item ∷ []) rest)) (was.joins (item ∷ rest) (closed, has, are));
          parts = λ listed keeps. let before = was.parts listed keeps in after listed before.0 before.1 before.2;
        })
      where
        after : (listed rest : List I) → AreKeptFrom format rest (suc left) place bytes → listed ≡ items ++ rest → (more : List I) × AreKeptFrom format more left (place + 1) bytes × (listed ≡ (items ++ item ∷ []) ++ more)
        after listed [] are is = absurd are
        after listed (p ∷ rest) are is =
            let one = laws.one_reading (identity_in format bytes) place 0 0 p item (after_gate (record_at long place bytes)) are.1 has in
            (rest, are.2, is ∙ ap (λ (q : I). items ++ q ∷ rest) one.1 ∙ sym (append_assoc items (item ∷ []) rest))

  pub no_follower : (left : ℕ) → 1 ≤ left → HasReadGroups format kept left items place bytes → IsOpen (record_at long place bytes) ⊎ ((item : I) → ¬ HasContents format (identity_in format bytes) place 0 item (record_at long place bytes)) → ListsNone format bytes
  no_follower left some was wrong listed keeps = let before = was.parts listed keeps in never left some wrong before.0 before.1
    where
      never : (left : ℕ) → 1 ≤ left → IsOpen (record_at long place bytes) ⊎ ((item : I) → ¬ HasContents format (identity_in format bytes) place 0 item (record_at long place bytes)) → (rest : List I) → ¬ AreKeptFrom format rest left place bytes
      never zero some wrong rest are = absurd (omega (arith, some))
      never (suc left) some wrong [] are = are
      never (suc left) some (inl is_open) (p ∷ rest) are = are.0 is_open
      never (suc left) some (inr none) (p ∷ rest) are = none p are.1
