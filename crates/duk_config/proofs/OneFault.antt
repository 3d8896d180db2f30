-- A file has at most one fault, but that memory may be refused in place of it.
use Rattle.std.proofs.Common.{◌≡◌, ◌≢◌, ◌⊎◌, ℕ, Bool, ◌<◌, ◌≤◌, List, [], ◌∷◌, ◌++◌, Option, Some, None, IsSome, String, Global, length, string_bytes, inl, inr, refl, ap, sym, subst, ◌∙◌, arith}
use Rattle.std.proofs.lemmas.Cmp.{nat_list_cmp_total}
use Rattle.std.proofs.lemmas.Map.Lookups.{exact_bytes}
use Rattle.std.specs.Cmp.Lexicographic.{slice_cmp}
use Rattle.std.specs.Ordering.{nat_cmp, ordering_reverse}
use Rattle.std.specs.declared.cmp.Ordering.{Ordering}
use Rattle.std.specs.declared.cmp.Ordering.TheVariants.{Less, Equal, Greater}
use Rattle.toml.specs.Data.{Data, Members}
use Rattle.duk_config.specs.declared.fault.ConfigKey.{ConfigKey}
use Rattle.duk_config.specs.declared.fault.ConfigKey.TheVariants as key
use Rattle.duk_config.specs.declared.fault.ScriptFault.{ScriptFault}
use Rattle.duk_config.specs.declared.fault.ScriptFault.TheVariants as fault
use Rattle.duk_config.specs.ConfigFaults.{AreOneFault, HasBadEntry, IsFirstTableFault, IsRight, IsRightBefore, IsWrong, key_rank}
use Rattle.duk_config.specs.ConfigFile.{HasTableFault, IsConfigFault, IsToml, longest_file}
use Rattle.duk_config.specs.ConfigKeys.{is_config_key}
use Rattle.duk_config.specs.Entries.{HaveOnePan, HaveOnePrefix, IsFirstBadEntry, StatesBaseKey, StatesCard}
use Rattle.duk_config.specs.Names.{IsFirstUnknown}
use Rattle.duk_config.specs.ShownKey.{ShowsUnknown, shown_key}
use Rattle.duk_config.proofs.OneConfiguration.{no_value, none_bad, none_unknown, one_base_key, one_card, one_value}
use Rattle.duk_config.proofs.KeysInOrder.{rank_once}

order : (m n : ℕ) → (m < n) ⊎ ((m ≡ n) ⊎ (n < m))
order m n = grind arith

-- of two names, neither below the other
neither_less : (r s : Ordering) → r ≡ ordering_reverse s → r ≢ Less → s ≢ Less → r ≡ Equal
neither_less Equal s same first second = refl
neither_less Less s same first second = absurd (first refl)
neither_less Greater Less same first second = absurd (second refl)
neither_less Greater Equal same first second = cc
neither_less Greater Greater same first second = cc

-- a table has one first unknown name
one_unknown : (is_known : List ℕ → Bool) (document : Members) (a b : List ℕ) → IsFirstUnknown is_known document a → IsFirstUnknown is_known document b → a ≡ b
one_unknown is_known document a b first second =
    exact_bytes a b (neither_less (slice_cmp nat_cmp a b) (slice_cmp nat_cmp b a) (nat_list_cmp_total.antisymm a b) (second.first a first.there first.unknown) (first.first b second.there second.unknown))

-- and one text that shows it
one_shown : (document : Members) (a b : List ℕ) → ShowsUnknown document a → ShowsUnknown document b → a ≡ b
one_shown document a b first second =
    first.text_is
    ∙ (ap (λ name. shown_key name document) (one_unknown is_config_key document first.name second.name first.first second.first)
    ∙ sym second.text_is)

-- of two cuts of one list, the one further back has the other in front
cut : {A : Type 0} (xs : List A) (x : A) (ys zs : List A) (z : A) (ws : List A) → xs ++ x ∷ ys ≡ zs ++ z ∷ ws → length xs < length zs
    → (rest : List A) × (zs ≡ xs ++ x ∷ rest)
cut [] x ys [] z ws same shorter = absurd (omega arith)
cut [] x ys (y ∷ zs) z ws same shorter = (zs, cc)
cut (a ∷ xs) x ys [] z ws same shorter = absurd (omega arith)
cut (a ∷ xs) x ys (b ∷ zs) z ws same shorter =
    let tails : xs ++ x ∷ ys ≡ zs ++ z ∷ ws = cc in
    let heads : a ≡ b = cc in
    let rest = cut xs x ys zs z ws tails (omega arith) in
    (rest.0, ap (λ l. b ∷ l) rest.1 ∙ ap (λ h. h ∷ xs ++ x ∷ rest.0) (sym heads))

module _ {Entry : Type 0} (States : Data → Entry → Type 0) (Repeats : Entry → Entry → Type 0) (one : (value : Data) (x y : Entry) → States value x → States value y → x ≡ y) where
  -- no first bad entry is before another
  not_before : (values : List Data) (p q : ℕ) → IsFirstBadEntry States Repeats values p → IsFirstBadEntry States Repeats values q → ¬ (p < q)
  not_before values p q first second = λ below.
      let first_place = first.place_is in
      let second_place = second.place_is in
      let part = cut first.before first.item first.after second.before second.item second.after (sym first.items_are ∙ second.items_are) (omega arith) in
      none_bad States Repeats one second.before second.wrong.0 p second.wrong.1 (record {
        before = first.before;
        item = first.item;
        after = part.0;
        items_are = part.1;
        place_is = first.place_is;
        earlier_right = first.earlier_right;
        wrong = first.wrong;
      })

  -- values have one first bad entry
  one_place : (values : List Data) (p q : ℕ) → IsFirstBadEntry States Repeats values p → IsFirstBadEntry States Repeats values q → p ≡ q
  one_place values p q first second =
      elim (order p q) [
        | inl below ↦ absurd (not_before values p q first second below)
        | inr rest ↦ elim rest [
          | inl same ↦ same
          | inr above ↦ absurd (not_before values q p second first above)
        ]
      ]

-- the bad entries of a key are of one place
one_bad_entry : (document : Members) (k : ConfigKey) (p q : ℕ) → HasBadEntry document k p → HasBadEntry document k q → p ≡ q
one_bad_entry document key.Bdk p q first second =
    let same : first.0 ≡ second.0 = one_value _ _ _ first.1 second.1 in
    one_place StatesBaseKey HaveOnePrefix one_base_key second.0 p q (rw same at first.2) second.2
one_bad_entry document key.Card p q first second =
    let same : first.0 ≡ second.0 = one_value _ _ _ first.1 second.1 in
    one_place StatesCard HaveOnePan one_card second.0 p q (rw same at first.2) second.2
one_bad_entry document key.Lmk p q first second = absurd first
one_bad_entry document key.Zone p q first second = absurd first
one_bad_entry document key.Loading p q first second = absurd first
one_bad_entry document key.Terminals p q first second = absurd first
one_bad_entry document key.Log p q first second = absurd first
one_bad_entry document key.Stores p q first second = absurd first

-- a key whose value is wrong has no bad entry
no_entry_of_wrong : (document : Members) (k : ConfigKey) (place : ℕ) → IsWrong document k → ¬ HasBadEntry document k place
no_entry_of_wrong document key.Bdk place wrong bad = no_value _ _ bad.1 wrong
no_entry_of_wrong document key.Card place wrong bad = no_value _ _ bad.1 wrong
no_entry_of_wrong document key.Lmk place wrong bad = bad
no_entry_of_wrong document key.Zone place wrong bad = bad
no_entry_of_wrong document key.Loading place wrong bad = bad
no_entry_of_wrong document key.Terminals place wrong bad = bad
no_entry_of_wrong document key.Log place wrong bad = bad
no_entry_of_wrong document key.Stores place wrong bad = bad

some_not_none : {A : Type 0} (o : Option A) → IsSome o → o ≢ None
some_not_none None there none = cc
some_not_none (Some x) there none = cc

-- a right key is not wrong
right_not_wrong : (document : Members) (k : ConfigKey) → IsRight document k → ¬ IsWrong document k
right_not_wrong document key.Lmk right wrong = some_not_none _ right wrong
right_not_wrong document key.Zone right wrong = some_not_none _ right wrong
right_not_wrong document key.Loading right wrong = some_not_none _ right wrong
right_not_wrong document key.Terminals right wrong = some_not_none _ right wrong
right_not_wrong document key.Log right wrong = some_not_none _ right wrong
right_not_wrong document key.Stores right wrong = some_not_none _ right wrong
right_not_wrong document key.Bdk right wrong = no_value _ _ right.1.values_are wrong
right_not_wrong document key.Card right wrong = no_value _ _ right.1.values_are wrong

-- a right key has no bad entry
right_no_bad_entry : (document : Members) (k : ConfigKey) (place : ℕ) → IsRight document k → ¬ HasBadEntry document k place
right_no_bad_entry document key.Bdk place right bad =
    let same : right.1.values ≡ bad.0 = one_value _ _ _ right.1.values_are bad.1 in
    none_bad StatesBaseKey HaveOnePrefix one_base_key bad.0 right.0 place (rw same at right.1.entries) bad.2
right_no_bad_entry document key.Card place right bad =
    let same : right.1.values ≡ bad.0 = one_value _ _ _ right.1.values_are bad.1 in
    none_bad StatesCard HaveOnePan one_card bad.0 right.0 place (rw same at right.1.entries) bad.2
right_no_bad_entry document key.Lmk place right bad = bad
right_no_bad_entry document key.Zone place right bad = bad
right_no_bad_entry document key.Loading place right bad = bad
right_no_bad_entry document key.Terminals place right bad = bad
right_no_bad_entry document key.Log place right bad = bad
right_no_bad_entry document key.Stores place right bad = bad

-- the fault is of this key: its value or one of its entries
abbrev IsOfKey : Members → ScriptFault → ConfigKey → Type 0
IsOfKey document why k = ((why ≡ fault.BadKey k) × IsWrong document k) ⊎ ((place : ℕ) × (why ≡ fault.BadEntry k place) × HasBadEntry document k place)

-- a key that has a fault is not right
not_right : (document : Members) (why : ScriptFault) (k : ConfigKey) → IsOfKey document why k → ¬ IsRight document k
not_right document why k is right =
    elim is [
      | inl wrong ↦ right_not_wrong document k right wrong.1
      | inr bad ↦ right_no_bad_entry document k bad.0 right bad.2
    ]

-- a table has first faults of one key
one_key : (document : Members) (why other : ScriptFault) (k l : ConfigKey) → IsRightBefore document k → IsRightBefore document l
    → IsOfKey document why k → IsOfKey document other l → k ≡ l
one_key document why other k l before_k before_l first second =
    elim (order (key_rank k) (key_rank l)) [
      | inl below ↦ absurd (not_right document why k first (before_l.earlier_right k below))
      | inr rest ↦ elim rest [
        | inl same ↦ rank_once k l same
        | inr above ↦ absurd (not_right document other l second (before_k.earlier_right l above))
      ]
    ]

-- a key has one fault
one_of_key : (document : Members) (why other : ScriptFault) (k : ConfigKey) → IsOfKey document why k → IsOfKey document other k → AreOneFault why other
one_of_key document why other k first second =
    elim first [
      | inl wrong ↦ elim second [
        | inl wrong_too ↦ rw wrong.0 (rw wrong_too.0 refl)
        | inr bad ↦ absurd (no_entry_of_wrong document k bad.0 wrong.1 bad.2)
      ]
      | inr bad ↦ elim second [
        | inl wrong ↦ absurd (no_entry_of_wrong document k bad.0 wrong.1 bad.2)
        | inr bad_too ↦ rw bad.1 (rw bad_too.1 (ap (λ place. fault.BadEntry k place) (one_bad_entry document k bad.0 bad_too.0 bad.2 bad_too.2)))
      ]
    ]

-- the fault is an unknown key, or of a key after right ones
abbrev IsOfTable : Members → ScriptFault → Type 0
IsOfTable document why =
    ((name : String Global) × (why ≡ fault.UnknownKey name) × ShowsUnknown document (string_bytes name))
    ⊎ ((k : ConfigKey) × IsRightBefore document k × IsOfKey document why k)

of_table : (document : Members) (why : ScriptFault) → IsFirstTableFault document why → why ≢ fault.NoMemory → IsOfTable document why
of_table document (fault.UnknownKey name) first other = inl (name, refl, first)
of_table document (fault.BadKey k) first other = inr (k, first.0, inl (refl, first.1))
of_table document (fault.BadEntry k place) first other = inr (k, first.0, inr (place, refl, first.1))
of_table document fault.NoMemory first other = absurd (other refl)
of_table document fault.ConfigTooLong first other = absurd first
of_table document fault.NotToml first other = absurd first
of_table document fault.CannotRead first other = absurd first
of_table document fault.TooLong first other = absurd first
of_table document (fault.NotAnEvent line) first other = absurd first
of_table document fault.WriteFailed first other = absurd first

-- a table has one fault
one_of_table : (document : Members) (why other : ScriptFault) → IsOfTable document why → IsOfTable document other → AreOneFault why other
one_of_table document why other first second =
    elim first [
      | inl unknown ↦ elim second [
        | inl unknown_too ↦ rw unknown.1 (rw unknown_too.1 (one_shown document _ _ unknown.2 unknown_too.2))
        | inr keyed ↦ absurd (none_unknown is_config_key document unknown.2.name keyed.1.no_other_key unknown.2.first)
      ]
      | inr keyed ↦ elim second [
        | inl unknown ↦ absurd (none_unknown is_config_key document unknown.2.name keyed.1.no_other_key unknown.2.first)
        | inr keyed_too ↦
            let same : keyed.0 ≡ keyed_too.0 = one_key document why other keyed.0 keyed_too.0 keyed.1 keyed_too.1 keyed.2 keyed_too.2 in
            one_of_key document why other keyed_too.0 (subst (IsOfKey document why) same keyed.2) keyed_too.2
      ]
    ]

-- the file is too long, or no TOML, or its table has this fault
abbrev IsOfFile : List ℕ → ScriptFault → Type 0
IsOfFile bytes why =
    ((why ≡ fault.ConfigTooLong) × (longest_file < length bytes))
    ⊎ ((length bytes ≤ longest_file) × (((why ≡ fault.NotToml) × ((document : Members) → ¬ IsToml bytes document)) ⊎ ((document : Members) × IsToml bytes document × IsOfTable document why)))

table_of_file : (bytes : List ℕ) (why : ScriptFault) → HasTableFault bytes why → why ≢ fault.NoMemory → IsOfFile bytes why
table_of_file bytes why has other = inr (has.fits, inr (has.document, has.table, of_table has.document why has.first other))

of_file : (bytes : List ℕ) (why : ScriptFault) → IsConfigFault bytes why → why ≢ fault.NoMemory → IsOfFile bytes why
of_file bytes fault.ConfigTooLong is other = inl (refl, is)
of_file bytes fault.NotToml is other = inr (is.0, inl (refl, is.1))
of_file bytes (fault.UnknownKey name) is other = table_of_file bytes (fault.UnknownKey name) is other
of_file bytes (fault.BadKey k) is other = table_of_file bytes (fault.BadKey k) is other
of_file bytes (fault.BadEntry k place) is other = table_of_file bytes (fault.BadEntry k place) is other
of_file bytes fault.NoMemory is other = absurd (other refl)
of_file bytes fault.CannotRead is other = absurd is
of_file bytes fault.TooLong is other = absurd is
of_file bytes (fault.NotAnEvent line) is other = absurd is
of_file bytes fault.WriteFailed is other = absurd is

one_of_file : (bytes : List ℕ) (why other : ScriptFault) → IsOfFile bytes why → IsOfFile bytes other → AreOneFault why other
one_of_file bytes why other first second =
    elim first [
      | inl long ↦ elim second [
        | inl long_too ↦ rw long.0 (rw long_too.0 refl)
        | inr fits ↦ let above = long.1 in let within = fits.0 in absurd (omega arith)
      ]
      | inr fits ↦ elim second [
        | inl long ↦ let above = long.1 in let within = fits.0 in absurd (omega arith)
        | inr fits_too ↦ elim fits.1 [
          | inl no_toml ↦ elim fits_too.1 [
            | inl no_toml_too ↦ rw no_toml.0 (rw no_toml_too.0 refl)
            | inr toml ↦ absurd (no_toml.1 toml.0 toml.1)
          ]
          | inr toml ↦ elim fits_too.1 [
            | inl no_toml ↦ absurd (no_toml.1 toml.0 toml.1)
            | inr toml_too ↦
                let same : toml.0 ≡ toml_too.0 = one_value _ _ _ toml.1.table toml_too.1.table in
                one_of_table toml_too.0 why other (subst (λ m. IsOfTable m why) same toml.2) toml_too.2
          ]
        ]
      ]
    ]

-- a file has one fault, but that memory may be refused in place of it
pub one_fault : (bytes : List ℕ) (why other : ScriptFault) → IsConfigFault bytes why → IsConfigFault bytes other
    → why ≢ fault.NoMemory → other ≢ fault.NoMemory → AreOneFault why other
one_fault bytes why other first second not_first not_second = one_of_file bytes why other (of_file bytes why first not_first) (of_file bytes other second not_second)
