-- A table states one configuration at most, and none where it has a fault.
use Rattle.std.proofs.Common.{true, false, ◌≡◌, ◌≢◌, ℕ, zero, suc, ◌<◌, Bool, List, [], ◌∷◌, ◌++◌, Option, Some, None, length, get_or, inl, inr, refl, ap, sym, subst, ◌∙◌, arith, length-append}
use Rattle.std.proofs.lemmas.Bool.{and_parts}
use Rattle.std.proofs.lemmas.List.{get_or_append_left}
use Rattle.std.proofs.Math.Seq.{get_or-append_seam}
use Rattle.std.proofs.lemmas.Option.{same_Some}
use Rattle.std.specs.List.{AllPairs, AllZip, Any, list_all}
use Rattle.duk_pin.specs.declared.card.Card.{Card}
use Rattle.toml.specs.Data.{Data, Members, table}
use Rattle.duk_config.specs.BaseKeys.{BaseKey, bdk_key_of, bdk_prefix_of}
use Rattle.duk_config.specs.declared.fault.ConfigKey.{ConfigKey}
use Rattle.duk_config.specs.declared.fault.ConfigKey.TheVariants as key
use Rattle.duk_config.specs.declared.fault.ScriptFault.{ScriptFault}
use Rattle.duk_config.specs.declared.fault.ScriptFault.TheVariants as fault
use Rattle.duk_config.specs.ConfigFaults.{HasBadEntry, IsFirstTableFault, IsWrong}
use Rattle.duk_config.specs.ConfigFile.{HasTableFault, IsConfigFault, IsConfigFile}
use Rattle.duk_config.specs.ConfigTable.{HasBaseKeys, HasCards, IsConfigOf}
use Rattle.duk_config.specs.Entries.{AreEntries, HaveOnePan, HaveOnePrefix, IsFirstBadEntry, StatesBaseKey, StatesCard}
use Rattle.duk_config.specs.Names.{IsFirstUnknown, has_only, names}
use Rattle.duk_config.specs.Settings.{Settings, settings}

pub one_value : {A : Type 0} (o : Option A) (x y : A) → o ≡ Some x → o ≡ Some y → x ≡ y
one_value o x y first second = same_Some x y (sym first ∙ second)

pub no_value : {A : Type 0} (o : Option A) (x : A) → o ≡ Some x → o ≢ None
no_value o x some none = let both : Some x ≡ None = sym some ∙ none in cc

one_table : (value : Data) (a b : Members) → value ≡ table a → value ≡ table b → a ≡ b
one_table value a b first second = cc

base_key_same : (x y : BaseKey) → bdk_prefix_of x ≡ bdk_prefix_of y → bdk_key_of x ≡ bdk_key_of y → x ≡ y
base_key_same x y prefix key = ap (λ p. let k : BaseKey = (p, x.1) in k) prefix ∙ ap (λ p. let k : BaseKey = (y.0, p) in k) key

-- a value states one base derivation key
pub one_base_key : (value : Data) (x y : BaseKey) → StatesBaseKey value x → StatesBaseKey value y → x ≡ y
one_base_key value x y first second =
    let same : first.members ≡ second.members = one_table value _ _ first.is_table second.is_table in
    let prefix = rw same at first.prefix in
    let key = rw same at first.key in
    base_key_same x y (one_value _ _ _ prefix second.prefix) (one_value _ _ _ key second.key)

card_same : (x y : Card) → x.pan ≡ y.pan → x.pin ≡ y.pin → x.limit ≡ y.limit → x ≡ y
card_same x y pan pin limit =
    ap (λ p. let c : Card = record { pan = p; pin = x.pin; limit = x.limit } in c) pan
    ∙ (ap (λ p. let c : Card = record { pan = y.pan; pin = p; limit = x.limit } in c) pin
    ∙ ap (λ p. let c : Card = record { pan = y.pan; pin = y.pin; limit = p } in c) limit)

-- a value states one card
pub one_card : (value : Data) (x y : Card) → StatesCard value x → StatesCard value y → x ≡ y
one_card value x y first second =
    let same : first.members ≡ second.members = one_table value _ _ first.is_table second.is_table in
    let pan = rw same at first.pan in
    let pin = rw same at first.pin in
    let limit = rw same at first.limit in
    card_same x y (one_value _ _ _ pan second.pan) (one_value _ _ _ pin second.pin) (one_value _ _ _ limit second.limit)

module _ {Entry : Type 0} (States : Data → Entry → Type 0) (Repeats : Entry → Entry → Type 0) (one : (value : Data) (x y : Entry) → States value x → States value y → x ≡ y) where
  -- values state one list of entries
  pub one_list : (values : List Data) (xs ys : List Entry) → AllZip States values xs → AllZip States values ys → xs ≡ ys
  one_list [] [] [] first second = refl
  one_list [] [] (y ∷ ys) first second = absurd second
  one_list [] (x ∷ xs) ys first second = absurd first
  one_list (value ∷ values) [] ys first second = absurd first
  one_list (value ∷ values) (x ∷ xs) [] first second = absurd second
  one_list (value ∷ values) (x ∷ xs) (y ∷ ys) first second =
      ap (λ z. z ∷ xs) (one value x y first.0 second.0) ∙ ap (λ zs. y ∷ zs) (one_list values xs ys first.1 second.1)

  -- the entries of the values before a place, and of the value there
  record Split (before : List Data) (value : Data) (entries : List Entry) : Type 0 where
    front : List Entry
    here : Entry
    back : List Entry
    entries_are : entries ≡ front ++ here ∷ back
    front_are : AllZip States before front
    here_is : States value here

  split : (before : List Data) (value : Data) (after : List Data) (entries : List Entry) → AllZip States (before ++ value ∷ after) entries → Split before value entries
  split [] value after [] zipped = absurd zipped
  split [] value after (e ∷ es) zipped = record { front = []; here = e; back = es; entries_are = refl; front_are = tt; here_is = zipped.0 }
  split (b ∷ before) value after [] zipped = absurd zipped
  split (b ∷ before) value after (e ∷ es) zipped =
      let rest = split before value after es zipped.1 in
      record { front = e ∷ rest.front; here = rest.here; back = rest.back; entries_are = ap (λ r. e ∷ r) rest.entries_are; front_are = (zipped.0, rest.front_are); here_is = rest.here_is }

  -- of entries that differ none repeats one before it
  no_repeat : (front : List Entry) (here : Entry) (back : List Entry) → Any (λ other. Repeats other here) front
      → AllPairs (λ a b. ¬ Repeats a b) (front ++ here ∷ back) → ⊥
  no_repeat front here back repeated distinct =
      let k = repeated.0 in
      let x = repeated.1 in
      let all = front ++ here ∷ back in
      let longer : length front < length all = omega (arith, length-append front (here ∷ back)) in
      let at_k : x ≡ get_or all k x = sym repeated.3 ∙ sym (get_or_append_left front (here ∷ back) x k repeated.2) in
      let at_here : here ≡ get_or all (length front) x = sym (get_or-append_seam front here back x) in
      distinct k (length front) x repeated.2 longer (subst (λ a. Repeats a (get_or all (length front) x)) at_k (subst (λ b. Repeats x b) at_here repeated.4))

  -- where the values state entries, none of them is the first that is bad
  pub none_bad : (values : List Data) (entries : List Entry) (place : ℕ) → AreEntries States Repeats values entries → ¬ IsFirstBadEntry States Repeats values place
  none_bad values entries place are first =
      let zipped = rw first.items_are at are.each in
      let parts = split first.before first.item first.after entries zipped in
      let fronts : first.wrong.0 ≡ parts.front = one_list first.before first.wrong.0 parts.front first.wrong.1.each parts.front_are in
      elim first.wrong.2 [
        | inl nothing ↦ nothing parts.here parts.here_is
        | inr repeated ↦
            let same : repeated.entry ≡ parts.here = one first.item _ _ repeated.stated parts.here_is in
            let within = rw fronts at repeated.repeated in
            let distinct = rw parts.entries_are at are.distinct in
            no_repeat parts.front parts.here parts.back (rw same at within) distinct
      ]

-- the same of names
all_known : (is_known : List ℕ → Bool) (xs : List (List ℕ)) (x : List ℕ) (k : ℕ) → list_all is_known xs ≡ true → k < length xs → is_known (get_or xs k x) ≡ true
all_known is_known [] x k all within = absurd (omega arith)
all_known is_known (y ∷ xs) x zero all within = (and_parts _ _ all).0
all_known is_known (y ∷ xs) x (suc k) all within = all_known is_known xs x k (and_parts _ _ all).1 (omega arith)

pub none_unknown : (is_known : List ℕ → Bool) (members : Members) (name : List ℕ) → has_only is_known members ≡ true → ¬ IsFirstUnknown is_known members name
none_unknown is_known members name all first =
    let known = all_known is_known (names members) name first.there.0 all first.there.1 in
    let known_name = rw first.there.2 at known in
    let both : true ≡ false = sym known_name ∙ first.unknown in
    cc

one_base_keys : (values : List Data) (xs ys : List BaseKey) → AllZip StatesBaseKey values xs → AllZip StatesBaseKey values ys → xs ≡ ys
one_base_keys = one_list StatesBaseKey HaveOnePrefix one_base_key

one_cards : (values : List Data) (xs ys : List Card) → AllZip StatesCard values xs → AllZip StatesCard values ys → xs ≡ ys
one_cards = one_list StatesCard HaveOnePan one_card

-- at bdk stands one list of base derivation keys
bdks_once : (document : Members) (xs ys : List BaseKey) → HasBaseKeys document xs → HasBaseKeys document ys → xs ≡ ys
bdks_once document xs ys first second =
    let same : first.values ≡ second.values = one_value _ _ _ first.values_are second.values_are in
    let each = rw same at first.entries.each in
    one_base_keys second.values xs ys each second.entries.each

-- at card stands one list of cards
cards_once : (document : Members) (xs ys : List Card) → HasCards document xs → HasCards document ys → xs ≡ ys
cards_once document xs ys first second =
    let same : first.values ≡ second.values = one_value _ _ _ first.values_are second.values_are in
    let each = rw same at first.entries.each in
    one_cards second.values xs ys each second.entries.each

-- a table states one configuration
pub one_config : (document : Members) (x y : Settings) → IsConfigOf document x → IsConfigOf document y → x ≡ y
one_config document x y first second =
    let lmk : x.lmk ≡ y.lmk = one_value _ _ _ first.lmk second.lmk in
    let zone : x.zone ≡ y.zone = one_value _ _ _ first.zone second.zone in
    let loading : x.loading ≡ y.loading = one_value _ _ _ first.loading second.loading in
    let terminals : x.terminals ≡ y.terminals = one_value _ _ _ first.terminals second.terminals in
    let log : x.log ≡ y.log = one_value _ _ _ first.log second.log in
    let disk : x.disk ≡ y.disk = one_value _ _ _ first.stores second.stores in
    let bdks : x.bdks ≡ y.bdks = bdks_once document x.bdks y.bdks first.bdk second.bdk in
    let cards : x.cards ≡ y.cards = cards_once document x.cards y.cards first.card second.card in
    ap (λ v. settings v x.loading x.zone x.terminals x.log x.disk x.bdks x.cards) lmk
    ∙ (ap (λ v. settings y.lmk v x.zone x.terminals x.log x.disk x.bdks x.cards) loading
    ∙ (ap (λ v. settings y.lmk y.loading v x.terminals x.log x.disk x.bdks x.cards) zone
    ∙ (ap (λ v. settings y.lmk y.loading y.zone v x.log x.disk x.bdks x.cards) terminals
    ∙ (ap (λ v. settings y.lmk y.loading y.zone y.terminals v x.disk x.bdks x.cards) log
    ∙ (ap (λ v. settings y.lmk y.loading y.zone y.terminals y.log v x.bdks x.cards) disk
    ∙ (ap (λ v. settings y.lmk y.loading y.zone y.terminals y.log y.disk v x.cards) bdks
    ∙ ap (λ v. settings y.lmk y.loading y.zone y.terminals y.log y.disk y.bdks v) cards))))))

none_wrong : (document : Members) (config : Settings) (k : ConfigKey) → IsConfigOf document config → ¬ IsWrong document k
none_wrong document config key.Lmk is wrong = no_value _ _ is.lmk wrong
none_wrong document config key.Zone is wrong = no_value _ _ is.zone wrong
none_wrong document config key.Loading is wrong = no_value _ _ is.loading wrong
none_wrong document config key.Terminals is wrong = no_value _ _ is.terminals wrong
none_wrong document config key.Log is wrong = no_value _ _ is.log wrong
none_wrong document config key.Stores is wrong = no_value _ _ is.stores wrong
none_wrong document config key.Bdk is wrong = no_value _ _ is.bdk.values_are wrong
none_wrong document config key.Card is wrong = no_value _ _ is.card.values_are wrong

no_bad_entry : (document : Members) (config : Settings) (k : ConfigKey) (place : ℕ) → IsConfigOf document config → ¬ HasBadEntry document k place
no_bad_entry document config key.Bdk place is bad =
    let same : is.bdk.values ≡ bad.0 = one_value _ _ _ is.bdk.values_are bad.1 in
    none_bad StatesBaseKey HaveOnePrefix one_base_key bad.0 config.bdks place (rw same at is.bdk.entries) bad.2
no_bad_entry document config key.Card place is bad =
    let same : is.card.values ≡ bad.0 = one_value _ _ _ is.card.values_are bad.1 in
    none_bad StatesCard HaveOnePan one_card bad.0 config.cards place (rw same at is.card.entries) bad.2
no_bad_entry document config key.Lmk place is bad = bad
no_bad_entry document config key.Zone place is bad = bad
no_bad_entry document config key.Loading place is bad = bad
no_bad_entry document config key.Terminals place is bad = bad
no_bad_entry document config key.Log place is bad = bad
no_bad_entry document config key.Stores place is bad = bad

-- a table that states a configuration is refused as out of memory alone
pub no_fault : (document : Members) (config : Settings) (why : ScriptFault) → IsConfigOf document config → IsFirstTableFault document why → why ≡ fault.NoMemory
no_fault document config (fault.UnknownKey text) is first = absurd (none_unknown _ document first.name is.no_other_key first.first)
no_fault document config (fault.BadKey k) is first = absurd (none_wrong document config k is first.1)
no_fault document config (fault.BadEntry k place) is first = absurd (no_bad_entry document config k place is first.1)
no_fault document config fault.NoMemory is first = refl
no_fault document config fault.ConfigTooLong is first = absurd first
no_fault document config fault.NotToml is first = absurd first
no_fault document config fault.CannotRead is first = absurd first
no_fault document config fault.TooLong is first = absurd first
no_fault document config (fault.NotAnEvent line) is first = absurd first
no_fault document config fault.WriteFailed is first = absurd first

-- a file states one configuration
pub one_file : (bytes : List ℕ) (x y : Settings) → IsConfigFile bytes x → IsConfigFile bytes y → x ≡ y
one_file bytes x y first second =
    let same : first.document ≡ second.document = one_value _ _ _ first.table.table second.table.table in
    one_config second.document x y (subst (λ m. IsConfigOf m x) same first.config_is) second.config_is

no_table_fault : (bytes : List ℕ) (config : Settings) (why : ScriptFault) → IsConfigFile bytes config → HasTableFault bytes why → why ≡ fault.NoMemory
no_table_fault bytes config why file has =
    let same : has.document ≡ file.document = one_value _ _ _ has.table.table file.table.table in
    no_fault file.document config why file.config_is (subst (λ m. IsFirstTableFault m why) same has.first)

-- a file that states a configuration is refused as out of memory alone
pub no_file_fault : (bytes : List ℕ) (config : Settings) (why : ScriptFault) → IsConfigFile bytes config → IsConfigFault bytes why → why ≡ fault.NoMemory
no_file_fault bytes config (fault.UnknownKey name) file has = no_table_fault bytes config (fault.UnknownKey name) file has
no_file_fault bytes config (fault.BadKey k) file has = no_table_fault bytes config (fault.BadKey k) file has
no_file_fault bytes config (fault.BadEntry k place) file has = no_table_fault bytes config (fault.BadEntry k place) file has
no_file_fault bytes config fault.NoMemory file has = refl
no_file_fault bytes config fault.ConfigTooLong file has = let fits = file.fits in absurd (omega arith)
no_file_fault bytes config fault.NotToml file has = absurd (has.1 file.document file.table)
no_file_fault bytes config fault.CannotRead file has = absurd has
no_file_fault bytes config fault.TooLong file has = absurd has
no_file_fault bytes config (fault.NotAnEvent line) file has = absurd has
no_file_fault bytes config fault.WriteFailed file has = absurd has
