-- Key serial numbers that are opened together, place by place.
use Rattle.std.proofs.Common.{◌≡◌, ◌<◌, ℕ, List, Option, Result, Ok, Err, IfOk, IfErr, length, get_or, sym, ap, subst, ◌∙◌}
use Rattle.std.proofs.lemmas.List.{get_or-map, get_or_default}
use Rattle.std.specs.Option.{option_map}
use Rattle.duk_group.specs.Numbers.{number_at}
use Rattle.duk_tdes.specs.KeyBytes.{bytes_of}
use Rattle.duk_tdes.specs.declared.key.KeyBytes.{KeyBytes}
use Rattle.duk_tree.specs.Serial.{Serial}
use Rattle.duk_hsm.specs.Keys.{HsmKeys}
use Rattle.duk_hsm.specs.Commands.{NoTransactionKey}
use Rattle.duk_hsm.specs.Group.{AskedNumber, IsOpened, numbers_of}
use Rattle.duk_hsm.specs.TransactionKeys.{TransactionKeys}
use Rattle.duk_hsm.specs.declared.fault.HsmFault.{HsmFault}
use Rattle.duk_hsm.specs.inner.Group.{IsBase, IsBaseKey, IsDerived, asked_at}

-- the number of what is asked at a place
pub number_there : (asked : List AskedNumber) (i : ℕ) (one : AskedNumber) → i < length asked → one ≡ get_or asked i one
    → one.ksn ≡ number_at (numbers_of asked) i
number_there asked i one within is =
    ap (λ one. one.ksn) is ∙ sym (get_or-map (λ one. one.ksn) asked i one (record { iksn = 0; counter = 0 }) within)

-- what is asked at a place
pub asked_there : (asked : List AskedNumber) (i : ℕ) (one : AskedNumber) → i < length asked → one ≡ get_or asked i one → one ≡ asked_at asked i
asked_there asked i one within is = is ∙ get_or_default asked i one _ within

-- a base derivation key or why there is none, in each case
pub either_base : (keys : HsmKeys) (ksn : Serial) (base : Result (List ℕ) HsmFault) → IfOk base (IsBaseKey keys ksn)
    → IfErr base (NoTransactionKey keys ksn)
    → IsBase keys ksn base
either_base keys ksn (Ok bdk) found refused = found
either_base keys ksn (Err why) found refused = refused

-- what is derived from the base derivation key of a number opens it, and the same refusal refuses it
pub opened_or_refused :
    (keys : HsmKeys) (ksn : Serial) (held : Option KeyBytes) (base : Result (List ℕ) HsmFault) (place : Result TransactionKeys HsmFault)
    → option_map bytes_of held ≡ keys.zone → IsBase keys ksn base → IsDerived ksn held base place → IsOpened keys ksn place
opened_or_refused keys ksn held (Ok bdk) (Ok opened) zone_is base derived = record {
  key_is = record { bdk = bdk; held = base.held; usable = base.usable; key_is = derived.key_is };
  zone_is = ap (option_map bytes_of) derived.zone_is ∙ zone_is;
}
opened_or_refused keys ksn held (Err why) (Err also) zone_is none same = subst (IsOpened keys ksn) (ap Err same) none
opened_or_refused keys ksn held (Ok bdk) (Err why) zone_is base derived = absurd derived
opened_or_refused keys ksn held (Err why) (Ok opened) zone_is none derived = absurd derived
