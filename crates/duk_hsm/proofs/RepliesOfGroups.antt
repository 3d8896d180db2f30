-- Replies to key serial numbers that were opened together.
use Rattle.std.proofs.Common.{◌≡◌, ◌∙◌, ℕ, List, Result, Ok, Err, refl, ap, arith}
use Rattle.duk_mac.specs.Retail.{retail_of}
use Rattle.duk_tree.specs.Derivation.{response_key_of}
use Rattle.duk_tree.specs.Serial.{Serial}
use Rattle.duk_hsm.specs.Keys.{HsmKeys}
use Rattle.duk_hsm.specs.Commands.{HasTransactionKey, IsReplyMac, NoTransactionKey}
use Rattle.duk_hsm.specs.Group.{IsOpened}
use Rattle.duk_hsm.specs.TransactionKeys.{TransactionKeys}
use Rattle.duk_hsm.specs.declared.fault.HsmFault.{HsmFault}
use Rattle.duk_hsm.specs.declared.fault.HsmFault.TheVariants as fault

-- a number that has a transaction key is not refused
not_refused : (keys : HsmKeys) (ksn : Serial) (why : HsmFault) → HasTransactionKey keys ksn → NoTransactionKey keys ksn why → ⊥
not_refused keys ksn fault.NoKeySet has none = grind (arith, has.1.held, none)
not_refused keys ksn fault.BadCounter has bad = bad.unusable has.1.usable
not_refused keys ksn (fault.Block _) has cause = cause
not_refused keys ksn fault.WrongUse has cause = cause
not_refused keys ksn fault.PrefixTaken has cause = cause
not_refused keys ksn fault.SlotsFull has cause = cause
not_refused keys ksn fault.ZoneTaken has cause = cause
not_refused keys ksn fault.NoZone has cause = cause
not_refused keys ksn fault.BadMac has cause = cause
not_refused keys ksn fault.BadPinBlock has cause = cause

-- a MAC under the variant of the key that was opened
pub reply_made :
    (keys : HsmKeys) (ksn : Serial) (opened : Result TransactionKeys HsmFault) (key text mac : List ℕ)
    → IsOpened keys ksn opened → HasTransactionKey keys ksn
    → ((one : TransactionKeys) → opened ≡ Ok one → key ≡ one.key)
    → mac ≡ retail_of (response_key_of key) text
    → IsReplyMac keys ksn text mac
reply_made keys ksn (Ok one) key text mac is has key_is mac_is = record {
  key = one.key;
  key_is = is.key_is;
  mac_is = mac_is ∙ ap (λ key. retail_of (response_key_of key) text) (key_is one refl);
}
reply_made keys ksn (Err why) key text mac is has key_is mac_is = absurd (not_refused keys ksn why has is)
