-- What an opened number says of a MAC that is not verified.
use Rattle.std.proofs.Common.{◌≡◌, List, ℕ}
use Rattle.duk_hsm.specs.Commands.{IsOtherMac, IsRequestMac, IsTransactionKey}
use Rattle.duk_hsm.specs.Keys.{HsmKeys}
use Rattle.duk_tree.specs.Serial.{Serial}

-- a MAC that is not that of the text is another
pub other_mac : (keys : HsmKeys) (ksn : Serial) (key text mac : List ℕ) → IsTransactionKey keys ksn key → ¬ IsRequestMac keys ksn text mac → IsOtherMac keys ksn text mac
other_mac keys ksn key text mac is not = record { key = key; key_is = is; mac_is_other = λ same. not (record { key = key; key_is = is; mac_is = same }) }
