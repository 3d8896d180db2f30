-- The state of a till's last purchase: this project's own.
use Rattle.std.specs.Prelude.{◌≢◌, ◌<◌, ◌^◌, ℕ}
use Rattle.duk_frame.specs.declared.code.Code.{Code}
use Rattle.duk_frame.specs.declared.code.Code.TheVariants as code
use Rattle.duk_tree.specs.Serial.{Serial, IsSerial}
use Rattle.duk_till.specs.declared.last.Last.{Last}
use Rattle.duk_till.specs.declared.last.Last.TheVariants.{Open, Approved, Declined, Undone}

-- the fields of a state are what their names say: an amount has four bytes, and the code of a
-- declined purchase is not that of an approved one
abbrev pub AreLastFields : Last → Type 0
AreLastFields (Open ksn amount) = IsSerial ksn × (amount < 2 ^ 32)
AreLastFields (Approved ksn amount) = IsSerial ksn × (amount < 2 ^ 32)
AreLastFields (Declined ksn why) = IsSerial ksn × (why ≢ code.Approved)
AreLastFields (Undone ksn) = IsSerial ksn

-- the number of the purchase
abbrev pub number_of : Last → Serial
number_of (Open ksn amount) = ksn
number_of (Approved ksn amount) = ksn
number_of (Declined ksn why) = ksn
number_of (Undone ksn) = ksn

-- what becomes of an open purchase by the code of its reply
abbrev pub outcome_of : Serial → ℕ → Code → Last
outcome_of ksn amount code.Approved = Approved ksn amount
outcome_of ksn amount why = Declined ksn why
