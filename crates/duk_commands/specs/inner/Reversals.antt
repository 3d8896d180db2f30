-- What only private functions and proofs say beside `Reversals.antt`: this project's own.
use Rattle.std.specs.Prelude.{◌≡◌, ◌≢◌}
use Rattle.duk_commands.specs.declared.fault.Fault.{Fault}
use Rattle.duk_commands.specs.declared.fault.Fault.TheVariants.{NotUsable, OtherIksn, SameNumber}
use Rattle.duk_tree.specs.Path.{IsUsable}
use Rattle.duk_tree.specs.Serial.{Serial}

-- why a number does not reverse another: the first of these
abbrev pub IsNotReversed : Serial → Serial → Fault → Type 0
IsNotReversed ksn reversed OtherIksn = reversed.iksn ≢ ksn.iksn
IsNotReversed ksn reversed SameNumber =
    (reversed.iksn ≡ ksn.iksn) × (reversed.counter ≡ ksn.counter)
IsNotReversed ksn reversed NotUsable =
    (reversed.iksn ≡ ksn.iksn) × (reversed.counter ≢ ksn.counter) × ¬ IsUsable reversed.counter
IsNotReversed ksn reversed fault = ⊥
