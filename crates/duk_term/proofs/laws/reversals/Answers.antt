use Rattle.std.proofs.Common.{subst, sym}
use Rattle.duk_reversal.specs.Authentic.{reversal_of}
use Rattle.duk_reversal.specs.Reversal.{IsReversal}
use Rattle.duk_tree.specs.Serial.{IsIksn, IsSerial}
use Rattle.duk_term.specs.Reversal.{numbers_of}
use Rattle.duk_term.specs.Terminal.{serial_of}
use Rattle.duk_term.proofs.Reversals.{reverses}
use Rattle.duk_term.proofs.laws.reversals.Goals as goal

pub returns : goal.returns
returns g c = λ reversed ksn frame old new begun.
    let takes = begun.takes.takes in
    let next = serial_of begun.set in
    let numbers = numbers_of begun.set reversed in
    let next_is : IsSerial next = record { iksn_is = takes.set_is.iksn_is; counter_fits = (c.bits.ensures.usable begun.set.counter takes.usable).0 } in
    let reversed_is : IsSerial reversed = record {
      iksn_is = subst (λ iksn. IsIksn iksn) (sym begun.used.same_iksn) takes.set_is.iksn_is;
      counter_fits = (c.bits.ensures.usable reversed.counter begun.used.usable).0;
    } in
    subst (λ bytes. IsReversal bytes (reversal_of begun.key numbers)) (sym begun.frame_is)
    (c.authentic.ensures.reversal begun.key numbers
    (record { ksn_is = next_is; reversed_is = reversed_is; reverses = reverses next reversed begun.used }))
