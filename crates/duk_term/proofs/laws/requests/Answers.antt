use Rattle.std.proofs.Common.{subst, sym}
use Rattle.duk_frame.specs.Payment.{request_of}
use Rattle.duk_frame.specs.Request.{IsRequest}
use Rattle.duk_tree.specs.Serial.{IsSerial}
use Rattle.duk_term.specs.Terminal.{serial_of}
use Rattle.duk_term.proofs.laws.requests.Goals as goal

pub returns-clause-request : goal.returns-clause-request
returns-clause-request g c = λ purchase old new frame begun.
    let takes = begun.takes.takes in
    let is_serial : IsSerial (serial_of begun.set) = record { iksn_is = takes.set_is.iksn_is; counter_fits = (c.bits.ensures.usable begun.set.counter takes.usable).0 } in
    let fields = request_of begun.key (serial_of begun.set) purchase.pan purchase.pin purchase.amount in
    subst (λ bytes. IsRequest bytes fields) (sym begun.frame_is)
    (c.payments.ensures.request begun.key (serial_of begun.set) purchase.pan purchase.pin purchase.amount is_serial begun.purchase_is.pan_is begun.purchase_is.amount_fits)

pub returns-clause-pin_block : goal.returns-clause-pin_block
returns-clause-pin_block g c = λ purchase old new frame begun.
    c.one_block.ensures.block purchase.pin purchase.pan begun.purchase_is.pin_is begun.purchase_is.pan_is
