use Rattle.std.proofs.Common.{subst, sym}
use Rattle.duk_host.specs.Judgement.{IsCodeOf}
use Rattle.duk_journal_host.specs.Steps.{purchase_of}
use Rattle.duk_journal_host.specs.declared.settlement.Settled.TheVariants as settled
use Rattle.duk_journal_host.specs.inner.Steps.{IsItsCode, IsOpenedUnder, SettlesPurchase, SettlesTo}
use Rattle.duk_journal_host.proofs.settle.settle.Goals as goal

pub returns-in_ok-settlement-in-Payment-clause-settled : goal.returns-in_ok-settlement-in-Payment-clause-settled
returns-in_ok-settlement-in-Payment-clause-settled g c = λ keys capacity opened room.
    let payment = c.in-Payment.payment in
    let settlement = c.in_ok-settlement-in-Payment.settlement in
    let decides = g.I.Issuer.decides c.args.issuer.now in
    let old = c.args.index.now in
    let new = c.settle_payment.new.index in
    let here = c.in_ok-settlement-in-Payment.ensures.settled keys (subst (λ authentic. IsOpenedUnder keys authentic) c.in-Payment.is opened) in
    subst (λ authentic. SettlesTo capacity c.args.room.entries (IsItsCode keys decides authentic) old new (settled.Payment c.of.result settlement)) (sym c.in-Payment.is)
    (subst (λ purchase. SettlesTo capacity c.args.room.entries (IsCodeOf keys decides payment.request) old new (settled.Payment purchase settlement)) (sym c.of.ensures)
    (subst (λ payments. SettlesPurchase payments (purchase_of payment.request) (IsCodeOf keys decides payment.request) old new settlement) room here))
