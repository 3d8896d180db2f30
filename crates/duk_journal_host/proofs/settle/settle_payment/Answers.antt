use Rattle.std.proofs.Common.{◌∙◌, ap, arith, subst}
use Rattle.duk_frame.specs.declared.code.Code.{Code}
use Rattle.duk_host.specs.Judgement.{IsCodeOf}
use Rattle.duk_journal.specs.Standing.{payment_entry}
use Rattle.duk_journal_host.specs.Steps.{IsPurchaseKnown, IsSettlement, purchase_of}
use Rattle.duk_journal_host.specs.declared.authentic.Purchase.{Purchase}
use Rattle.duk_journal_host.specs.declared.settlement.Settlement.TheVariants.{Full, Kept, Used}
use Rattle.duk_journal_host.specs.inner.Judged.{IsCodeKept}
use Rattle.duk_journal_host.proofs.Judging.{on_err}
use Rattle.duk_journal_host.proofs.Settling.{by_one_more, by_same, code_known, code_unknown, is_not_used, is_used, new_is, used_is}
use Rattle.duk_journal_host.proofs.settle.settle_payment.Goals as goal

pub returns-in-Some-clause-settled : goal.returns-in-Some-clause-settled
returns-in-Some-clause-settled g c = λ keys opened.
    let purchase = purchase_of c.args.payment.now.request in
    let kept = subst (λ (purchase : Purchase). IsCodeKept c.args.index.now purchase.number purchase.mac c.in-Some.code) c.of-purchase.ensures c.in-Some.ensures.found in
    by_same (λ entries. IsPurchaseKnown entries purchase c.in-Some.code) c.args.index.now (λ entries is. code_known entries c.args.index.now is purchase c.in-Some.code kept)

pub returns-then-contains-clause-settled : goal.returns-then-contains-clause-settled
returns-then-contains-clause-settled g c = λ keys opened.
    let purchase = purchase_of c.args.payment.now.request in
    let index = c.args.index.now in
    let none : (code : Code) → ¬ IsCodeKept index purchase.number purchase.mac code = λ code. subst (λ (purchase : Purchase). ¬ IsCodeKept index purchase.number purchase.mac code) c.of-purchase.ensures (c.in_default.ensures.none code) in
    let used = is_used c.contains.result c.used.result.now index.used c.of-purchase.result.number purchase.number c.contains.ensures c.if-contains.true c.used.ensures.used (ap (λ (purchase : Purchase). purchase.number) c.of-purchase.ensures) in
    by_same (λ entries. IsSettlement entries purchase.number c.args.room (IsPurchaseKnown entries purchase) (IsCodeOf keys (g.I.Issuer.decides c.args.issuer.now) c.args.payment.now.request) Used) index
    (λ entries is. (code_unknown entries index is purchase none, used_is entries index is purchase.number used))

pub returns-then-room-eq0-clause-settled : goal.returns-then-room-eq0-clause-settled
returns-then-room-eq0-clause-settled g c = λ keys opened.
    let purchase = purchase_of c.args.payment.now.request in
    let index = c.args.index.now in
    let none : (code : Code) → ¬ IsCodeKept index purchase.number purchase.mac code = λ code. subst (λ (purchase : Purchase). ¬ IsCodeKept index purchase.number purchase.mac code) c.of-purchase.ensures (c.in_default.ensures.none code) in
    let new = is_not_used c.contains.result c.used.result.now index.used c.of-purchase.result.number purchase.number c.contains.ensures c.if-contains.false c.used.ensures.used (ap (λ (purchase : Purchase). purchase.number) c.of-purchase.ensures) in
    by_same (λ entries. IsSettlement entries purchase.number c.args.room (IsPurchaseKnown entries purchase) (IsCodeOf keys (g.I.Issuer.decides c.args.issuer.now) c.args.payment.now.request) Full) index
    (λ entries is. (code_unknown entries index is purchase none, new_is entries index is purchase.number new, c.if-room-eq0.true))

pub returns-in_err-take-clause-refused : goal.returns-in_err-take-clause-refused
returns-in_err-take-clause-refused g c =
    let purchase = purchase_of c.args.payment.now.request in
    let index = c.args.index.now in
    let new = is_not_used c.contains.result c.used.result.now index.used c.of-purchase.result.number purchase.number c.contains.ensures c.if-contains.false c.used.ensures.used (ap (λ (purchase : Purchase). purchase.number) c.of-purchase.ensures) in
    on_err _ c.from_residual.result (λ entries is. record { new = new_is entries index is purchase.number new; room_left = omega (arith, c.if-room-eq0.false) })

pub returns-clause-settled : goal.returns-clause-settled
returns-clause-settled g c = λ keys opened.
    let request = c.args.payment.now.request in
    let purchase = purchase_of request in
    let index = c.args.index.now in
    let code = c.code_for-code.result in
    let new = is_not_used c.contains.result c.used.result.now index.used c.of-purchase.result.number purchase.number c.contains.ensures c.if-contains.false c.used.ensures.used (ap (λ (purchase : Purchase). purchase.number) c.of-purchase.ensures) in
    by_one_more (λ entries. IsSettlement entries purchase.number c.args.room (IsPurchaseKnown entries purchase) (IsCodeOf keys (g.I.Issuer.decides c.args.issuer.now) request) (Kept code)) index c.take.new.self
    c.entry.result (payment_entry request.ksn request.amount code request.mac) c.in_ok-take.field-0
    (c.entry.ensures ∙ ap (λ (purchase : Purchase). payment_entry purchase.number purchase.amount code purchase.mac) c.of-purchase.ensures)
    (λ entries is. (record { new = new_is entries index is purchase.number new; room_left = omega (arith, c.if-room-eq0.false) }, c.code_for-code.ensures keys opened)) new
    c.in_ok-take.ensures.fresh c.in_ok-take.ensures.numbers c.in_ok-take.ensures.last
