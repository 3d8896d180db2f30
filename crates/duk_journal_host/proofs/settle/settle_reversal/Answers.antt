use Rattle.std.proofs.Common.{arith, subst}
use Rattle.duk_journal_host.specs.Judgement.{FindsState, reversal_entry}
use Rattle.duk_journal_host.specs.Steps.{IsReversalKnown, IsSettlement}
use Rattle.duk_journal_host.specs.declared.settlement.Settlement.TheVariants.{Full, Kept, Used}
use Rattle.duk_journal_host.proofs.Judging.{on_err}
use Rattle.duk_journal_host.proofs.Settling.{by_one_more, by_same, is_not_used, is_used, new_is, state_unknown, used_is}
use Rattle.duk_journal_host.proofs.settle.settle_reversal.Goals as goal

pub returns-then-contains-clause-settled : goal.returns-then-contains-clause-settled
returns-then-contains-clause-settled c =
    let reversal = c.args.reversal.now in
    let number = reversal.numbers.ksn in
    let index = c.args.index.now in
    let used = is_used c.contains.result c.used.result.now index.used c.ksn.result number c.contains.ensures c.if-contains.true c.used.ensures.used c.ksn.ensures.value in
    by_same (λ entries. IsSettlement entries number c.args.room (IsReversalKnown entries reversal) (FindsState entries reversal.numbers.reversed) Used) index
    (λ entries is. (state_unknown entries index is reversal c.in_default.ensures.none, used_is entries index is number used))

pub returns-then-room-eq0-clause-settled : goal.returns-then-room-eq0-clause-settled
returns-then-room-eq0-clause-settled c =
    let reversal = c.args.reversal.now in
    let number = reversal.numbers.ksn in
    let index = c.args.index.now in
    let new = is_not_used c.contains.result c.used.result.now index.used c.ksn.result number c.contains.ensures c.if-contains.false c.used.ensures.used c.ksn.ensures.value in
    by_same (λ entries. IsSettlement entries number c.args.room (IsReversalKnown entries reversal) (FindsState entries reversal.numbers.reversed) Full) index
    (λ entries is. (state_unknown entries index is reversal c.in_default.ensures.none, new_is entries index is number new, c.if-room-eq0.true))

pub returns-in_err-take-clause-refused : goal.returns-in_err-take-clause-refused
returns-in_err-take-clause-refused c =
    let number = c.args.reversal.now.numbers.ksn in
    let index = c.args.index.now in
    let new = is_not_used c.contains.result c.used.result.now index.used c.ksn.result number c.contains.ensures c.if-contains.false c.used.ensures.used c.ksn.ensures.value in
    on_err _ c.from_residual.result (λ entries is. record { new = new_is entries index is number new; room_left = omega (arith, c.if-room-eq0.false) })

pub returns-clause-settled : goal.returns-clause-settled
returns-clause-settled c =
    let reversal = c.args.reversal.now in
    let number = reversal.numbers.ksn in
    let index = c.args.index.now in
    let state = c.state_of-state.result in
    let new = is_not_used c.contains.result c.used.result.now index.used c.ksn.result number c.contains.ensures c.if-contains.false c.used.ensures.used c.ksn.ensures.value in
    by_one_more (λ entries. IsSettlement entries number c.args.room (IsReversalKnown entries reversal) (FindsState entries reversal.numbers.reversed) (Kept state)) index c.take.new.self
    c.reversal_entry.result (reversal_entry reversal state) c.in_ok-take.field-0 c.reversal_entry.ensures.entry
    (λ entries is. (
      record { new = new_is entries index is number new; room_left = omega (arith, c.if-room-eq0.false) },
      subst (λ number. FindsState entries number state) c.reversed.ensures.value (c.state_of-state.ensures entries is.sets),
    )) new c.in_ok-take.ensures.fresh c.in_ok-take.ensures.numbers c.in_ok-take.ensures.last
