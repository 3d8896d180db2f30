use Rattle.std.proofs.Common.{Some, ap, ◌∙◌, sym}
use Rattle.duk_journal.specs.declared.entry.Decided.TheVariants.{Reversal}
use Rattle.duk_tree.specs.Serial.{Serial}
use Rattle.duk_journal_host.proofs.Judging.{if_none}
use Rattle.duk_journal_host.proofs.Settling.{found_reversal, not_none, not_reversal, one_counter}
use Rattle.duk_journal_host.proofs.settle.state_kept.Goals as goal

pub returns-in_err-counter-clause-none : goal.returns-in_err-counter-clause-none
returns-in_err-counter-clause-none c = if_none _ c.from_residual.result (λ state kept.
    let reversal = c.args.reversal.now in
    let found = found_reversal c.args.index.now reversal c.ksn.result state c.decided.result c.ksn.ensures.value c.decided.ensures.every kept in
    not_none c.decided.result (Reversal reversal.numbers.reversed.counter state) found c.in_err-counter.was)

pub returns-in-Payment-clause-none : goal.returns-in-Payment-clause-none
returns-in-Payment-clause-none c = λ state kept.
    let reversal = c.args.reversal.now in
    let found = found_reversal c.args.index.now reversal c.ksn.result state c.decided.result c.ksn.ensures.value c.decided.ensures.every kept in
    not_reversal c.decided.result c.in-Payment.amount c.in-Payment.code reversal.numbers.reversed.counter state (c.in_ok-counter.was ∙ ap Some c.in-Payment.is) found

pub returns-then-counter-clause-none : goal.returns-then-counter-clause-none
returns-then-counter-clause-none c = λ state kept.
    let reversal = c.args.reversal.now in
    let found = found_reversal c.args.index.now reversal c.ksn.result state c.decided.result c.ksn.ensures.value c.decided.ensures.every kept in
    let same = one_counter c.decided.result c.in-Reversal.counter reversal.numbers.reversed.counter c.in-Reversal.state state (c.in_ok-counter.was ∙ ap Some c.in-Reversal.is) found in
    c.if-counter.true (same ∙ sym (c.counter.ensures.value ∙ ap (λ (serial : Serial). serial.counter) c.reversed.ensures.value))
