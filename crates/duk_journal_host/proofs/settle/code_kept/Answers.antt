use Rattle.std.proofs.Common.{Some, ap, ◌∙◌}
use Rattle.duk_journal.specs.declared.entry.Decided.TheVariants.{Payment}
use Rattle.duk_journal_host.proofs.Judging.{if_none}
use Rattle.duk_journal_host.proofs.Settling.{found_payment, not_none, not_reversal}
use Rattle.duk_journal_host.proofs.settle.code_kept.Goals as goal

pub returns-in_err-code-clause-none : goal.returns-in_err-code-clause-none
returns-in_err-code-clause-none c = if_none _ c.from_residual.result (λ code kept.
    let found = found_payment c.args.index.now c.args.ksn c.args.mac code c.decided.result c.decided.ensures.every kept in
    not_none c.decided.result (Payment found.0 code) found.1 c.in_err-code.was)

pub returns-in-Reversal-clause-none : goal.returns-in-Reversal-clause-none
returns-in-Reversal-clause-none c = λ code kept.
    let found = found_payment c.args.index.now c.args.ksn c.args.mac code c.decided.result c.decided.ensures.every kept in
    not_reversal c.decided.result found.0 code c.in-Reversal.counter c.in-Reversal.state found.1 (c.in_ok-code.was ∙ ap Some c.in-Reversal.is)
