use Rattle.std.proofs.Common.{◌∙◌, ap}
use Rattle.duk_journal_host.specs.Judgement.{refusal_of}
use Rattle.duk_journal.specs.Standing.{used_by}
use Rattle.duk_journal_host.specs.inner.Judged.{IsNoReversal}
use Rattle.duk_journal_host.proofs.NumbersOpened.{not_both}
use Rattle.duk_journal_host.proofs.ReasonsAgainst.{request_dismissed, reversal_dismissed}
use Rattle.duk_journal_host.proofs.authentic.authenticate.Goals as goal

pub returns-in-Err-clause-dismissed : goal.returns-in-Err-clause-dismissed
returns-in-Err-clause-dismissed c = λ keys opens.
    let reversal = c.in-Some.reversal in
    reversal_dismissed keys c.args.frame.now c.refusal.result.items reversal c.in-Err.reason c.in-Some.ensures.found (c.in-Err.ensures.refused keys (opens.reversal reversal c.in-Some.ensures.found))
    (c.refusal.ensures ∙ ap (λ ksn. refusal_of ksn c.in-Err.reason) c.ksn.ensures.value)

pub returns-in-Ok-authenticate_opened-clause-opened : goal.returns-in-Ok-authenticate_opened-clause-opened
returns-in-Ok-authenticate_opened-clause-opened c = λ keys opens.
    let none : IsNoReversal c.args.frame.now = λ reversal is. not_both c.read_reversal.result reversal (c.read_reversal.ensures.every reversal is) c.in-None.is in
    c.in-Ok-authenticate_opened.ensures.opened keys (opens.request none)

pub returns-in-Err-authenticate_opened-clause-dismissed : goal.returns-in-Err-authenticate_opened-clause-dismissed
returns-in-Err-authenticate_opened-clause-dismissed c = λ keys opens.
    let none : IsNoReversal c.args.frame.now = λ reversal is. not_both c.read_reversal.result reversal (c.read_reversal.ensures.every reversal is) c.in-None.is in
    let refused = c.in-Err-authenticate_opened.ensures in
    request_dismissed keys c.args.frame.now c.in-Err-authenticate_opened.refusal.items none (λ request is_request. refused.not_authentic keys request (opens.request none) is_request)
    (λ entries payments decides. refused.refused keys (used_by entries) payments decides (opens.request none))
