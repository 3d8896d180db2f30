use Rattle.std.proofs.Common.{◌++◌, [], subst, sym}
use Rattle.duk_journal_host.specs.Host.{IsIndexOf}
use Rattle.duk_journal_host.specs.Judgement.{IsJudged, line_basis}
use Rattle.duk_journal_host.specs.inner.Draft.{IsDraftUnder, frame_of}
use Rattle.duk_journal_host.proofs.Judging.{on_err}
use Rattle.duk_journal_host.proofs.Steps.{asked_is, has_key, its_code, judged_by_steps, may_be_taken, number_is}
use Rattle.duk_journal_host.proofs.judge.judge_frame.Goals as goal

pub returns-in_err-settled-clause-refused : goal.returns-in_err-settled-clause-refused
returns-in_err-settled-clause-refused g c = on_err _ c.from_residual.result (λ keys capacity opens room entries decides is_index.
    may_be_taken keys entries capacity c.args.room.entries decides c.args.frame.now [] c.one_reading.ensures.request c.in-Ok.authentic (c.in-Ok.ensures.authentic keys opens)
    (c.in_err-settled.ensures.refused capacity room entries is_index))

pub returns-clause-judged : goal.returns-clause-judged
returns-clause-judged g c = λ keys capacity opens room entries is_index.
    let bytes = c.args.frame.now in
    let decides = g.I.Issuer.decides c.args.issuer.now in
    let one_request = c.one_reading.ensures.request in
    let frame = frame_of keys c.answer.result in
    let settled = c.in_ok-settled.settled in
    let is = c.in-Ok.ensures.authentic keys opens in
    let asked = asked_is keys bytes c.in-Ok.authentic settled is c.in_ok-settled.ensures.asked in
    let here = c.in_ok-settled.ensures.settled keys capacity (c.in-Ok.ensures.opened keys opens) room entries is_index in
    let settles = its_code keys entries capacity c.args.room.entries decides bytes frame one_request c.in-Ok.authentic settled is c.in_ok-settled.ensures.asked here.0 in
    let judged = judged_by_steps keys entries capacity c.args.room.entries decides bytes frame one_request settled asked settles (c.answer.ensures.answer keys (has_key keys bytes settled asked)) in (
      subst (λ added. IsJudged (line_basis keys entries capacity c.args.room.entries decides) bytes frame added) (sym c.entry.ensures.entry) judged,
      subst (λ added. IsIndexOf (entries ++ added) c.settle.new.index) (sym c.entry.ensures.entry) here.1,
    )

pub returns-clause-under : goal.returns-clause-under
returns-clause-under g c = λ keys ksn opens number.
    let bytes = c.args.frame.now in
    let settled = c.in_ok-settled.settled in
    let asked = asked_is keys bytes c.in-Ok.authentic settled (c.in-Ok.ensures.authentic keys opens) c.in_ok-settled.ensures.asked in
    subst (λ ksn. IsDraftUnder keys ksn c.answer.result) (sym (number_is keys bytes ksn settled asked number)) (c.answer.ensures.under keys (has_key keys bytes settled asked))
