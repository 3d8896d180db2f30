use Rattle.std.proofs.Common.{◌≡◌, Some}
use Rattle.duk_play.proofs.LinesOfTills.{IsUtf8_from_arm, IsUtf8_from_reverse, not_utf8, read_none, read_some, text_is}
use Rattle.duk_play.proofs.event_line.read_event.Goals as goal

pub returns-in_err-ok-in-None-clause-every : goal.returns-in_err-ok-in-None-clause-every
returns-in_err-ok-in-None-clause-every c =
    let no_text = c.in_err-ok-in-None.ensures.value in
    read_none (λ said. c.from_residual.result ≡ Some said) c.args.line.now c.in-None.ensures.every
    (λ t is. not_utf8 _ _ _ _ c.from_utf8.ensures.cases no_text (IsUtf8_from_reverse c.args.line.now t is))
    (λ t n is. not_utf8 _ _ _ _ c.from_utf8.ensures.cases no_text (IsUtf8_from_arm c.args.line.now t n is))

pub returns-in-Some-clause-every : goal.returns-in-Some-clause-every
returns-in-Some-clause-every c = λ said is.
    rw c.till_event.ensures (read_some c.args.line.now c.in-Some.said c.in-Some.ensures.found c.in-Some.ensures.every said is)

pub returns-in_ok-ok-in-None-clause-every : goal.returns-in_ok-ok-in-None-clause-every
returns-in_ok-ok-in-None-clause-every c =
    let same = (text_is _ _ _ _ c.from_utf8.ensures.cases c.in_ok-ok-in-None.ensures.value).0 in
    read_none (λ said. c.till_line.result ≡ Some said) c.args.line.now c.in-None.ensures.every
    (λ t is. c.till_line.ensures.reverse t (rw same is)) (λ t n is. c.till_line.ensures.arm t n (rw same is))
