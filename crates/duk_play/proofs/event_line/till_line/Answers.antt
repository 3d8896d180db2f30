use Rattle.std.proofs.Common.{List, ℕ, codes, sym, subst}
use Rattle.duk_script.specs.Script.{terminal_name}
use Rattle.duk_play.specs.inner.Reading.{AreArmBookTokens}
use Rattle.duk_play.proofs.LinesOfTills.{arm_split, book_split, book_tokens, reverse_split}
use Rattle.duk_play.proofs.event_line.till_line.Goals as goal

pub returns-in_err-command-clause-reverse : goal.returns-in_err-command-clause-reverse
returns-in_err-command-clause-reverse c = λ t is. absurd (c.in_err-command.ensures.every (codes "reverse") (terminal_name t) (reverse_split c.args.line.now t is))

pub returns-in_err-command-clause-arm : goal.returns-in_err-command-clause-arm
returns-in_err-command-clause-arm c = λ t n is. absurd (c.in_err-command.ensures.every (codes "arm") (book_tokens t n) (arm_split c.args.line.now t n is))

pub returns-in-reverse-clause-reverse : goal.returns-in-reverse-clause-reverse
returns-in-reverse-clause-reverse c = λ t is.
    let same = c.in_ok-command.ensures.every (codes "reverse") (terminal_name t) (reverse_split c.args.line.now t is) in
    c.reverse.ensures.every t is.terminal same.1

pub returns-in-reverse-clause-arm : goal.returns-in-reverse-clause-arm
returns-in-reverse-clause-arm c = λ t n is.
    let same = c.in_ok-command.ensures.every (codes "arm") (book_tokens t n) (arm_split c.args.line.now t n is) in
    absurd (cc (same.0, c.in-reverse.is))

pub returns-in-arm-clause-reverse : goal.returns-in-arm-clause-reverse
returns-in-arm-clause-reverse c = λ t is.
    let same = c.in_ok-command.ensures.every (codes "reverse") (terminal_name t) (reverse_split c.args.line.now t is) in
    absurd (cc (same.0, c.in-arm.is))

pub returns-in-arm-clause-arm : goal.returns-in-arm-clause-arm
returns-in-arm-clause-arm c = λ t n is.
    let same = c.in_ok-command.ensures.every (codes "arm") (book_tokens t n) (arm_split c.args.line.now t n is) in
    c.arm_book.ensures.every t n (subst (λ (tokens : List ℕ). AreArmBookTokens tokens t n) (sym same.1) (book_split t n is.terminal is.number))

pub returns-in_default-clause-reverse : goal.returns-in_default-clause-reverse
returns-in_default-clause-reverse c = λ t is.
    let same = c.in_ok-command.ensures.every (codes "reverse") (terminal_name t) (reverse_split c.args.line.now t is) in
    absurd (c.in_default.not-reverse same.0)

pub returns-in_default-clause-arm : goal.returns-in_default-clause-arm
returns-in_default-clause-arm c = λ t n is.
    let same = c.in_ok-command.ensures.every (codes "arm") (book_tokens t n) (arm_split c.args.line.now t n is) in
    absurd (c.in_default.not-arm same.0)
