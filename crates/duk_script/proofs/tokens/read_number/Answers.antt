use Rattle.std.proofs.Common.{refl, sym, subst, arith}
use Rattle.std.proofs.lemmas.Bool.{false≢true}
use Rattle.duk_script.specs.inner.Reading.{IsPlainNumber}
use Rattle.duk_script.proofs.LineTokens.{number_found, number_every, plain_decimal}
use Rattle.duk_script.proofs.tokens.read_number.Goals as goal

pub returns-then-not-is_plain-clause-every : goal.returns-then-not-is_plain-clause-every
returns-then-not-is_plain-clause-every c = λ number fits is.
    absurd (false≢true (c.if-not-is_plain.ensures.every (subst IsPlainNumber (sym is) (plain_decimal number (omega arith)))))

pub returns-clause-found : goal.returns-clause-found
returns-clause-found c =
    rw c.ok.ensures.value (number_found c.args.token.now c.parse.result (c.if-not-is_plain.ensures.plain refl) c.parse.ensures.value.0)

pub returns-clause-every : goal.returns-clause-every
returns-clause-every c = λ number fits is.
    rw c.ok.ensures.value (number_every c.args.token.now c.parse.result c.parse.ensures.value.0 number fits is)
