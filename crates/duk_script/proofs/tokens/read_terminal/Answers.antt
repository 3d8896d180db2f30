use Rattle.std.proofs.Common.{decimal, None, lit<}
use Rattle.std.proofs.lemmas.Str.Pattern.{strip_prefix_char}
use Rattle.duk_script.proofs.tokens.read_terminal.Goals as goal

pub returns-in_err-strip_prefix-clause-every : goal.returns-in_err-strip_prefix-clause-every
returns-in_err-strip_prefix-clause-every c = λ t is named.
    absurd (strip_prefix_char 116 c.args.token.now None c.in_err-strip_prefix.ensures.cases (lit< tt) (decimal t) named)
