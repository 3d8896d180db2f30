use Rattle.std.proofs.Common.{lit<}
use Rattle.std.proofs.lemmas.Str.Pattern.{split_after, split_parts}
use Rattle.duk_script.proofs.LineTokens.{split_found}
use Rattle.duk_script.proofs.tokens.split_token.Goals as goal

pub returns-clause-found : goal.returns-clause-found
returns-clause-found c =
    split_found c.args.text.now c.split_once.result
    (split_parts 32 c.args.text.now c.split_once.result c.split_once.ensures.cases (lit< tt))

pub returns-clause-every : goal.returns-clause-every
returns-clause-every c = λ token rest is.
    split_after 32 c.args.text.now token rest c.split_once.result c.split_once.ensures.cases (lit< tt) is.text_is is.one_token
