use Rattle.duk_show.proofs.OneLog.{found}
use Rattle.duk_show.proofs.one_log.first_other.Goals as goal

pub returns : goal.returns
returns c = found _ c.args.numbers.now c.first_unusable.result c.kept_of.ensures c.first_unusable.ensures
