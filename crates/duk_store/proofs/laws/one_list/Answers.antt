use Rattle.duk_store.proofs.Kept.{kept_once}
use Rattle.duk_store.proofs.laws.one_list.Goals as goal

pub returns : goal.returns
returns g c = λ bytes one other first second.
    let format = g.F.Format.meaning c.args.format.now in kept_once format c.laws.ensures one other 0 format.headers bytes first.listed second.listed
