use Rattle.duk_store.proofs.Grown.{keeps_grown, kept_before}
use Rattle.duk_store.proofs.laws.grown.Goals as goal

pub returns : goal.returns
returns g c =
    let format = g.F.Format.meaning c.args.format.now in
    let laws = c.laws.ensures in
    record {
      keeps = λ bytes items count some keeps. keeps_grown format laws bytes count items some keeps;
      nothing_else = λ bytes items count silent size keeps. kept_before format laws bytes count silent size.0 size.2 items size.1 keeps;
    }
