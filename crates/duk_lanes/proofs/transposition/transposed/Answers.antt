use Rattle.duk_lanes.proofs.Transposed.{transposed_words}
use Rattle.duk_lanes.proofs.transposition.transposed.Goals as goal

pub returns : goal.returns
returns c =
    transposed_words c.args.words.now c.pass-by_32.result c.pass-by_16.result c.pass-by_8.result c.pass-by_4.result c.pass-by_2.result c.pass.result
    c.pass-by_32.ensures c.pass-by_16.ensures c.pass-by_8.ensures c.pass-by_4.ensures c.pass-by_2.ensures c.pass.ensures
