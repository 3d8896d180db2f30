use Rattle.std.proofs.Common.{subst}
use Rattle.duk_tree.specs.Path.{IsUsable}
use Rattle.duk_show.proofs.OneLog.{taken}
use Rattle.duk_show.proofs.one_log.take_in.Goals as goal

pub returns : goal.returns
returns c =
    let usable = subst IsUsable c.counter.ensures.value (c.usable.ensures.usable.0 c.if-not-usable.false) in
    taken c.args.used.now c.args.ksn c.insert.new.self c.insert.result usable c.insert.ensures.added c.insert.ensures.fresh
