use Rattle.duk_host.specs.Host.{host_meaning_of}
use Rattle.duk_host.proofs.AcceptedIsAnswered.{replied}
use Rattle.duk_host.proofs.host.Host.accept.Goals as goal

pub returns-clause-replied : goal.returns-clause-replied
returns-clause-replied g c =
    let meaning = host_meaning_of g.L.UsedLog.meaning g.I.Issuer.decides in
    replied meaning c.args.bytes.now c.args.self.now c.keep.new.self c.remember.new.self c.args.payment.now.request c.reply-last.result c.accepted-answered.result.frame.items
    c.in_ok-keep.ensures.kept c.reply-last.ensures.request c.reply-last.ensures.reply c.remember.ensures c.accepted-answered.ensures.frame
