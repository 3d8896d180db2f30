use Rattle.duk_host.proofs.Exchanges.{short_request}
use Rattle.duk_host.proofs.exchange.Exchange.new.Goals as goal

pub frame_of-requires : goal.frame_of-requires
frame_of-requires c = short_request c.serials.ensures.ten c.args.request.now c.args.ksn c.requires.request
