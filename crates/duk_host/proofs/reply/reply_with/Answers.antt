use Rattle.std.proofs.Common.{rules}
use Rattle.duk_host.proofs.reply.reply_with.Goals as goal

pub returns-clause-reply : goal.returns-clause-reply
returns-clause-reply c keys opened =
    let made = c.reply_mac-mac.ensures.made keys c.args.ksn opened in
    search rules
